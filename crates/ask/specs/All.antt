-- All words of a text, in order. docs/CODES.md, A request in words.
use Rattle.std.specs.Prelude.{Bool, cond, List, [], ◌∷◌, Result, Ok, Err, is_ok, ℕ, ◌+◌, leb, eqb, length}
use Rattle.std.specs.List.{slice_split}
use Rattle.ask.specs.Sheet.{wrong_of, sheet_with}
use Rattle.ask.specs.declared.Wrong.{Wrong}
use Rattle.ask.specs.declared.WrongWord.{WrongWord}

-- words are parted by blanks, tabs and line ends: any byte up to 32
abbrev pub is_blank : ℕ → Bool
is_blank b = leb b 32

-- what stands between them, in order: a word, or nothing
abbrev pub parts_of : (text : List ℕ) → List (List ℕ)
parts_of t = slice_split is_blank t

-- what is wrong with a part
unfoldable pub part_wrong : (sheet part : List ℕ) → Result (Unit {0}) Wrong
part_wrong s w = cond (eqb (length w) 0) (Ok tt) (wrong_of s w)

-- the sheet with it
unfoldable pub with_part : (sheet part : List ℕ) → List ℕ
with_part s w = cond (eqb (length w) 0) s (sheet_with s w)

-- what is wrong with the word from a place on, and where it stands
abbrev pub at_word : (from to : ℕ) → Result (Unit {0}) Wrong → Result (Unit {0}) WrongWord
at_word from to (Ok u) = Ok u
at_word from to (Err e) = Err (record { wrong = e; from = from; to = to })

-- all parts from a place on put on a sheet: the first wrong word ends it, and is told by its place
unfoldable pub taken_from : (from : ℕ) → (sheet : List ℕ) → (parts : List (List ℕ)) → Result (Unit {0}) WrongWord
taken_from from s [] = Ok tt
taken_from from s (w ∷ ws) =
    cond (is_ok (part_wrong s w)) (taken_from (from + length w + 1) (with_part s w) ws) (at_word from (from + length w) (part_wrong s w))

-- the sheet that they leave
unfoldable pub sheet_from : (sheet : List ℕ) → (parts : List (List ℕ)) → List ℕ
sheet_from s [] = s
sheet_from s (w ∷ ws) = cond (is_ok (part_wrong s w)) (sheet_from (with_part s w) ws) s

-- of a whole text
abbrev pub taken_by : (sheet text : List ℕ) → Result (Unit {0}) WrongWord
taken_by s t = taken_from 0 s (parts_of t)

-- its sheet
abbrev pub sheet_by : (sheet text : List ℕ) → List ℕ
sheet_by s t = sheet_from s (parts_of t)
