-- Words put on a sheet, and a key taken off it. docs/CODES.md, A request in words.
use Rattle.std.specs.Prelude.{Bool, true, false, cond, ◌&&◌, List, [], ◌∷◌, Option, Some, None, is_some, unwrap_or, Result, Ok, Err, ℕ, ◌+◌, ◌-◌, ◌*◌, ◌/◌, ◌%◌, leb, eqb, length, get_or, take, drop, set}
use Rattle.std.specs.List.{list_all}
use Rattle.std.proofs.lemmas.List.Edits.{sets}
use Rattle.sheet.specs.Sheet.{chip_at, given_at, fresh_sheet}
use Rattle.ask.specs.Table.{key_at}
use Rattle.ask.specs.Words.{key_of, value_of, said_by}
use Rattle.ask.specs.declared.Kind.{Kind}
use Rattle.ask.specs.declared.Kind.TheVariants.{Hertz, Mco1, Mco2, Digits}
use Rattle.ask.specs.declared.Said.{Said}
use Rattle.ask.specs.declared.Wrong.{Wrong}
use Rattle.ask.specs.declared.Wrong.TheVariants.{Value}

-- ---- bytes=: pairs of hexadecimal digits
-- a digit's value
abbrev pub nibble : ℕ → Option ℕ
nibble b = cond (leb 48 b && leb b 57) (Some (b - 48)) (cond (leb 97 b && leb b 102) (Some (b - 87)) (cond (leb 65 b && leb b 70) (Some (b - 55)) None))

-- whether all are digits, an even number of them
abbrev pub is_hex : List ℕ → Bool
is_hex v = list_all (λ b. is_some (nibble b)) v && eqb (length v % 2) 0

-- 0 stands for what is none
abbrev pub digit_value : ℕ → ℕ
digit_value b = unwrap_or (nibble b) 0

-- the bytes
unfoldable pub hex_bytes : List ℕ → List ℕ
hex_bytes [] = []
hex_bytes (a ∷ []) = []
hex_bytes (a ∷ b ∷ s) = (16 * digit_value a + digit_value b) ∷ hex_bytes s

-- whether they fit behind the n bytes that are given already
abbrev pub hex_fits : (n : ℕ) → List ℕ → Bool
hex_fits n v = is_hex v && leb (n + length v / 2) chip_at

-- what is wrong with the value of bytes=
abbrev pub bytes_wrong : (sheet value : List ℕ) → Result (Unit {0}) Wrong
bytes_wrong s v = cond (hex_fits (get_or s given_at 0) v) (Ok tt) (Err (Value Digits))

-- the sheet with it, behind what is given already
abbrev pub with_bytes : (sheet value : List ℕ) → List ℕ
with_bytes s v = cond (hex_fits (get_or s given_at 0) v) (set (sets s (get_or s given_at 0) (hex_bytes v)) given_at (get_or s given_at 0 + length v / 2)) s

-- ---- a word on a sheet
-- the kind of bytes=
abbrev pub are_digits : Kind → Bool
are_digits Digits = true
are_digits _ = false

-- whether the word is bytes= and a value
abbrev pub is_bytes : (key : Option ℕ) → (value : Option (List ℕ)) → Bool
is_bytes None v = false
is_bytes (Some k) None = false
is_bytes (Some k) (Some v) = are_digits (key_at k).kind

-- what is wrong with what a word says
abbrev pub told : Result Said Wrong → Result (Unit {0}) Wrong
told (Ok q) = Ok tt
told (Err e) = Err e

-- the sheet with it
abbrev pub with_said : (sheet : List ℕ) → Result Said Wrong → List ℕ
with_said s (Ok q) = sets s q.place (take q.count q.bytes)
with_said s (Err e) = s

-- what is wrong with a word
unfoldable pub wrong_of : (sheet word : List ℕ) → Result (Unit {0}) Wrong
wrong_of s w = cond (is_bytes (key_of w) (value_of w)) (bytes_wrong s (unwrap_or (value_of w) [])) (told (said_by w))

-- the sheet with it: a wrong word changes nothing, a later word stands over an earlier one, and bytes= goes on where the last one ended
unfoldable pub sheet_with : (sheet word : List ℕ) → List ℕ
sheet_with s w = cond (is_bytes (key_of w) (value_of w)) (with_bytes s (unwrap_or (value_of w) [])) (with_said s (said_by w))

-- ---- a sheet without a key
-- how many bytes a key has, by the kind of its value
abbrev pub width_of : Kind → ℕ
width_of Hertz = 5
width_of Mco1 = 6
width_of Mco2 = 6
width_of _ = 1

-- its bytes as on a fresh sheet
unfoldable pub without_key : (sheet : List ℕ) → (k : ℕ) → List ℕ
without_key s k = sets s (key_at k).place (take (width_of (key_at k).kind) (drop (key_at k).place fresh_sheet))
