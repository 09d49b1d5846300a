-- Parts of a text, and names in a table. docs/CODES.md, A request in words.
use Rattle.std.specs.Prelude.{Bool, true, false, cond, ◌&&◌, List, [], ◌∷◌, ◌++◌, Option, None, Some, ℕ, ◌-◌, eqb, length, map, codes, position, replicate}
use Rattle.std.specs.List.{position_or_len, before_first, after_first}
use Rattle.std.specs.Borrow.{Bor}
use Prim.Native.String.{String}

-- a name, and blanks behind it up to twelve columns
abbrev pub column : List ℕ → List ℕ
column name = name ++ replicate (12 - length name) 32

-- a table of names, from quoted texts
abbrev pub table_of : List String → List (List ℕ)
table_of names = map codes names

-- what a reference to a name says
abbrev pub text_of : Bor (List ℕ) → List ℕ
text_of name = name.now

-- a table of names, from references
abbrev pub texts_of : List (Bor (List ℕ)) → List (List ℕ)
texts_of names = map text_of names

-- what stands before the first byte b; all where there is none
abbrev pub before : (b : ℕ) → List ℕ → List ℕ
before b s = before_first (λ x. eqb x b) s

-- what stands behind it
abbrev pub behind : (b : ℕ) → List ℕ → List ℕ
behind b s = after_first (λ x. eqb x b) s

-- whether a text lacks a byte
abbrev pub lacks : (b : ℕ) → List ℕ → Bool
lacks b s = eqb (position_or_len (λ x. eqb x b) s) (length s)

-- what stands behind the first byte b; none where there is none
abbrev pub rest_behind : (b : ℕ) → List ℕ → Option (List ℕ)
rest_behind b s = cond (lacks b s) None (Some (behind b s))

-- whether a column holds a name, and blanks behind it
unfoldable pub is_name : (column name : List ℕ) → Bool
is_name [] [] = true
is_name [] (x ∷ xs) = false
is_name (c ∷ cs) [] = eqb c 32 && is_name cs []
is_name (c ∷ cs) (x ∷ xs) = eqb c x && is_name cs xs

-- the number of the first name of a table whose column holds a name; none where none does
unfoldable pub number_in : (names : List (List ℕ)) → (name : List ℕ) → Option ℕ
number_in names name = position (λ listed. is_name (column listed) name) names
