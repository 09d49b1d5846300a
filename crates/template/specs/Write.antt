-- Numbers and names as texts.
use Rattle.std.specs.Prelude.{cond, List, [], ◌∷◌, ◌++◌, ℕ, zero, suc, ◌+◌, ◌-◌, ◌/◌, ◌%◌, ltb, length, get_or, replicate}
use Rattle.text.specs.Names.{column}

-- a number in decimal, of at most so many digits and one more
abbrev pub digits_of : ℕ → ℕ → List ℕ
digits_of zero n = (48 + n % 10) ∷ []
digits_of (suc more) n = cond (ltb n 10) ((48 + n % 10) ∷ []) (digits_of more (n / 10) ++ ((48 + n % 10) ∷ []))

-- a number of 64 bits has twenty at most
unfoldable pub decimal_of : ℕ → List ℕ
decimal_of n = digits_of 19 n

-- blanks before a text, up to w columns
abbrev pub aligned : (w : ℕ) → List ℕ → List ℕ
aligned w s = replicate (w - length s) 32 ++ s

-- name n of a table; nothing where there is none
abbrev pub name_of : (names : List (List ℕ)) → (n : ℕ) → List ℕ
name_of names n = get_or names n []

-- the same with blanks behind it up to twelve columns; nothing where there is none
unfoldable pub column_of : (names : List (List ℕ)) → (n : ℕ) → List ℕ
column_of names n = cond (ltb n (length names)) (column (name_of names n)) []
