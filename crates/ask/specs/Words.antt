-- What a word says: bytes for a place of a sheet, or what is wrong with it. docs/CODES.md, A request in words.
use Rattle.std.specs.Prelude.{cond, List, [], ◌∷◌, Option, Some, None, option_and_then, Result, Ok, Err, ℕ, ◌+◌, ◌/◌, ◌%◌, ltb}
use Rattle.text.specs.Names.{before, rest_behind, number_in}
use Rattle.text.specs.Numbers.{read_some, hertz_of}
use Rattle.ask.specs.Table.{key_names, key_at, mco1_names, mco2_names, strategy_names, count_names, show_names}
use Rattle.ask.specs.declared.Key.{Key}
use Rattle.ask.specs.declared.Kind.{Kind}
use Rattle.ask.specs.declared.Kind.TheVariants.{Hertz, Nothing, Mco1, Mco2, Strategy, Count, Small, Shown, Digits}
use Rattle.ask.specs.declared.Said.{Said}
use Rattle.ask.specs.declared.Wrong.{Wrong}
use Rattle.ask.specs.declared.Wrong.TheVariants.{Value, NoSuchKey}

-- count bytes to store from a key's place on
abbrev pub stores : Key → (count : ℕ) → (bytes : List ℕ) → Result Said Wrong
stores y n b = Ok (record { place = y.place; count = n; bytes = b })

-- a wrong value, told by the kind that would be right
abbrev pub wrong_value : Key → Result Said Wrong
wrong_value y = Err (Value y.kind)

-- one byte, by its number
abbrev pub one_byte : Key → (first : ℕ) → (number : Option ℕ) → Result Said Wrong
one_byte y first None = wrong_value y
one_byte y first (Some n) = stores y 1 ((first + n) ∷ 0 ∷ 0 ∷ 0 ∷ 0 ∷ 0 ∷ [])

-- hertz: 1, then four bytes, little-endian
abbrev pub hertz_said : Key → Option ℕ → Result Said Wrong
hertz_said y None = wrong_value y
hertz_said y (Some h) = stores y 5 (1 ∷ h % 256 ∷ h / 256 % 256 ∷ h / 65536 % 256 ∷ h / 16777216 ∷ 0 ∷ [])

-- a number below 256
abbrev pub small : List ℕ → Option ℕ
small v = option_and_then (λ n. cond (ltb n 256) (Some n) None) (read_some 0 v)

-- an MCO's source and its hertz
abbrev pub mco_hertz : Key → (code : ℕ) → Option ℕ → Result Said Wrong
mco_hertz y c None = wrong_value y
mco_hertz y c (Some h) = stores y 6 (c ∷ 1 ∷ h % 256 ∷ h / 256 % 256 ∷ h / 65536 % 256 ∷ h / 16777216 ∷ [])

-- its source, and what stands behind a colon or none
abbrev pub mco_source : Key → (code : Option ℕ) → Option (List ℕ) → Result Said Wrong
mco_source y None h = wrong_value y
mco_source y (Some c) None = stores y 6 (c ∷ 0 ∷ 0 ∷ 0 ∷ 0 ∷ 0 ∷ [])
mco_source y (Some c) (Some h) = mco_hertz y c (hertz_of h)

-- an MCO: a source, and hertz behind a colon or none
unfoldable pub mco_said : Key → (names : List (List ℕ)) → (value : List ℕ) → Result Said Wrong
mco_said y names v = mco_source y (number_in names (before 58 v)) (rest_behind 58 v)

-- a value of each kind
abbrev pub value_by : Kind → Key → (value : List ℕ) → Result Said Wrong
value_by Hertz y v = hertz_said y (hertz_of v)
value_by Nothing y v = wrong_value y
value_by Mco1 y v = mco_said y mco1_names v
value_by Mco2 y v = mco_said y mco2_names v
value_by Strategy y v = one_byte y 0 (number_in strategy_names v)
value_by Count y v = one_byte y 2 (number_in count_names v)
value_by Small y v = one_byte y 0 (small v)
value_by Shown y v = one_byte y 0 (number_in show_names v)
value_by Digits y v = wrong_value y

unfoldable pub value_said : Key → (value : List ℕ) → Result Said Wrong
value_said y v = value_by y.kind y v

-- a key without a value
abbrev pub bare_by : Kind → Key → Result Said Wrong
bare_by Nothing y = stores y 1 (1 ∷ 0 ∷ 0 ∷ 0 ∷ 0 ∷ 0 ∷ [])
bare_by _ y = wrong_value y

unfoldable pub bare_said : Key → Result Said Wrong
bare_said y = bare_by y.kind y

-- a key, and a value or none
abbrev pub key_said : Key → (value : Option (List ℕ)) → Result Said Wrong
key_said y None = bare_said y
key_said y (Some v) = value_said y v

-- the key of a word, by its number
abbrev pub key_of : List ℕ → Option ℕ
key_of w = number_in key_names (before 61 w)

-- its value
abbrev pub value_of : List ℕ → Option (List ℕ)
value_of w = rest_behind 61 w

-- a word: a key, or a key, = and a value
abbrev pub said_at : (key : Option ℕ) → (value : Option (List ℕ)) → Result Said Wrong
said_at None v = Err NoSuchKey
said_at (Some k) v = key_said (key_at k) v

unfoldable pub said_by : List ℕ → Result Said Wrong
said_by w = said_at (key_of w) (value_of w)
