-- A PLL, an entry, a word of a bank, a byte of a request and a register as the numbers of one line: docs/CODES.md, The page of a plan.
use Rattle.std.specs.Prelude.{cond, ◌||◌, List, [], ◌∷◌, ℕ, ◌+◌, ◌/◌, ◌%◌, ◌^◌, eqb, length, get_or}
use Rattle.rules.specs.Document01.Entries.{bit}
use Rattle.rules.specs.Manual.Tree.{word}

-- PLL n by its PLLSRC and its 18 words (docs/CODES.md, A PLL as words): n; the clock that feeds it, HSE for PLLSRC 3 and else HSI; M, the
-- reference, N, whether there is a fraction, FRACN, the VCO's hertz, and its range's name, behind those of 30 clocks
unfoldable pub pll_line : (n src : ℕ) → (words : List ℕ) → List ℕ
pll_line n src w = n ∷ cond (eqb src 3) 12 8 ∷ word w 2 ∷ word w 3 ∷ word w 5 ∷ word w 6 ∷ word w 7 ∷ word w 8 ∷ (30 + word w 0) ∷ []

-- entry i by its nine words (docs/CODES.md, Entries as words): its place from 1; its kind's name, behind those of 82 fields; then four times a
-- field and its value
unfoldable pub entry_line : (i : ℕ) → (words : List ℕ) → List ℕ
entry_line i w = (i + 1) ∷ (82 + word w 0) ∷ word w 1 ∷ word w 2 ∷ word w 3 ∷ word w 4 ∷ word w 5 ∷ word w 6 ∷ word w 7 ∷ word w 8 ∷ []

-- word f of a bank: f, its name, as fields' names are numbered from 1; the word; whether it ends a row of three
unfoldable pub word_line : (bank : List ℕ) → (f : ℕ) → List ℕ
word_line b f = f ∷ (f + 1) ∷ word b f ∷ bit (eqb (f % 3) 2) ∷ []

-- byte i of a request: whether it begins a row of thirty, its two hexadecimal digits, whether it ends a row or the request
unfoldable pub byte_line : (request : List ℕ) → (i : ℕ) → List ℕ
byte_line q i = bit (eqb (i % 30) 0) ∷ get_or q i 0 / 16 ∷ get_or q i 0 % 16 ∷ bit (eqb (i % 30) 29 || eqb (i + 1) (length q)) ∷ []

-- hexadecimal digit k of a word, the last as 0
abbrev pub digit_at : (w k : ℕ) → ℕ
digit_at w k = w / 16 ^ k % 16

-- a register: its eight hexadecimal digits, from the left
unfoldable pub hex_line : (w : ℕ) → List ℕ
hex_line w = digit_at w 7 ∷ digit_at w 6 ∷ digit_at w 5 ∷ digit_at w 4 ∷ digit_at w 3 ∷ digit_at w 2 ∷ digit_at w 1 ∷ digit_at w 0 ∷ []
