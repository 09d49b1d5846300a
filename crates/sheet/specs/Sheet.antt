-- A sheet: the bytes of a request and of a chip that words fill in. docs/CODES.md, A request in words.
use Rattle.std.specs.Prelude.{Bool, cond, not, ◌||◌, List, [], ◌∷◌, ◌++◌, ℕ, ◌+◌, ◌-◌, min, eqb, length, get_or, take, drop, replicate}
use Rattle.std.specs.List.{list_all}
use Rattle.types.specs.declared.Chip.{Chip}

-- where PLL3's part of a request stands, the chip's seven numbers, what is shown, and how many bytes are given
abbrev pub pll3_at : ℕ
pll3_at = 90

abbrev pub chip_at : ℕ
chip_at = 106

abbrev pub shown_at : ℕ
shown_at = 113

abbrev pub given_at : ℕ
given_at = 114

-- nothing requested, of a chip with two PLLs as docs/CODES.md has it by default; the plan is shown, no bytes are given
unfoldable pub fresh_sheet : List ℕ
fresh_sheet = replicate chip_at 0 ++ (2 ∷ 0 ∷ 1 ∷ 1 ∷ 0 ∷ 1 ∷ 2 ∷ 0 ∷ 0 ∷ [])

-- ---- what the planner is asked
-- whether all bytes are 0
abbrev pub all_zero : List ℕ → Bool
all_zero bs = list_all (λ b. eqb b 0) bs

-- how many bytes are meant: as many as bytes= gave; else 106 with three PLLs or anything requested of PLL3, else 90
abbrev pub bytes_meant : List ℕ → ℕ
bytes_meant s =
    cond (eqb (get_or s given_at 0) 0) (cond (eqb (get_or s chip_at 0) 3 || not (all_zero (take (chip_at - pll3_at) (drop pll3_at s)))) chip_at pll3_at) (get_or s given_at 0)

-- how many bytes the request has: no more than there are
unfoldable pub request_length : List ℕ → ℕ
request_length s = min (bytes_meant s) (length s)

-- the chip
unfoldable pub chip_on : List ℕ → Chip
chip_on s =
    record {
      plls = get_or s chip_at 0;
      odd = get_or s (chip_at + 1) 0 ∷ get_or s (chip_at + 2) 0 ∷ get_or s (chip_at + 3) 0 ∷ [];
      scale = get_or s (chip_at + 4) 0;
      hsion = get_or s (chip_at + 5) 0;
      hsidiv = get_or s (chip_at + 6) 0;
    }
