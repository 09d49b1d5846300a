-- Document 02, Item 1, as it is written: which bits of the three words are which field, by the first and the last, and what the fields may hold. Apart
-- from Registers, which places them. A field's number is the bank's (Document01/Fields).
use Rattle.types.specs.declared.Refusal.{Refusal}
use Rattle.std.specs.Prelude.{◌≡◌, List, ℕ, suc, ◌+◌, ◌-◌, ◌*◌, ◌/◌, ◌%◌, ◌^◌, ◌<◌, Result, IsOk}
use Rattle.types.specs.declared.Chip.{Chip}
use Rattle.rules.specs.Document01.Fields
use Rattle.rules.specs.Document01.Fields.{of_pll}
use Rattle.rules.specs.Document01.Entries.{entries_of}
use Rattle.rules.specs.Document01.Bank.{apply_all, reset_bank}
use Rattle.rules.specs.Document01.Plan.{plan_of}
use Rattle.rules.specs.Manual.Tree.{word}
use Rattle.pll_registers.specs.declared.PllFields.{PllFields}

-- the bits of a word from the first to the last
abbrev pub bits : (first last w : ℕ) → ℕ
bits first last w = w / 2 ^ first % 2 ^ (suc last - first)

-- CFGR, DIVR and FRACR of a PLL whose fields hold so much; every bit of 32 is here
pub record Hold (cfgr divr fracr : ℕ) (field : ℕ → ℕ) : Type 0 where
  -- CFGR: source in bits 0–1, range in 2–3, FRACEN 4, VCOSEL 5, M in 8–13, the enables of P, Q, R at 16, 17, 18
  pub source : bits 0 1 cfgr ≡ field Fields.SRC
  pub range : bits 2 3 cfgr ≡ field Fields.RGE
  pub fracen : bits 4 4 cfgr ≡ field Fields.FRACEN
  pub vcosel : bits 5 5 cfgr ≡ field Fields.VCOSEL
  pub m : bits 8 13 cfgr ≡ field Fields.M
  pub p_enable : bits 16 16 cfgr ≡ field Fields.PEN
  pub q_enable : bits 17 17 cfgr ≡ field Fields.QEN
  pub r_enable : bits 18 18 cfgr ≡ field Fields.REN
  -- DIVR: N − 1 in bits 0–8, P − 1 in 9–15, Q − 1 in 16–22, R − 1 in 24–30
  pub n : bits 0 8 divr ≡ field Fields.N
  pub p : bits 9 15 divr ≡ field Fields.P
  pub q : bits 16 22 divr ≡ field Fields.Q
  pub r : bits 24 30 divr ≡ field Fields.R
  -- FRACR: FRACN in 3–15
  pub fracn : bits 3 15 fracr ≡ field Fields.FRACN
  -- unused bits are 0
  pub cfgr_6_7 : bits 6 7 cfgr ≡ 0
  pub cfgr_14_15 : bits 14 15 cfgr ≡ 0
  pub cfgr_end : cfgr < 2 ^ 19
  pub divr_23 : bits 23 23 divr ≡ 0
  pub divr_end : divr < 2 ^ 31
  pub fracr_0_2 : bits 0 2 fracr ≡ 0
  pub fracr_end : fracr < 2 ^ 16

-- every field fits its bits: a mask takes nothing away
pub record Fit (f : PllFields) : Type 0 where
  pub src : f.src < 2 ^ 2
  pub rge : f.rge < 2 ^ 2
  pub fracen : f.fracen < 2 ^ 1
  pub vcosel : f.vcosel < 2 ^ 1
  pub m : f.m < 2 ^ 6
  pub n : f.n - 1 < 2 ^ 9
  pub fracn : f.fracn < 2 ^ 13
  pub p : f.p - 1 < 2 ^ 7
  pub q : f.q - 1 < 2 ^ 7
  pub r : f.r - 1 < 2 ^ 7

-- a call that answers with a plan leaves in each PLL's three words, in PLL order, the fields that the bank has after the plan's whole list from reset
-- values: jig and loader program the same PLLs
abbrev pub AsBank : (request : List ℕ) → Chip → Result (Unit {0}) Refusal → (words : List ℕ) → Type 0
AsBank request chip answer words =
    IsOk answer → (k : ℕ) → k < chip.plls
    → Hold (word words (3 * k)) (word words (3 * k + 1)) (word words (3 * k + 2)) (λ f. word (apply_all (entries_of (plan_of request chip)) reset_bank) (of_pll k f))
