-- The registers of each PLL of a plan, and what the call leaves: document 02, Item 1. docs/CODES.md, PLL registers as words.
use Rattle.std.specs.Prelude.{cond, List, [], ◌++◌, ℕ, eqb, Result, Ok, Err}
use Rattle.types.specs.declared.Refusal.{Refusal}
use Rattle.types.specs.declared.Chip.{Chip}
use Rattle.types.specs.declared.Refusal.TheVariants.{OutsideCodes}
use Rattle.types.specs.declared.Plan.{Plan}
use Rattle.rules.specs.Document01.Entries.{pll_in}
use Rattle.rules.specs.Document01.Plan.{plan_of}
use Rattle.rules.specs.Words.{stored_from}
use Rattle.pll_registers.specs.Fields.{fields_of}
use Rattle.pll_registers.specs.Registers.{packed}

-- CFGR, DIVR and FRACR of PLL k of a plan, from 0
abbrev pub registers_at : Plan → (k : ℕ) → List ℕ
registers_at p k = packed (fields_of p.selectors.src (pll_in p k))

-- of each PLL, in PLL order: six words on a chip with two PLLs, nine on one with three
abbrev pub plan_registers : Plan → List ℕ
plan_registers p = registers_at p 0 ++ (registers_at p 1 ++ cond p.three (registers_at p 2) [])

-- the call: refusal 1 where another number of words than nine is lent, else as the planner's call
unfoldable pub registers_asked : (request : List ℕ) → Chip → (words : ℕ) → Result Plan Refusal
registers_asked request chip words = cond (eqb words 9) (plan_of request chip) (Err OutsideCodes)

-- a plan's registers, from the first word on; a refusal alone: no word is changed
abbrev pub registers_by : Result Plan Refusal → List ℕ → List ℕ
registers_by (Ok p) words = stored_from words 0 (plan_registers p)
registers_by (Err n) words = words
