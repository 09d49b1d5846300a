-- The numbers that the table of the bench settings names, of an answer of the planner.
use Rattle.std.specs.Prelude.{List, [], ◌∷◌, ◌++◌, ℕ, replicate, Option, Some, None, Result}
use Rattle.std.specs.Result.{result_unwrap_or}
use Rattle.types.specs.declared.Plan.{Plan}
use Rattle.types.specs.declared.PllSettings.{PllSettings}
use Rattle.types.specs.declared.Refusal.{Refusal}
use Rattle.rules.specs.Document01.OnePll.{pll_from}
use Rattle.rules.specs.Document01.Refusals.{code_of}
use Rattle.rules.proofs.Stated.Report.{blank_plan}
use Rattle.pll_words.specs.PllWords.{fracn_of, divider_of, hertz_of}

-- PLL1: VCOSEL, M, N, P's divider; four 0 for an idle one
abbrev pub first_numbers : Option PllSettings → List ℕ
first_numbers None = replicate 4 0
first_numbers (Some s) = s.vcosel ∷ s.m ∷ s.n ∷ divider_of s.p ∷ []

-- PLL2: VCOSEL, target, M, reference, N, FRACN, VCO, the dividers of P and Q, P's hertz; ten 0 for an idle one
abbrev pub second_numbers : Option PllSettings → List ℕ
second_numbers None = replicate 10 0
second_numbers (Some s) =
    s.vcosel ∷ s.target ∷ s.m ∷ s.reference ∷ s.n ∷ fracn_of s.fraction ∷ s.vco ∷ divider_of s.p ∷ divider_of s.q ∷ hertz_of s.p ∷ []

-- the wait states, AHB and its divisor, MCO1's prescaler
abbrev pub other_numbers : Plan → List ℕ
other_numbers p = p.waits.latency ∷ p.buses.ahb.clock ∷ p.buses.ahb.pre ∷ p.mcos.mco1.pre ∷ []

abbrev pub plan_numbers : Plan → List ℕ
plan_numbers p = first_numbers (pll_from p.plls 0) ++ (second_numbers (pll_from p.plls 1) ++ other_numbers p)

-- 0 and the plan's numbers, or the refusal's number and those of the plan of zeros
unfoldable pub numbers_of : Result Plan Refusal → List ℕ
numbers_of x = code_of x ∷ plan_numbers (result_unwrap_or x blank_plan)
