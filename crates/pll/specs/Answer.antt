-- One PLL as a call: document 01, One PLL, with refusal 6 before it.
use Rattle.std.specs.Prelude.{Bool, not, ℕ, ◌/◌, eqb, Option, Result}
use Rattle.types.specs.declared.Refusal.{Refusal}
use Rattle.types.specs.declared.PllSettings.{PllSettings}
use Rattle.types.specs.declared.PllRequest.{PllRequest}
use Rattle.types.specs.declared.Refusal.TheVariants.{SourceZero}
use Rattle.rules.specs.Document01.Result.{◌>>=◌, ◌>>◌, require}
use Rattle.rules.specs.Document01.OnePll.{range_for, target_for, divided_by, settled, pll_of}

-- refusal 6, then 7 to 15
unfoldable pub one_pll_of : (odd : Bool) → (source : ℕ) → PllRequest → Result (Option PllSettings) Refusal
one_pll_of odd source a = do
  require (not (eqb source 0)) SourceZero
  pll_of odd source a

-- ---- for the private functions
-- what is left once refusals 7, 8 and 9 do not fit
unfoldable pub after_span : (odd : Bool) → (source : ℕ) → PllRequest → Result PllSettings Refusal
after_span odd source a = do
  m ← divided_by source (range_for odd a) (target_for odd a)
  settled odd a (range_for odd a) (target_for odd a) m (source / m) (target_for odd a / (source / m))
