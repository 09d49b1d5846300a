-- For the private functions: the steps of document 01's `settled`, with what each has to know.
use Rattle.std.specs.Prelude.{ℕ, ◌/◌, ◌≤◌, ◌<◌, Option, Some, None, Result, Ok}
use Rattle.types.specs.declared.Refusal.{Refusal}
use Rattle.types.specs.declared.Strategy.{Strategy}
use Rattle.types.specs.declared.PllOutput.{PllOutput}
use Rattle.types.specs.declared.PllRequest.{PllRequest}
use Rattle.types.specs.declared.PllSettings.{PllSettings}
use Rattle.rules.specs.Document01.Result.{◌>>=◌, ◌>>◌}
use Rattle.rules.specs.Document01.OnePll.{first_of, fraction_of, rge_of, vco_by, output_of, divider_p, allowed_p, settled}
use Rattle.pll.specs.declared.asked.Asked.{Asked}
use Rattle.pll.specs.declared.settle.Chosen.{Chosen}
use Rattle.pll.specs.declared.settle.Multiplied.{Multiplied}

-- One PLL, second point, each divider = target / output: a requested output is above 0 Hz, and its divider is at least 1
abbrev pub HasDivider : (target : ℕ) → Option ℕ → Type 0
HasDivider target None = Unit {0}
HasDivider target (Some h) = (1 ≤ h) × (1 ≤ target / h)

-- refusals 12 to 15: what they and the settings have to know
pub record Settles (asked : Asked) (target m : ℕ) : Type 0 where
  pub above : 1 ≤ m
  pub some : 1 ≤ asked.source / m
  pub small : target < 2_147_483_648
  pub first : 1 ≤ first_of asked.request
  pub has_p : HasDivider target asked.request.p
  pub has_q : HasDivider target asked.request.q
  pub has_r : HasDivider target asked.request.r

-- refusals 12 to 15 and the settings: of a range they need VCOSEL alone
unfoldable pub settled_for : Asked → (vcosel target m : ℕ) → Result PllSettings Refusal
settled_for asked vcosel target m =
    settled asked.odd asked.request (record { vcosel = vcosel; start = 0; end = 0; low = 0; high = 0 }) target m (asked.source / m) (target / (asked.source / m))

-- FRACN and the VCO from it, or refusal 13
abbrev pub multiplied : Strategy → (reference n target output : ℕ) → Result Multiplied Refusal
multiplied s reference n target output = do
  f ← fraction_of s reference n (target / output) output
  Ok (record { fraction = f; vco = vco_by f reference n })

-- One PLL: the settings of the numbers chosen
abbrev pub placed_settings : PllRequest → Chosen → PllSettings
placed_settings a c = record {
  vcosel = c.vcosel;
  target = c.target;
  m = c.m;
  reference = c.reference;
  rge = rge_of c.reference;
  n = c.n;
  fraction = c.fraction;
  vco = c.vco;
  p = output_of c.target c.vco a.p;
  q = output_of c.target c.vco a.q;
  r = output_of c.target c.vco a.r;
}

-- refusals 14 and 15: P's divider in its output; 2 where there is none
abbrev pub divider_in : Option PllOutput → ℕ
divider_in None = 2
divider_in (Some o) = o.divider

-- refusals 14 and 15, and the settings
unfoldable pub placed : Asked → Chosen → Result PllSettings Refusal
placed asked c = do
  allowed_p asked.odd (divider_p c.target asked.request.p)
  Ok (placed_settings asked.request c)

-- refusals 14 and 15: what they have to know
pub record Placed (asked : Asked) (c : Chosen) : Type 0 where
  pub has_p : HasDivider c.target asked.request.p
  pub has_q : HasDivider c.target asked.request.q
  pub has_r : HasDivider c.target asked.request.r
