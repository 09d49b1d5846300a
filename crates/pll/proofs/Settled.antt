-- Laws of the last steps of one PLL, each at the place where the code takes it.
use Rattle.std.specs.Prelude.{Option, Result, Ok, Err}
use mathlib.Core.Path.{◌≡◌}
use Prim.Native.Nat.{ℕ, ◌/◌, ◌≤◌}
use borrow.Author.Tests.{le-leb}
use Rattle.types.specs.declared.PllRequest.{PllRequest}
use Rattle.types.specs.declared.Refusal.{Refusal}
use Rattle.rules.specs.Document01.Result.{◌>>=◌, ◌>>◌}
use Rattle.rules.specs.Document01.OnePll.{first_of, fraction_of, vco_by, divider_p, allowed_p, settings_of, settled}
use Rattle.pll.specs.declared.asked.Asked.{Asked}
use Rattle.pll.specs.declared.settle.Chosen.{Chosen}
use Rattle.pll.specs.declared.settle.Multiplied.{Multiplied}
use Rattle.pll.specs.Settle.{multiplied, settled_for, placed, placed_settings}

-- what follows FRACN and the VCO
module _ (asked : Asked) (vcosel target m ref n : ℕ) (divided : ref ≡ asked.source / m) (is : n ≡ target / ref) (b : Multiplied) where
  abbrev a : PllRequest
  a = asked.request

  abbrev chosen : Chosen
  chosen = record { vcosel = vcosel; target = target; m = m; reference = ref; n = n; fraction = b.fraction; vco = b.vco }

  pub fracn_in : 4 ≤ n → n ≤ 512 → Ok b ≡ multiplied a.strategy ref n target (first_of a) → placed asked chosen ≡ settled_for asked vcosel target m
  unfolding settled_for settled placed
  fracn_in low high e = rw (← divided, ← is, le-leb 4 n low, le-leb n 512 high) (go (fraction_of a.strategy ref n (target / first_of a) (first_of a)) e)
    where
      go : (x : Result (Option ℕ) Refusal) → Ok b ≡ (x >>= λ f. Ok (record { fraction = f; vco = vco_by f ref n })) → (allowed_p asked.odd (divider_p target a.p) >> Ok (placed_settings a chosen)) ≡ (x >>= λ g. allowed_p asked.odd (divider_p target a.p) >> Ok (settings_of a (record { vcosel = vcosel; start = 0; end = 0; low = 0; high = 0 }) target m ref n g))
      go (Err x) e = cc
      go (Ok g) e = let p : b ≡ record { fraction = g; vco = vco_by g ref n } = cc in rw p
