-- The whole list of a plan, segment by segment: which segments leave a field alone.
use Rattle.std.specs.Prelude.{Option, Some, None}
use mathlib.Core.Path.{◌≡◌, refl, ◌∙◌, ap}
use mathlib.Core.Logic.{◌≢◌}
use mathlib.Core.Bool.{Bool, true, false}
use mathlib.Core.List.{List}
use Prim.Native.Nat.{ℕ, zero, suc, ◌+◌, ◌*◌, ◌<◌}
use native.Mathlib.Omega.{arith}
use Rattle.types.specs.declared.Entry.{Entry}
use Rattle.types.specs.declared.PllOutput.{PllOutput}
use Rattle.types.specs.declared.PllSettings.{PllSettings}
use Rattle.types.specs.declared.Plan.{Plan}
use Rattle.rules.specs.Document01.Entries.{output_entries, fraction_entries, base_entries, setting_entries, setup_entries, pll_in, clock_entries, hse_entries, source_entries, output_start, start_entries, bus_entries, plan_entries, list_with}
use Rattle.rules.proofs.Document01.Last.{val_all, val_append, avoid}

-- ---- three segments, one for each PLL
-- a field of PLL j that the others leave alone is what segment j makes of it
pub own_only : (seg : ℕ → List Entry) (f j : ℕ) → j < 3 → ((i d : ℕ) → i ≢ j → val_all (seg i) f d ≡ d) → (d : ℕ)
    → val_all (seg 2) f (val_all (seg 1) f (val_all (seg 0) f d)) ≡ val_all (seg j) f d
own_only seg f zero h keeps d = keeps 2 _ (omega arith) ∙ keeps 1 _ (omega arith)
own_only seg f (suc zero) h keeps d = keeps 2 _ (omega arith) ∙ ap (val_all (seg 1) f) (keeps 0 d (omega arith))
own_only seg f (suc (suc zero)) h keeps d = ap (val_all (seg 2) f) (keeps 1 _ (omega arith) ∙ keeps 0 d (omega arith))
own_only seg f (suc (suc (suc j))) h keeps d = absurd (omega arith)

-- a field that all three leave alone
pub none_own : (seg : ℕ → List Entry) (f : ℕ) → ((i d : ℕ) → i < 3 → val_all (seg i) f d ≡ d) → (d : ℕ)
    → val_all (seg 2) f (val_all (seg 1) f (val_all (seg 0) f d)) ≡ d
none_own seg f keeps d = keeps 2 _ (omega arith) ∙ keeps 1 _ (omega arith) ∙ keeps 0 d (omega arith)

-- ---- the places of fields: those of different PLLs, and different ones
pub other_pll : (i j k l : ℕ) → i ≢ j → k < 15 → l < 15 → 15 * j + k ≢ 15 * i + l
other_pll i j k l a b c = omega arith

pub other_field : (i j k l : ℕ) → k < 15 → l < 15 → k ≢ l → 15 * j + k ≢ 15 * i + l
other_field i j k l a b c = omega arith

-- ---- which fields a segment leaves alone
pub output_keeps : (div en : ℕ) (o : Option PllOutput) (f d : ℕ) → f ≢ div → f ≢ en → val_all (output_entries div en o) f d ≡ d
output_keeps div en None f d a b = avoid (output_entries div en None) f d (omega arith)
output_keeps div en (Some o) f d a b = avoid (output_entries div en (Some (record { divider = o.divider; clock = o.clock }))) f d (omega arith)

pub fraction_keeps : (i : ℕ) (c : Option ℕ) (f d : ℕ) → f ≢ 15 * i + 4 → f ≢ 15 * i + 5 → val_all (fraction_entries i c) f d ≡ d
fraction_keeps i None f d a b = refl
fraction_keeps i (Some n) f d a b = avoid (fraction_entries i (Some n)) f d (omega arith)

-- PLL i's own list, segment by segment
pub setting_val : (i : ℕ) (s : PllSettings) (f d : ℕ) → val_all (setting_entries i s) f d
    ≡ val_all (output_entries (15 * i + 10) (15 * i + 11) s.r) f (val_all (output_entries (15 * i + 8) (15 * i + 9) s.q) f
    (val_all (output_entries (15 * i + 6) (15 * i + 7) s.p) f (val_all (fraction_entries i s.fraction) f (val_all (base_entries i s) f d))))
unfolding setting_entries
setting_val i s f d = simp val_append

-- f is none of the fields that PLL i's own list sets, 0 to 11
abbrev pub Outside : ℕ → ℕ → Type 0
Outside i f = (l : ℕ) → l < 12 → f ≢ 15 * i + l

pub setup_keeps : (i : ℕ) (x : Option PllSettings) (f d : ℕ) → Outside i f → val_all (setup_entries i x) f d ≡ d
setup_keeps i None f d a = refl
setup_keeps i (Some s) f d a =
    setting_val i s f d
    ∙ output_keeps _ _ s.r f _ (a 10 (omega arith)) (a 11 (omega arith))
    ∙ output_keeps _ _ s.q f _ (a 8 (omega arith)) (a 9 (omega arith))
    ∙ output_keeps _ _ s.p f _ (a 6 (omega arith)) (a 7 (omega arith))
    ∙ fraction_keeps i s.fraction f _ (a 4 (omega arith)) (a 5 (omega arith))
    ∙ avoid (base_entries i s) f d (omega (arith, a 0 (omega arith), a 1 (omega arith), a 2 (omega arith), a 3 (omega arith)))

pub start_keeps : (i : ℕ) (x : Option PllSettings) (f d : ℕ) → f ≢ 15 * i + 13 → val_all (start_entries i x) f d ≡ d
start_keeps i None f d a = refl
start_keeps i (Some s) f d a = go s.p
  where
    go : (o : Option PllOutput) → val_all (output_start i o) f d ≡ d
    go None = refl
    go (Some o) = avoid (output_start i (Some (record { divider = o.divider; clock = o.clock }))) f d (omega arith)

pub source_keeps : (three : Bool) (src f d : ℕ) → f ≢ 12 → f ≢ 27 → f ≢ 42 → val_all (source_entries three src) f d ≡ d
source_keeps true src f d a b c = avoid (source_entries true src) f d (omega arith)
source_keeps false src f d a b c = avoid (source_entries false src) f d (omega arith)

pub hse_keeps : (x : Option ℕ) (y : Bool) (f d : ℕ) → f ≢ 58 → f ≢ 59 → val_all (hse_entries x y) f d ≡ d
hse_keeps None y f d a b = refl
hse_keeps (Some n) y f d a b = avoid (hse_entries (Some n) y) f d (omega arith)

pub clock_keeps : (p : Plan) (f d : ℕ) → f < 45 → val_all (clock_entries p.waits p.selectors p.mcos) f d ≡ d
unfolding clock_entries
clock_keeps p f d h = avoid (clock_entries p.waits p.selectors p.mcos) f d (omega arith)

pub bus_keeps : (p : Plan) (f d : ℕ) → f < 45 → val_all (bus_entries p.buses p.selectors) f d ≡ d
unfolding bus_entries
bus_keeps p f d h = avoid (bus_entries p.buses p.selectors) f d (omega arith)

-- ---- the whole list, segment by segment
module _ (p : Plan) where
  abbrev pub setups : ℕ → List Entry
  setups i = setup_entries i (pll_in p i)

  abbrev pub starts : ℕ → List Entry
  starts i = start_entries i (pll_in p i)

  pub whole_val : (f d : ℕ) → val_all (plan_entries p) f d
      ≡ val_all (bus_entries p.buses p.selectors) f (val_all (starts 2) f (val_all (starts 1) f (val_all (starts 0) f
      (val_all (source_entries p.three p.selectors.src) f (val_all (hse_entries p.clocks.hse p.bypass) f (val_all (clock_entries p.waits p.selectors p.mcos) f
      (val_all (setups 2) f (val_all (setups 1) f (val_all (setups 0) f d)))))))))
  unfolding list_with
  whole_val f d = simp val_append
