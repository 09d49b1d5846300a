-- Nothing departs but 14 and 15: what freeze makes of a plan by definitions of its own is the plan's own list and clocks.
use Rattle.std.specs.Prelude.{Option, Some, None, Result, Ok, Err}
use mathlib.Core.Path.{◌≡◌, refl}
use mathlib.Core.Bool.{not}
use mathlib.Core.List.{List}
use Prim.Native.Nat.{ℕ, ◌/◌}
use lib.Dec.{eqb}
use Rattle.types.specs.declared.Refusal.{Refusal}
use Rattle.types.specs.declared.PllSettings.{PllSettings}
use Rattle.types.specs.declared.PllOutput.{PllOutput}
use Rattle.types.specs.declared.Bus.{Bus}
use Rattle.types.specs.declared.Buses.{Buses}
use Rattle.types.specs.declared.Plan.{Plan}
use Rattle.types.specs.declared.Request.{Request}
use Rattle.types.specs.declared.ChipState.{ChipState}
use Rattle.types.specs.declared.Refusal.TheVariants.{BusZero, AhbZero}
use Rattle.rules.specs.Document01.Result.{require}
use Rattle.rules.specs.Document01.Hertz.{not_zero}
use Rattle.rules.specs.Document01.OnePll.{pll_from, clock_of, p_clock}
use Rattle.rules.specs.Document01.Buses.{ahb_of, apb_of, hpre_for}
use Rattle.rules.specs.Document01.Entries.{output_start, start_entries, starts, list_with, plan_entries, entries_of}
use Rattle.rules.specs.Document01.Plan.{plls_of, hsi_ready, system_from, buses_of, mcos_of, plan_with, chosen_plan}
use Rattle.claims.specs.Demands.Departures.{freeze_hpre, freeze_ppre, freeze_bus, freeze_buses, started_by_p, freeze_starts, freeze_plan, freezes_of, as_planned}
use Rattle.rules.proofs.Document01.Results.{Holds, holds_then, holds_next, holds_known}

-- ---- the buses: the same divisor of every ratio
ahb_freezes : (system : ℕ) (h : Option ℕ) → Holds (λ (b : Bus). b ≡ freeze_bus freeze_hpre system h) (ahb_of system h)
unfolding ahb_of
ahb_freezes system h =
    holds_next _ (require (not_zero h) BusZero) _
    (holds_next _ (require (not (eqb (system / hpre_for system h) 0)) AhbZero) _ refl)

apb_freezes : (clock : ℕ) (h : Option ℕ) → Holds (λ (b : Bus). b ≡ freeze_bus freeze_ppre clock h) (apb_of clock h)
unfolding apb_of
apb_freezes clock h = holds_next _ (require (not_zero h) BusZero) _ refl

buses_freeze : (q : Request) (system : ℕ) → Holds (λ (b : Buses). b ≡ freeze_buses q system) (buses_of q system)
unfolding buses_of
buses_freeze q system =
    holds_known _ _ (ahb_of system q.ahb) _ (ahb_freezes system q.ahb)
    (λ a e. rw e
    (holds_known _ _ (apb_of (freeze_bus freeze_hpre system q.ahb).clock q.apb1) _ (apb_freezes (freeze_bus freeze_hpre system q.ahb).clock q.apb1)
    (λ x e1. holds_known _ _ (apb_of (freeze_bus freeze_hpre system q.ahb).clock q.apb2) _ (apb_freezes (freeze_bus freeze_hpre system q.ahb).clock q.apb2)
    (λ y e2. holds_known _ _ (apb_of (freeze_bus freeze_hpre system q.ahb).clock q.apb3) _ (apb_freezes (freeze_bus freeze_hpre system q.ahb).clock q.apb3)
    (λ z e3. rw (e1, e2, e3))))))

-- ---- the starts
output_starts : (k : ℕ) (o : Option PllOutput) → started_by_p k (clock_of o) ≡ output_start k o
output_starts k None = refl
output_starts k (Some o) = refl

start_freezes : (k : ℕ) (x : Option PllSettings) → started_by_p k (p_clock x) ≡ start_entries k x
start_freezes k None = refl
start_freezes k (Some s) = output_starts k s.p

starts_freeze : (l : List (Option PllSettings)) → freeze_starts l ≡ starts l
starts_freeze l = rw (start_freezes 0 (pll_from l 0), start_freezes 1 (pll_from l 1), start_freezes 2 (pll_from l 2))

list_freezes : (p : Plan) → list_with freeze_starts p ≡ plan_entries p
unfolding list_with
list_freezes p = rw (starts_freeze p.plls)

-- ---- every plan
plan_freezes : (q : Request) (c : ChipState) → Holds (λ (p : Plan). freeze_plan q c p ≡ p) (chosen_plan q c)
unfolding chosen_plan plan_with
plan_freezes q c =
    holds_then _ (plls_of q c) _
    (λ l. holds_next _ (hsi_ready c) _
    (holds_known _ _ (buses_of q (system_from q l)) _ (buses_freeze q (system_from q l))
    (λ b e. holds_then _ (mcos_of q l (system_from q l)) _ (λ m. rw e))))

pub freezes_as_planned : (q : Request) (c : ChipState) → Holds (λ (p : Plan). freezes_of q c p ≡ as_planned p) (chosen_plan q c)
unfolding entries_of
freezes_as_planned q c = go (chosen_plan q c) (plan_freezes q c)
  where
    go : (x : Result Plan Refusal) → Holds (λ (p : Plan). freeze_plan q c p ≡ p) x → Holds (λ (p : Plan). freezes_of q c p ≡ as_planned p) x
    go (Err n) h = tt
    go (Ok p) h = rw (h, list_freezes p)
