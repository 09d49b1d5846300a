-- The buses, the peripheral clock and the MCOs that the rules choose: divisors of at least 1, PPREs that registers hold, and clocks that are floors.
use Rattle.std.specs.Prelude.{Option, Some, None, Ok, unwrap_or}
use mathlib.Core.Path.{◌≡◌, refl, sym, ◌∙◌, ap}
use mathlib.Core.Bool.{Bool, true, false, cond, not, ◌&&◌}
use Prim.Native.Nat.{ℕ, ◌/◌, ◌≤◌}
use native.Mathlib.Omega.{arith}
use lib.Dec.{leb, eqb}
use borrow.Author.Tests.{leb-true, eqb-true}
use Rattle.types.specs.declared.Refusal.TheVariants.{BusZero, AhbZero, McoZero, McoRatio}
use Rattle.rules.specs.Document01.Hertz.{ratio_of, not_zero}
use Rattle.rules.specs.Document01.Buses.{apb_rows, csi_or_hsi, peripheral_of, ppre_of, hpre_for, ahb_of, ppre_for, apb_of}
use Rattle.rules.specs.Document01.Mco.{mco_of}
use Rattle.rules.specs.Manual.Tree.{among}
use Rattle.rules.proofs.Manual.Chains.{ppres}
use Rattle.rules.proofs.Document01.Ratios.{tested, hpre_pos}
use Rattle.rules.proofs.Document01.Results.{tested_ok}
use Rattle.laws.proofs.Tests.{and_left, either}
use Rattle.types.specs.declared.Bus.{Bus}
use Rattle.types.specs.declared.Selected.{Selected}
use Rattle.types.specs.declared.Mco.{Mco}

-- ---- the divisors that there are
ppre_among : (ratio : ℕ) → among ppres (ppre_of ratio) ≡ true
ppre_among ratio = tested (among ppres) apb_rows 16 refl ratio

-- ---- a bus of the clock before it
pub record GoodBus (before : ℕ) (b : Bus) : Type 0 where
  pub above : 1 ≤ b.pre
  pub hertz : b.clock ≡ before / b.pre

pub ahb_good : (system : ℕ) (h : Option ℕ) (b : Bus) → ahb_of system h ≡ Ok b → GoodBus system b
unfolding ahb_of
ahb_good system h b e =
    let pre : ℕ = hpre_for system h in
    let e₁ = tested_ok (not_zero h) BusZero _ b e in
    let e₂ = tested_ok (not (eqb (system / pre) 0)) AhbZero (Ok (record { pre = pre; clock = system / pre })) b e₁.1 in
    let last : Ok (record { pre = pre; clock = system / pre }) ≡ Ok b = e₂.1 in
    let is : record { pre = pre; clock = system / pre } ≡ b = cc in
    rw (← is) (record { above = hpre_pos (ratio_of system (unwrap_or h system)); hertz = refl })

-- an APB bus
pub record GoodApb (ahb : ℕ) (b : Bus) : Type 0 where
  pub held : among ppres b.pre ≡ true
  pub hertz : b.clock ≡ ahb / b.pre

pub apb_good : (ahb : ℕ) (h : Option ℕ) (b : Bus) → apb_of ahb h ≡ Ok b → GoodApb ahb b
unfolding apb_of
apb_good ahb h b e =
    let pre : ℕ = ppre_for ahb h in
    let e₁ = tested_ok (not_zero h) BusZero (Ok (record { pre = pre; clock = ahb / pre })) b e in
    let last : Ok (record { pre = pre; clock = ahb / pre }) ≡ Ok b = e₁.1 in
    let is : record { pre = pre; clock = ahb / pre } ≡ b = cc in
    rw (← is) (record { held = ppre_among (ratio_of ahb (unwrap_or h ahb)); hertz = refl })

-- ---- the peripheral clock
pub data GoodPeripheral (hse : Option ℕ) (s : Selected) : Type 0 where
  at_hsi : s.sel ≡ 0 → s.clock ≡ 32_000_000 → GoodPeripheral hse s
  at_csi : s.sel ≡ 1 → s.clock ≡ 4_000_000 → GoodPeripheral hse s
  at_hse : s.sel ≡ 2 → hse ≡ Some s.clock → GoodPeripheral hse s

other_good : (h : ℕ) (hse : Option ℕ) → GoodPeripheral hse (csi_or_hsi h)
other_good h hse = either (GoodPeripheral hse) (eqb h 4_000_000) _ _ (at_csi refl refl) (at_hsi refl refl)

pub peripheral_good : (requested hse : Option ℕ) → GoodPeripheral hse (peripheral_of requested hse)
unfolding peripheral_of
peripheral_good None hse = at_hsi refl refl
peripheral_good (Some h) None = other_good h None
peripheral_good (Some h) (Some e) = go (eqb h e) refl
  where
    go : (t : Bool) → eqb h e ≡ t → GoodPeripheral (Some e) (cond t (record { sel = 2; clock = h }) (csi_or_hsi h))
    go true w = at_hse refl (ap Some (sym (eqb-true h e w)))
    go false w = other_good h (Some e)

-- ---- an MCO that is reported
pub mco_good : (clock : ℕ) (h : Option ℕ) (m : Mco) (r : ℕ) → mco_of clock h ≡ Ok m → m.clock ≡ Some r → (1 ≤ m.pre) × (r ≡ clock / m.pre)
unfolding mco_of
mco_good clock None m r e w = absurd (let s : m.clock ≡ None = cc in let z : ◌≡◌ {A = ℕ} 0 1 = cc in omega arith)
mco_good clock (Some h) m r e w =
    let ratio : ℕ = ratio_of clock h in
    let e₁ = tested_ok (not (eqb h 0)) McoZero _ m e in
    let e₂ = tested_ok (leb 1 ratio && leb ratio 15) McoRatio (Ok (record { pre = ratio; clock = Some (clock / ratio) })) m e₁.1 in
    let last : Ok (record { pre = ratio; clock = Some (clock / ratio) }) ≡ Ok m = e₂.1 in
    let is : record { pre = ratio; clock = Some (clock / ratio) } ≡ m = cc in
    let pre : ratio ≡ m.pre = ap (λ (x : Mco). x.pre) is in
    let clk : Some (clock / ratio) ≡ Some r = ap (λ (x : Mco). x.clock) is ∙ w in
    let hz : clock / ratio ≡ r = cc in
    (rw pre at (leb-true 1 ratio (and_left _ _ e₂.0)), sym hz ∙ ap (λ (x : ℕ). clock / x) pre)
