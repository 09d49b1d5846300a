-- What holds of each of some codes holds of a word that is one of them; what holds of each chain that a timer can have holds of its chain.
use mathlib.Core.Path.{◌≡◌, sym}
use mathlib.Core.Bool.{true, false}
use mathlib.Core.List.{List, [], ◌∷◌}
use Prim.Native.Nat.{ℕ, zero, suc, ◌/◌}
use lib.Dec.{eqb}
use borrow.Author.Tests.{eqb-true}
use Rattle.laws.proofs.Tests.{by_test, either, never}
use Rattle.rules.specs.Manual.Tree.{Chain, none, over, among, timer_by}

abbrev pub Each : (ℕ → Type 0) → List ℕ → Type 0
Each F [] = Unit {0}
Each F (c ∷ cs) = F c × Each F cs

pub by_codes : (F : ℕ → Type 0) (cs : List ℕ) (w : ℕ) → among cs w ≡ true → Each F cs → F w
by_codes F [] w h e = absurd (never (sym h))
by_codes F (c ∷ cs) w h e =
    by_test (eqb w c) (λ (t : eqb w c ≡ true). rw (eqb-true w c t) e.0) (λ (f : eqb w c ≡ false). by_codes F cs w (rw f at h) e.1)

-- AHB, AHB / (PPRE / 2), AHB / (PPRE / 4), none
pub by_timer : (F : Chain → Type 0) (t ppre : ℕ) {ahb : Chain} → F ahb → F (over ahb (ppre / 2)) → F (over ahb (ppre / 4)) → F none → F (timer_by t ppre ahb)
by_timer F zero ppre a h q n = either F (among (1 ∷ 2 ∷ []) ppre) _ _ a (either F (among (4 ∷ 8 ∷ 16 ∷ []) ppre) _ _ h n)
by_timer F (suc t) ppre a h q n = either F (among (1 ∷ 2 ∷ 4 ∷ []) ppre) _ _ a (either F (among (8 ∷ 16 ∷ []) ppre) _ _ q n)
