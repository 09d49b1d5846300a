-- Every path that the tree gives, from any bank, has no divisor of 0, so the laws of paths hold of it.
use mathlib.Core.Path.{◌≡◌, refl, subst}
use mathlib.Core.List.{List, [], ◌∷◌}
use Prim.Native.Nat.{ℕ, zero, suc, ◌+◌, ◌/◌, ◌≤◌}
use native.Mathlib.Omega.{arith}
use lib.ListN.{get_or}
use Rattle.rules.specs.Manual.Path.{PllName, pll1, pll2, whole, part, Path, direct, through, floored, extend, Readings}
use Rattle.rules.specs.Manual.Tree
use Rattle.rules.specs.Manual.Tree.{Chain, none, along, Oscillator, off, runs, Output, P, Q, Clock, sys, hclk, pclk1, pclk2, pclk3, timx, timy, per, hsi, csi, hsi48, lsi, hse, mco1, mco2, output, from_oscillator, gated, over, vco_by, timer_by, word, pll_word, divider, enable, path_of}
use Rattle.rules.proofs.Manual.Codes.{by_timer}
use Rattle.rules.proofs.Manual.Paths.{Sound, sound_extend, readings_of}

-- no divisor of 0 on a chain's path
pub record Firm (c : Chain) : Type 0 where
  pub sound : (p : Path) → c ≡ along p → Sound p

none_firm : Firm none
none_firm = record { sound = λ p e. absurd (let z : ◌≡◌ {A = ℕ} 0 1 = cc in omega arith) }

along_firm : (p : Path) → Sound p → Firm (along p)
along_firm p h = record { sound = λ x e. let f : p ≡ x = cc in subst (λ (y : Path). Sound y) f h }

oscillator_firm : (o : Oscillator) → Firm (from_oscillator o)
oscillator_firm off = none_firm
oscillator_firm (runs h) = along_firm (direct h []) tt

over_firm : (c : Chain) (d : ℕ) → Firm c → Firm (over c d)
over_firm none d h = none_firm
over_firm (along p) zero h = none_firm
over_firm (along p) (suc d) h = along_firm (extend p (suc d)) (sound_extend p (suc d) (h.sound p refl) (omega arith))

gated_firm : (on : ℕ) {c : Chain} → Firm c → Firm (gated on c)
gated_firm zero h = none_firm
gated_firm (suc on) h = h

vco_firm : (j : PllName) (o : Oscillator) (m n e f : ℕ) → 1 ≤ n → Firm (vco_by j o m n e f)
vco_firm j off m n e f h = none_firm
vco_firm j (runs x) zero n e f h = none_firm
vco_firm j (runs x) (suc m) n zero f h = along_firm (through j x (suc m) (whole n) []) (omega arith, h, tt)
vco_firm j (runs x) (suc m) n (suc e) f h = along_firm (through j x (suc m) (part n f) []) (omega arith, h, tt)

timer_firm : (t ppre : ℕ) {c : Chain} → Firm c → Firm (timer_by t ppre c)
timer_firm t ppre {c} h = by_timer Firm t ppre h (over_firm c (ppre / 2) h) (over_firm c (ppre / 4) h) none_firm

-- what a selector picks of chains that are firm
data AllFirm : List Chain → Type 0 where
  last : AllFirm []
  also : {c : Chain} {cs : List Chain} → Firm c → AllFirm cs → AllFirm (c ∷ cs)

picked_firm : {cs : List Chain} (n : ℕ) → AllFirm cs → Firm (get_or cs n none)
picked_firm n last = none_firm
picked_firm zero (also h t) = h
picked_firm (suc n) (also h t) = picked_firm n t

module _ (b : List ℕ) (fed : Oscillator) where
  output_firm : (j : PllName) (o : Output) → Firm (Tree.output_of b fed j o)
  unfolding Tree.output_of Tree.vco_of
  output_firm j o =
      gated_firm (pll_word b j 13)
      (gated_firm (pll_word b j (enable o)) (over_firm _ (pll_word b j (divider o) + 1) (vco_firm j (Tree.source_of b fed j) (pll_word b j 2) (pll_word b j 3 + 1) (pll_word b j 5) (pll_word b j 4) (omega arith))))

  sys_firm : Firm (Tree.sys_of b fed)
  unfolding Tree.sys_of
  sys_firm = picked_firm (word b 67) (also (oscillator_firm (Tree.hsi_of b fed)) (also (oscillator_firm (Tree.csi_of b fed)) (also (oscillator_firm (Tree.hse_of b fed)) (also (output_firm pll1 P) last))))

  ahb_firm : Firm (Tree.ahb_of b fed)
  unfolding Tree.ahb_of
  ahb_firm = over_firm _ (word b 61) sys_firm

  pub tree_firm : (k : Clock) → Firm (path_of b fed k)
  unfolding path_of Tree.per_of Tree.mco1_of Tree.mco2_of
  tree_firm sys = sys_firm
  tree_firm hclk = ahb_firm
  tree_firm pclk1 = over_firm _ (word b 62) ahb_firm
  tree_firm pclk2 = over_firm _ (word b 63) ahb_firm
  tree_firm pclk3 = over_firm _ (word b 64) ahb_firm
  tree_firm timx = timer_firm (word b 66) (word b 62) ahb_firm
  tree_firm timy = timer_firm (word b 66) (word b 63) ahb_firm
  tree_firm per = picked_firm (word b 65) (also (oscillator_firm (Tree.hsi_of b fed)) (also (oscillator_firm (Tree.csi_of b fed)) (also (oscillator_firm (Tree.hse_of b fed)) last)))
  tree_firm hsi = oscillator_firm (Tree.hsi_of b fed)
  tree_firm csi = oscillator_firm (Tree.csi_of b fed)
  tree_firm hsi48 = oscillator_firm (Tree.hsi48_of b fed)
  tree_firm lsi = oscillator_firm (Tree.lsi_of b fed)
  tree_firm hse = oscillator_firm (Tree.hse_of b fed)
  tree_firm mco1 = over_firm _ (word b 55) (picked_firm (word b 54) (also (oscillator_firm (Tree.hsi_of b fed)) (also none_firm (also (oscillator_firm (Tree.hse_of b fed)) (also (output_firm pll1 Q) (also (oscillator_firm (Tree.hsi48_of b fed)) last))))))
  tree_firm mco2 = over_firm _ (word b 57) (picked_firm (word b 56) (also sys_firm (also (output_firm pll2 P) (also (oscillator_firm (Tree.hse_of b fed)) (also (output_firm pll1 P) (also (oscillator_firm (Tree.csi_of b fed)) (also (oscillator_firm (Tree.lsi_of b fed)) last)))))))
  tree_firm (output j o) = output_firm j o

-- the floors of any path that the tree gives, against its exact fraction
pub tree_readings : (b : List ℕ) (fed : Oscillator) (k : Clock) (p : Path) → path_of b fed k ≡ along p → Readings p (floored p)
tree_readings b fed k p e = readings_of p (floored p) ((tree_firm b fed k).sound p e) refl
