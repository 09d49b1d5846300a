-- What PLL i's own list leaves in PLL i's fields, over fields that were 0. Once, with i as a parameter.
use Rattle.std.specs.Prelude.{Option, Some, None}
use mathlib.Core.Path.{◌≡◌, refl, ◌∙◌, ap}
use mathlib.Core.Logic.{◌≢◌}
use Prim.Native.Nat.{ℕ, ◌+◌, ◌-◌, ◌*◌, ◌≤◌, ◌<◌}
use native.Mathlib.Omega.{arith}
use Rattle.types.specs.declared.PllOutput.{PllOutput}
use Rattle.types.specs.declared.PllSettings.{PllSettings}
use Rattle.rules.specs.Document01.Entries.{output_entries, fraction_entries, base_entries, setting_entries}
use Rattle.rules.proofs.Document01.Last.{val_all, avoid, put_same, put_other}
use Rattle.rules.specs.Manual.Tree.{Output, P, Q, R, divider, enable}
use Rattle.claims.proofs.Readings.Segments.{output_keeps, fraction_keeps, setting_val}
use Rattle.claims.proofs.Readings.Consistent.{setting_of}

-- ---- the words of an output and of a fraction
abbrev pub divider_word : Option PllOutput → ℕ
divider_word None = 0
divider_word (Some o) = o.divider - 1

abbrev pub enable_bit : Option PllOutput → ℕ
enable_bit None = 0
enable_bit (Some o) = 1

abbrev pub fracen_bit : Option ℕ → ℕ
fracen_bit None = 0
fracen_bit (Some f) = 1

abbrev pub fracn_word : Option ℕ → ℕ
fracn_word None = 0
fracn_word (Some f) = f

output_divider : (div en : ℕ) (o : Option PllOutput) → div ≢ en → val_all (output_entries div en o) div 0 ≡ divider_word o
output_divider div en None h = put_other div en 0 0 h
output_divider div en (Some o) h = put_other div en 1 _ h ∙ put_same div (o.divider - 1) 0

output_enable : (div en : ℕ) (o : Option PllOutput) → val_all (output_entries div en o) en 0 ≡ enable_bit o
output_enable div en None = put_same en 0 0
output_enable div en (Some o) = put_same en 1 _

fraction_fracen : (i : ℕ) (c : Option ℕ) → val_all (fraction_entries i c) (15 * i + 5) 0 ≡ fracen_bit c
fraction_fracen i None = refl
fraction_fracen i (Some n) = put_same (15 * i + 5) 1 _

fraction_fracn : (i : ℕ) (c : Option ℕ) → val_all (fraction_entries i c) (15 * i + 4) 0 ≡ fracn_word c
fraction_fracn i None = refl
fraction_fracn i (Some n) =
    put_other (15 * i + 4) (15 * i + 5) 1 _ (omega arith) ∙ put_other (15 * i + 4) (15 * i + 5) 0 _ (omega arith) ∙ put_same (15 * i + 4) n 0

module _ (i : ℕ) (s : PllSettings) where
  abbrev own : ℕ → ℕ → ℕ
  own k d = val_all (setting_entries i s) (15 * i + k) d

  -- the outputs leave the fields below P's divider
  below_p : (k d : ℕ) → k < 6 → own k d ≡ val_all (fraction_entries i s.fraction) (15 * i + k) (val_all (base_entries i s) (15 * i + k) d)
  below_p k d h =
      setting_val i s (15 * i + k) d ∙ output_keeps _ _ s.r (15 * i + k) _ (omega arith) (omega arith)
      ∙ output_keeps _ _ s.q (15 * i + k) _ (omega arith) (omega arith) ∙ output_keeps _ _ s.p (15 * i + k) _ (omega arith) (omega arith)

  base_keeps : (k d : ℕ) → 4 ≤ k → val_all (base_entries i s) (15 * i + k) d ≡ d
  base_keeps k d h = avoid (base_entries i s) (15 * i + k) d (omega arith)

  -- what comes before the outputs leaves P's divider and the fields above
  low_keeps : (k d : ℕ) → 6 ≤ k → val_all (fraction_entries i s.fraction) (15 * i + k) (val_all (base_entries i s) (15 * i + k) d) ≡ d
  low_keeps k d h = fraction_keeps i s.fraction (15 * i + k) _ (omega arith) (omega arith) ∙ base_keeps k d (omega arith)

  pub own_vcosel : own 0 0 ≡ s.vcosel
  own_vcosel =
      below_p 0 0 (omega arith) ∙ fraction_keeps i s.fraction (15 * i + 0) _ (omega arith) (omega arith)
      ∙ put_other (15 * i + 0) (15 * i + 3) _ _ (omega arith) ∙ put_other (15 * i + 0) (15 * i + 2) _ _ (omega arith)
      ∙ put_other (15 * i + 0) (15 * i + 1) _ _ (omega arith) ∙ put_same (15 * i + 0) s.vcosel _

  pub own_rge : own 1 0 ≡ s.rge
  own_rge =
      below_p 1 0 (omega arith) ∙ fraction_keeps i s.fraction (15 * i + 1) _ (omega arith) (omega arith)
      ∙ put_other (15 * i + 1) (15 * i + 3) _ _ (omega arith) ∙ put_other (15 * i + 1) (15 * i + 2) _ _ (omega arith)
      ∙ put_same (15 * i + 1) s.rge _

  pub own_m : own 2 0 ≡ s.m
  own_m =
      below_p 2 0 (omega arith) ∙ fraction_keeps i s.fraction (15 * i + 2) _ (omega arith) (omega arith)
      ∙ put_other (15 * i + 2) (15 * i + 3) _ _ (omega arith) ∙ put_same (15 * i + 2) s.m _

  pub own_n : own 3 0 ≡ s.n - 1
  own_n = below_p 3 0 (omega arith) ∙ fraction_keeps i s.fraction (15 * i + 3) _ (omega arith) (omega arith) ∙ put_same (15 * i + 3) (s.n - 1) _

  pub own_fracn : own 4 0 ≡ fracn_word s.fraction
  own_fracn =
      below_p 4 0 (omega arith) ∙ ap (val_all (fraction_entries i s.fraction) (15 * i + 4)) (base_keeps 4 0 (omega arith)) ∙ fraction_fracn i s.fraction

  pub own_fracen : own 5 0 ≡ fracen_bit s.fraction
  own_fracen =
      below_p 5 0 (omega arith) ∙ ap (val_all (fraction_entries i s.fraction) (15 * i + 5)) (base_keeps 5 0 (omega arith)) ∙ fraction_fracen i s.fraction

  -- an output's field k is what the output's own entries make of a 0
  p_only : (k : ℕ) → 6 ≤ k → k < 8 → own k 0 ≡ val_all (output_entries (15 * i + 6) (15 * i + 7) s.p) (15 * i + k) 0
  p_only k l u =
      setting_val i s (15 * i + k) 0 ∙ output_keeps _ _ s.r (15 * i + k) _ (omega arith) (omega arith)
      ∙ output_keeps _ _ s.q (15 * i + k) _ (omega arith) (omega arith)
      ∙ ap (val_all (output_entries (15 * i + 6) (15 * i + 7) s.p) (15 * i + k)) (low_keeps k 0 l)

  q_only : (k : ℕ) → 8 ≤ k → k < 10 → own k 0 ≡ val_all (output_entries (15 * i + 8) (15 * i + 9) s.q) (15 * i + k) 0
  q_only k l u =
      setting_val i s (15 * i + k) 0 ∙ output_keeps _ _ s.r (15 * i + k) _ (omega arith) (omega arith)
      ∙ ap (val_all (output_entries (15 * i + 8) (15 * i + 9) s.q) (15 * i + k))
      (output_keeps _ _ s.p (15 * i + k) _ (omega arith) (omega arith) ∙ low_keeps k 0 (omega arith))

  r_only : (k : ℕ) → 10 ≤ k → own k 0 ≡ val_all (output_entries (15 * i + 10) (15 * i + 11) s.r) (15 * i + k) 0
  r_only k l =
      setting_val i s (15 * i + k) 0
      ∙ ap (val_all (output_entries (15 * i + 10) (15 * i + 11) s.r) (15 * i + k))
      (output_keeps _ _ s.q (15 * i + k) _ (omega arith) (omega arith) ∙ output_keeps _ _ s.p (15 * i + k) _ (omega arith) (omega arith) ∙ low_keeps k 0 (omega arith))

  pub own_divider : (o : Output) → own (divider o) 0 ≡ divider_word (setting_of o s)
  own_divider P = p_only 6 (omega arith) (omega arith) ∙ output_divider _ _ s.p (omega arith)
  own_divider Q = q_only 8 (omega arith) (omega arith) ∙ output_divider _ _ s.q (omega arith)
  own_divider R = r_only 10 (omega arith) ∙ output_divider _ _ s.r (omega arith)

  pub own_enable : (o : Output) → own (enable o) 0 ≡ enable_bit (setting_of o s)
  own_enable P = p_only 7 (omega arith) (omega arith) ∙ output_enable _ _ s.p
  own_enable Q = q_only 9 (omega arith) (omega arith) ∙ output_enable _ _ s.q
  own_enable R = r_only 11 (omega arith) ∙ output_enable _ _ s.r
