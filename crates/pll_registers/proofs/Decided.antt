-- `Hold` decides the three words: no others hold the same fields. So a field that is one bit off, a bit that is set beside the fields or a divider of an
-- output that is not enabled is refused by it.
use mathlib.Core.Path.{◌≡◌, sym, ◌∙◌, ap₂}
use Prim.Native.Nat.{ℕ, ◌+◌, ◌*◌, ◌/◌, ◌%◌, ◌^◌, ◌<◌}
use native.Mathlib.Nat.{div-one, div-eq_of_lt}
use lib.Pow.{split, shr-shr}
use Rattle.pll_registers.specs.Stated.{Hold}

-- the bits from a place on, by those from a later one on and those between
join : (w v first width : ℕ) → w / 2 ^ (first + width) ≡ v / 2 ^ (first + width) → w / 2 ^ first % 2 ^ width ≡ v / 2 ^ first % 2 ^ width
    → w / 2 ^ first ≡ v / 2 ^ first
join w v first width above between =
    sym (split (w / 2 ^ first) width)
    ∙ ap₂ (λ (x y : ℕ). x * 2 ^ width + y) (shr-shr w first width ∙ above ∙ sym (shr-shr v first width)) between
    ∙ split (v / 2 ^ first) width

none : (w v n : ℕ) → w < n → v < n → w / n ≡ v / n
none w v n h l = div-eq_of_lt h ∙ sym (div-eq_of_lt l)

module _ {c d f c₁ d₁ f₁ : ℕ} {field : ℕ → ℕ} (x : Hold c d f field) (y : Hold c₁ d₁ f₁ field) where
  pub same_cfgr : c ≡ c₁
  same_cfgr =
      let i = none c c₁ (2 ^ 19) x.cfgr_end y.cfgr_end in
      let r = join c c₁ 18 1 i (x.r_enable ∙ sym y.r_enable) in
      let q = join c c₁ 17 1 r (x.q_enable ∙ sym y.q_enable) in
      let p = join c c₁ 16 1 q (x.p_enable ∙ sym y.p_enable) in
      let o = join c c₁ 14 2 p (x.cfgr_14_15 ∙ sym y.cfgr_14_15) in
      let m = join c c₁ 8 6 o (x.m ∙ sym y.m) in
      let u = join c c₁ 6 2 m (x.cfgr_6_7 ∙ sym y.cfgr_6_7) in
      let v = join c c₁ 5 1 u (x.vcosel ∙ sym y.vcosel) in
      let e = join c c₁ 4 1 v (x.fracen ∙ sym y.fracen) in
      let g = join c c₁ 2 2 e (x.range ∙ sym y.range) in
      sym (div-one c) ∙ join c c₁ 0 2 g (x.source ∙ sym y.source) ∙ div-one c₁

  pub same_divr : d ≡ d₁
  same_divr =
      let i = none d d₁ (2 ^ 31) x.divr_end y.divr_end in
      let r = join d d₁ 24 7 i (x.r ∙ sym y.r) in
      let u = join d d₁ 23 1 r (x.divr_23 ∙ sym y.divr_23) in
      let q = join d d₁ 16 7 u (x.q ∙ sym y.q) in
      let p = join d d₁ 9 7 q (x.p ∙ sym y.p) in
      sym (div-one d) ∙ join d d₁ 0 9 p (x.n ∙ sym y.n) ∙ div-one d₁

  pub same_fracr : f ≡ f₁
  same_fracr =
      let i = none f f₁ (2 ^ 16) x.fracr_end y.fracr_end in
      let n = join f f₁ 3 13 i (x.fracn ∙ sym y.fracn) in
      sym (div-one f) ∙ join f f₁ 0 3 n (x.fracr_0_2 ∙ sym y.fracr_0_2) ∙ div-one f₁
