-- The VCO's target and M: `target_setup` and `search_m` against document 01, One PLL.
use mathlib.Core.Path.{◌≡◌, ap, ◌∙◌}
use mathlib.Core.List.{List}
use mathlib.Core.Bool.{true, false}
use Prim.Native.Nat.{ℕ, suc, ◌-◌, ◌*◌, ◌/◌, ◌≤◌, ◌<◌}
use native.Mathlib.Omega.{arith}
use native.Mathlib.Nat.{mul-div-le}
use lib.Dec.{ltb}
use borrow.Author.Tests.{lt-ltb, ltb-true}
use Rattle.types.specs.declared.Entry.{Entry}
use Rattle.rules.specs.Document01.ChoiceOfM.{chosen_m}
use Rattle.rules.specs.Document01.Target.{ceil128, top_of, target_of}
use Rattle.rules.specs.Document01.Hertz.{ratio_of}
use Rattle.claims.specs.Rust.Run.{ends, ceil}
use Rattle.claims.specs.Rust.Pll.{VcoRange, lowered, target_setup, search_m}
use Rattle.laws.proofs.Tests.{by_test}
use Rattle.claims.proofs.Agreement.Numbers.{nonzero, ceil_is}
use Rattle.claims.proofs.Agreement.Buses.{ratio_pos}
use Rattle.claims.proofs.Agreement.Search.{ends_with, min_by_is, all_in, same_found}

pub search_is : (source target : ℕ) (g : VcoRange) (es : List Entry) → target < 2_147_483_648 → 1 ≤ g.input_start → 1 ≤ g.input_end → 1 ≤ source → search_m source g target es ≡ ends_with es (chosen_m source target g.input_start g.input_end)
unfolding search_m chosen_m
search_is source target g es small lows highs some =
    let low : ℕ = g.input_start in
    let high : ℕ = g.input_end in
    let p : 1 ≤ ratio_of source high = ratio_pos source high some highs es in
    let e : ratio_of source high ≡ suc (ratio_of source high - 1) = omega arith in
    rw (nonzero high highs, ceil_is source high highs, nonzero low lows)
    (min_by_is source target low high small lows (ratio_of source high) _ es p (all_in source target low high small lows highs) ∙ ap (ends_with es) (same_found source target low high small lows highs (ratio_of source high - 1) e))

-- the target, where min and max are not 0
module _ (least most : ℕ) (g : VcoRange) (es : List Entry) (a : 1 ≤ least) (b : 1 ≤ most) (fits : g.output_end < 4_294_967_296) where
  abbrev top : ℕ
  top = most * (g.output_end / most)

  cut : ltb 128 (top / least) ≡ true → lowered top (top / least) es ≡ ends es (top / ceil128 (top / least))
  unfolding ratio_of
  cut t =
      let l : 128 < top / least = ltb-true 128 (top / least) t in
      let h : 1 ≤ ceil128 (top / least) = omega arith in
      let e : ceil (top / least) 128 ≡ ceil128 (top / least) = ceil_is (top / least) 128 (omega arith) in
      rw (t, e, nonzero (ceil128 (top / least)) h)

  pub target_is : target_setup least most g es ≡ ends es (target_of least most g.output_end)
  unfolding target_setup target_of top_of
  target_is =
      let p : top ≤ g.output_end = mul-div-le g.output_end most in
      let f : ltb top 4_294_967_296 ≡ true = lt-ltb top 4_294_967_296 (omega arith) in
      rw (nonzero most b, f, nonzero least a)
      (by_test (ltb 128 (top / least)) (λ (t : ltb 128 (top / least) ≡ true). rw (cut t, t)) (λ (n : ltb 128 (top / least) ≡ false). rw n))
