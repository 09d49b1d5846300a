-- The report's words in the order of docs/CODES.md, tied clock by clock to what a plan reports, for every plan.
use Rattle.std.specs.Prelude.{Option, Some, None}
use mathlib.Core.Path.{◌≡◌, refl}
use mathlib.Core.List.{List, [], ◌∷◌, ◌++◌, append_assoc}
use Prim.Native.Nat.{ℕ}
use lib.ListN.{length}
use Rattle.types.specs.declared.Plan.{Plan}
use Rattle.rules.specs.Words.{hertz_words, report_words}
use Rattle.claims.specs.Rust.CoreClocks.{CoreClocks}
use Rattle.rules.specs.Manual.Path.{pll1, pll2, pll3}
use Rattle.rules.specs.Manual.Tree.{P, Q, R, sys, hclk, pclk1, pclk2, pclk3, timx, timy, per, hsi, csi, hsi48, lsi, hse, mco1, mco2, output}
use Rattle.claims.specs.Demands.Report.{reported, hertz_of}

-- docs/CODES.md: sys, hclk, pclk1, pclk2, pclk3, timx, timy, per, hsi, csi, hsi48, lsi, hse, lse, audio, mco1, mco2, then P, Q, R of each PLL
abbrev ordered : CoreClocks → List (Option ℕ)
ordered k =
    hertz_of k sys ∷ hertz_of k hclk ∷ hertz_of k pclk1 ∷ hertz_of k pclk2 ∷ hertz_of k pclk3 ∷ hertz_of k timx ∷ hertz_of k timy ∷ hertz_of k per
    ∷ hertz_of k hsi ∷ hertz_of k csi ∷ hertz_of k hsi48 ∷ hertz_of k lsi ∷ hertz_of k hse ∷ k.lse_ck ∷ k.audio_ck ∷ hertz_of k mco1 ∷ hertz_of k mco2
    ∷ hertz_of k (output pll1 P) ∷ hertz_of k (output pll1 Q) ∷ hertz_of k (output pll1 R)
    ∷ hertz_of k (output pll2 P) ∷ hertz_of k (output pll2 Q) ∷ hertz_of k (output pll2 R)
    ∷ hertz_of k (output pll3 P) ∷ hertz_of k (output pll3 Q) ∷ hertz_of k (output pll3 R) ∷ []

pub twenty_six : (k : CoreClocks) → length (ordered k) ≡ 26
twenty_six k = refl

-- a clock: not there, or its hertz
abbrev clock : Option ℕ → List ℕ
clock None = 0 ∷ 0 ∷ []
clock (Some h) = 1 ∷ h ∷ []

abbrev all : List (Option ℕ) → List ℕ
all [] = []
all (h ∷ hs) = clock h ++ all hs

one_clock : (h : Option ℕ) (ws : List ℕ) → hertz_words h ws ≡ clock h ++ ws
one_clock None ws = refl
one_clock (Some h) ws = refl

pub in_this_order : (p : Plan) → report_words p ≡ all (ordered (reported p)) ++ ((reported p).ppre1 ∷ (reported p).ppre2 ∷ (reported p).ppre3 ∷ [])
in_this_order p = simp (one_clock, append_assoc)
