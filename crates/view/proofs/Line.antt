-- A line from its parts.
use Rattle.std.specs.Prelude.{Option, Some, None, is_some, unwrap_or}
use mathlib.Core.Path.{◌≡◌, refl}
use mathlib.Core.Bool.{true, false}
use mathlib.Core.List.{List, [], ◌∷◌}
use Prim.Native.Nat.{ℕ, ◌+◌, ◌*◌, ◌≤◌, ◌<◌}
use lib.Dec.{eqb}
use lib.ListN.{get_or, replicate}
use borrow.Author.Tests.{le-leb, lt-leb}
use Rattle.laws.proofs.Tests.{by_test}
use Rattle.rules.specs.Document01.Entries.{bit}
use Rattle.rules.specs.Manual.Tree.{word}
use Rattle.rules.specs.Manual.Tree.{fed_by}
use Rattle.exact.specs.Exact.{path_by, reading_of}
use Rattle.exact.specs.declared.Exact.{Exact}
use Rattle.view.specs.View.{from_of, divisor_of, exact_parts, line_of}

-- five numbers, one by one
abbrev five : List ℕ → List ℕ
five e = get_or e 0 0 ∷ get_or e 1 0 ∷ get_or e 2 0 ∷ get_or e 3 0 ∷ get_or e 4 0 ∷ []

all_five : (known h : ℕ) (x : Option Exact) → five (exact_parts known h x) ≡ exact_parts known h x
all_five known h None = refl
all_five known h (Some x) = let d = x.denominator in by_test (eqb d 0) (λ (t : eqb d 0 ≡ true). rw t) (λ (f : eqb d 0 ≡ false). rw f)

module _ (report bank : List ℕ) (hse : Option ℕ) (k : ℕ) where
  pub line :
      k ≤ 25 → (there hertz : ℕ) (from : Option ℕ) (known divisor : ℕ) (x : Option Exact) (e : List ℕ) → there ≡ word report (2 * k) → hertz ≡ word report (2 * k + 1) →
      from ≡ from_of bank k → known ≡ bit (is_some from) → divisor ≡ unwrap_or (divisor_of bank k) 0 → x ≡ reading_of (path_by bank (fed_by hse) k) →
      e ≡ exact_parts known hertz x → k ∷ there ∷ hertz ∷ unwrap_or from 29 ∷ known ∷ divisor ∷ five e ≡ line_of report bank hse k
  unfolding line_of
  line h there hertz from known divisor x e e1 e2 e3 e4 e5 e6 e7 =
      rw (le-leb k 25 h, e7, all_five known hertz x, e6, e5, e4, e3, e2, e1)

  pub no_line : 25 < k → replicate 11 0 ≡ line_of report bank hse k
  unfolding line_of
  no_line h = rw (lt-leb k 25 h)

pub ruleset lines = (line, no_line)
