-- A count over a list is its length, as no list is long.
use mathlib.Core.Path.{◌≡◌, refl, ◌∙◌, ap}
use mathlib.Core.List.{List, [], ◌∷◌}
use Prim.Native.Nat.{ℕ, ◌+◌, ◌*◌, ◌<◌}
use native.Mathlib.Omega.{arith}
use lib.ListN.{length, length-append}
use Rattle.std.specs.Prelude.{min, Result, Option, Some, None, is_some, Bool, cond}
use Rattle.types.specs.declared.Entry.{Entry}
use Rattle.types.specs.declared.Plan.{Plan}
use Rattle.types.specs.declared.Refusal.{Refusal}
use Rattle.types.specs.declared.PllOutput.{PllOutput}
use Rattle.types.specs.declared.PllSettings.{PllSettings}
use Rattle.types.specs.declared.Waits.{Waits}
use Rattle.types.specs.declared.Selectors.{Selectors}
use Rattle.types.specs.declared.Mcos.{Mcos}
use Rattle.types.specs.declared.Buses.{Buses}
use Rattle.rules.specs.Document01.Fields
use Rattle.rules.specs.Document01.Fields.{of_pll}
use Rattle.rules.specs.Document01.Entries.{entries_of, output_entries, fraction_entries, setting_entries, clock_entries, bus_entries}
use Rattle.rules.proofs.Document01.Length.{at_most}
use Rattle.entries.specs.declared.count.Count.{Count}
use Rattle.entries.specs.Sink.{told}
use Rattle.entries.specs.Count.{counted}

one_more : (n : ℕ) → n + 1 < 18_446_744_073_709_551_616 → min (n + 1) 18_446_744_073_709_551_615 ≡ n + 1
one_more n h = omega arith

counts : (es : List Entry) (n : ℕ) (room : List ℕ) → n + length es < 18_446_744_073_709_551_616 → (told counted es (record { entries = n }, room)).0.entries ≡ n + length es
counts [] n room h = omega arith
counts (e ∷ es) n room h =
    ap (λ (m : ℕ). (told counted es (record { entries = m }, room)).0.entries) (one_more n (omega arith))
    ∙ counts es (n + 1) room (omega arith)
    ∙ omega arith

-- of any list
pub count_is : (es : List Entry) (c : Count) (room : List ℕ) → length es < 18_446_744_073_709_551_616 → (c, room) ≡ told counted es (record { entries = 0 }, []) → c.entries ≡ length es
count_is es c room h e = ap (λ (s : Count × List ℕ). s.0.entries) e ∙ counts es 0 [] (omega arith) ∙ omega arith

pub answer_is : (x : Result Plan Refusal) (c : Count) (room : List ℕ) → (c, room) ≡ told counted (entries_of x) (record { entries = 0 }, []) → c.entries ≡ length (entries_of x)
answer_is x c room = count_is (entries_of x) c room (let m = at_most x in omega arith)

-- what sets a PLL up
abbrev one : Bool → ℕ
one b = cond b 1 0

output_is : (d e : ℕ) (o : Option PllOutput) → length (output_entries d e o) ≡ 1 + one (is_some o)
output_is d e None = refl
output_is d e (Some o) = refl

fraction_is : (k : ℕ) (f : Option ℕ) → length (fraction_entries k f) ≡ 3 * one (is_some f)
fraction_is k None = refl
fraction_is k (Some f) = refl

pub setting_is : (k : ℕ) (s : PllSettings)
    → 7 + 3 * one (is_some s.fraction) + (one (is_some s.p) + one (is_some s.q) + one (is_some s.r)) ≡ length (setting_entries k s)
unfolding setting_entries
setting_is k s =
    let f = fraction_is k s.fraction in
    let p = output_is (of_pll k Fields.P) (of_pll k Fields.PEN) s.p in
    let q = output_is (of_pll k Fields.Q) (of_pll k Fields.QEN) s.q in
    let r = output_is (of_pll k Fields.R) (of_pll k Fields.REN) s.r in
    simp length-append (omega arith)

pub clocks_is : (w : Waits) (s : Selectors) (m : Mcos) → length (clock_entries w s m) ≡ 9
unfolding clock_entries
clocks_is w s m = refl

pub buses_is : (b : Buses) (s : Selectors) → length (bus_entries b s) ≡ 10
unfolding bus_entries
buses_is b s = refl
