-- Steps of the rules beside rows: what the first row says that holds, and the value where none does. The value is one for all requests, so rows of
-- two steps are those of the first, then those of the second.
use Rattle.std.specs.Prelude.{Option, Result, Ok, Err, Some, None}
use mathlib.Core.Path.{◌≡◌, refl, ap}
use mathlib.Core.Bool.{Bool, true, false, not}
use mathlib.Core.List.{List, [], ◌∷◌, ◌++◌}
use Prim.Native.Nat.{ℕ}
use native.Mathlib.Omega.{arith}
use Rattle.laws.proofs.Tests.{by_test}
use Rattle.types.specs.declared.Refusal.{Refusal}
use Rattle.rules.specs.Document01.Result.{◌>>=◌, ◌>>◌, require}
use Rattle.rules.specs.Document01.Refusals.{number_of}
use Rattle.claims.specs.Demands.Rows.{Row, ◌when◌, first_that}

-- a number, or a value
pub data Said (A : Type 0) : Type 0 where
  number : ℕ → Said A
  value : A → Said A

-- by steps
abbrev pub told : {A : Type 0} → Result A Refusal → Said A
told (Err n) = number (number_of n)
told (Ok a) = value a

-- by a row that holds, or none
abbrev pub said_by : {A : Type 0} → Option ℕ → A → Said A
said_by None v = value v
said_by (Some n) v = number n

-- the steps x say what the rows say, and come to v where none holds
pub record Says {A : Type 0} (x : Result A Refusal) (v : A) (rows : List Row) : Type 0 where
  pub same : told x ≡ said_by (first_that rows) v

-- the first of two lists that has a row that holds
abbrev or_next : Option ℕ → Option ℕ → Option ℕ
or_next None o = o
or_next (Some n) o = Some n

first_append : (r s : List Row) → first_that (r ++ s) ≡ or_next (first_that r) (first_that s)
first_append [] s = refl
first_append (t ∷ r) s = by_test t.holds (λ h. rw h) (λ h. rw h (first_append r s))

-- ---- one step, then the next
then_first : {A B : Type 0} (x : Result A Refusal) (v : A) (k : A → Result B Refusal) (w : B) (o p : Option ℕ) → told x ≡ said_by o v → (x ≡ Ok v → told (k v) ≡ said_by p w) → told (x >>= k) ≡ said_by (or_next o p) w
then_first (Err n) v k w None p e f = cc
then_first (Err n) v k w (Some m) p e f = cc
then_first (Ok a) v k w None p e f = let s : a ≡ v = cc in rw s (f (ap Ok s))
then_first (Ok a) v k w (Some m) p e f = cc

-- the next is asked only where the first came to its value
pub says_given : {A B : Type 0} {x : Result A Refusal} {v : A} {w : B} {r s : List Row} (k : A → Result B Refusal) → Says x v r → (x ≡ Ok v → Says (k v) w s) → Says (x >>= k) w (r ++ s)
says_given {x = x} {v = v} {w = w} {r = r} {s = s} k g h = record { same = rw (first_append r s) (then_first x v k w (first_that r) (first_that s) g.same (λ e. (h e).same)) }

pub says_then : {A B : Type 0} {x : Result A Refusal} {v : A} {w : B} {r s : List Row} (k : A → Result B Refusal) → Says x v r → Says (k v) w s → Says (x >>= k) w (r ++ s)
says_then k g h = says_given k g (λ e. h)

pub says_next : {A B : Type 0} {x : Result A Refusal} {v : A} {y : Result B Refusal} {w : B} {r s : List Row} → Says x v r → Says y w s → Says (x >> y) w (r ++ s)
says_next {x = Err n} {y = y} g h = says_then {x = Err n} (λ a. y) g h
says_next {x = Ok a} {y = y} g h = says_then {x = Ok a} (λ a. y) g h

pub says_ok : {A : Type 0} (v : A) → Says (Ok v) v []
says_ok v = record { same = refl }

-- ---- a test of the rules is a row's test turned round
pub says_test : (t : Bool) (n : Refusal) (b : Bool) → t ≡ not b → Says (require t n) tt ((number_of n when b) ∷ [])
says_test t n true e = rw e (record { same = refl })
says_test t n false e = rw e (record { same = refl })

pub says_tested : {A : Type 0} {y : Result A Refusal} {w : A} {s : List Row} (t : Bool) (n : Refusal) (b : Bool) → t ≡ not b → Says y w s → Says (require t n >> y) w ((number_of n when b) ∷ s)
says_tested t n b e h = says_next (says_test t n b e) h

-- ---- where steps came to a value, no row holds
abbrev pub NoneHolds : List Row → Type 0
NoneHolds [] = Unit {0}
NoneHolds (r ∷ rs) = (r.holds ≡ false) × NoneHolds rs

none_first : (rows : List Row) → first_that rows ≡ None → NoneHolds rows
none_first [] e = tt
none_first (r ∷ rs) e =
    by_test r.holds
    (λ h. absurd (let n : Some r.number ≡ None = rw h at e in let z : ◌≡◌ {A = ℕ} 0 1 = cc in omega arith))
    (λ h. (h, none_first rs (rw h at e)))

pub none_holds : {A : Type 0} (x : Result A Refusal) (v : A) (rows : List Row) → Says x v rows → x ≡ Ok v → NoneHolds rows
none_holds x v rows h e = none_first rows (go (first_that rows) (rw e at h.same))
  where
    go : (o : Option ℕ) → value v ≡ said_by o v → o ≡ None
    go None e = refl
    go (Some n) e = cc
