-- Laws of the steps of document 01: what a value satisfies that they come to, what a refusal does, and what held on the way to a value.
use Rattle.std.specs.Prelude.{Result, Ok, Err}
use mathlib.Core.Path.{◌≡◌, refl}
use mathlib.Core.Bool.{Bool, true, false}
use Prim.Native.Nat.{ℕ}
use native.Mathlib.Omega.{arith}
use Rattle.types.specs.declared.Refusal.{Refusal}
use Rattle.rules.specs.Document01.Result.{◌>>=◌, ◌>>◌, require}

pub ok_same : {A : Type 0} {a b : A} → ◌≡◌ {A = Result A Refusal} (Ok a) (Ok b) → a ≡ b
ok_same e = cc

pub not_ok : {A Q : Type 0} {n : Refusal} {a : A} → ◌≡◌ {A = Result A Refusal} (Err n) (Ok a) → Q
not_ok e = absurd (let z : ◌≡◌ {A = ℕ} 0 1 = cc in omega arith)

-- four tests in a group, and what follows them
pub regroup : {A : Type 0} (a b c d : Result (Unit {0}) Refusal) (r : Result A Refusal) → (a >> (b >> (c >> d))) >> r ≡ a >> (b >> (c >> (d >> r)))
regroup (Err n) b c d r = refl
regroup (Ok u) (Err n) c d r = refl
regroup (Ok u) (Ok v) (Err n) d r = refl
regroup (Ok u) (Ok v) (Ok w) d r = refl

-- ---- a value
-- what holds of a value, if there is one
abbrev pub Holds : {A : Type 0} → (A → Type 0) → Result A Refusal → Type 0
Holds P (Err n) = Unit {0}
Holds P (Ok a) = P a

pub holds_then : {A B : Type 0} (P : B → Type 0) (x : Result A Refusal) (k : A → Result B Refusal) → ((a : A) → Holds P (k a)) → Holds P (x >>= k)
holds_then P (Err n) k h = tt
holds_then P (Ok a) k h = h a

pub holds_next : {A B : Type 0} (P : B → Type 0) (x : Result A Refusal) (r : Result B Refusal) → Holds P r → Holds P (x >> r)
holds_next P (Err n) r h = tt
holds_next P (Ok a) r h = h

-- behind a test it is known
pub holds_tested : {B : Type 0} (P : B → Type 0) (b : Bool) (n : Refusal) (r : Result B Refusal) → (b ≡ true → Holds P r) → Holds P (require b n >> r)
holds_tested P true n r h = h refl
holds_tested P false n r h = tt

-- a step of which something is known, then the next
pub holds_known : {A B : Type 0} (P : B → Type 0) (Q : A → Type 0) (x : Result A Refusal) (k : A → Result B Refusal) → Holds Q x → ((a : A) → Q a → Holds P (k a)) → Holds P (x >>= k)
holds_known P Q (Err n) k q h = tt
holds_known P Q (Ok a) k q h = h a q

-- what follows from what holds
pub holds_more : {A : Type 0} (P Q : A → Type 0) (x : Result A Refusal) → ((a : A) → P a → Q a) → Holds P x → Holds Q x
holds_more P Q (Err n) f h = tt
holds_more P Q (Ok a) f h = f a h

-- two things that hold
pub holds_both : {A : Type 0} (P Q : A → Type 0) (x : Result A Refusal) → Holds P x → Holds Q x → Holds (λ a. P a × Q a) x
holds_both P Q (Err n) p q = tt
holds_both P Q (Ok a) p q = (p, q)

-- ---- what a refusal satisfies, if steps of the rules come to one
abbrev pub Only : {A : Type 0} → (Refusal → Type 0) → Result A Refusal → Type 0
Only P (Err n) = P n
Only P (Ok a) = Unit {0}

pub only_weaker : {A : Type 0} (P Q : Refusal → Type 0) (x : Result A Refusal) → ((n : Refusal) → P n → Q n) → Only P x → Only Q x
only_weaker P Q (Err n) f h = f n h
only_weaker P Q (Ok a) f h = tt

module _ (P : Refusal → Type 0) where
  pub only_require : (b : Bool) (n : Refusal) → P n → Only P (require b n)
  only_require true n h = tt
  only_require false n h = h

  pub only_then : {A B : Type 0} (x : Result A Refusal) (k : A → Result B Refusal) → Only P x → ((a : A) → Only P (k a)) → Only P (x >>= k)
  only_then (Err n) k h f = h
  only_then (Ok a) k h f = f a

  pub only_next : {A B : Type 0} (x : Result A Refusal) (r : Result B Refusal) → Only P x → Only P r → Only P (x >> r)
  only_next (Err n) r h f = h
  only_next (Ok a) r h f = f

  pub only_tested : {B : Type 0} (b : Bool) (n : Refusal) (r : Result B Refusal) → P n → Only P r → Only P (require b n >> r)
  only_tested b n r h f = only_next (require b n) r (only_require b n h) f

  -- behind a step of which something is known
  pub only_known : {A B : Type 0} (Q : A → Type 0) (x : Result A Refusal) (k : A → Result B Refusal) → Only P x → Holds Q x → ((a : A) → Q a → Only P (k a)) → Only P (x >>= k)
  only_known Q (Err n) k h q f = h
  only_known Q (Ok a) k h q f = f a q

-- ---- steps that came to a value: each step came to one, and each test held
pub bind_ok : {A B : Type 0} (r : Result A Refusal) (k : A → Result B Refusal) (v : B) → (r >>= k) ≡ Ok v → (a : A) × (r ≡ Ok a) × (k a ≡ Ok v)
bind_ok (Err n) k v e = not_ok e
bind_ok (Ok a) k v e = (a, refl, e)

pub then_ok : {A B : Type 0} (r : Result A Refusal) (s : Result B Refusal) (v : B) → (r >> s) ≡ Ok v → (a : A) × (r ≡ Ok a) × (s ≡ Ok v)
then_ok (Err n) s v e = not_ok e
then_ok (Ok a) s v e = (a, refl, e)

pub require_ok : (t : Bool) (n : Refusal) (u : Unit {0}) → require t n ≡ Ok u → t ≡ true
require_ok true n u e = refl
require_ok false n u e = not_ok e

-- a test that held, and what came after it
pub tested_ok : {B : Type 0} (t : Bool) (n : Refusal) (s : Result B Refusal) (v : B) → (require t n >> s) ≡ Ok v → (t ≡ true) × (s ≡ Ok v)
tested_ok true n s v e = (refl, e)
tested_ok false n s v e = not_ok e
