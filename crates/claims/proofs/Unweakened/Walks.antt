-- What is promised of a walk rules these out: things shown that do not go through the list.
use mathlib.Core.Path.{◌≡◌, refl, ap, subst}
use mathlib.Core.Logic.{◌⊎◌, inl, inr}
use mathlib.Core.Bool.{true, false}
use mathlib.Core.List.{List, [], ◌∷◌, ◌++◌}
use Prim.Native.Nat.{ℕ, suc, ◌≤◌}
use native.Mathlib.Omega.{arith}
use lib.ListN.{length, get_or}
use Rattle.types.specs.declared.Entry.{Entry}
use Rattle.types.specs.declared.Entry.TheVariants.{Set, Wait, Check}
use Rattle.types.specs.declared.Refusal.TheVariants.{OutsideCodes, CsiDown}
use Rattle.types.specs.declared.Shown.{Shown}
use Rattle.types.specs.declared.Shown.TheVariants.{Next, Finished, Stopped}
use Rattle.rules.specs.Document01.Walk.{transition}
use Rattle.rules.specs.Stated.Walks.{Pair, Always, Through, Satisfy, NoneShows, VoltageReads}
use Rattle.rules.proofs.Document01.Walk.{both}
use Rattle.rules.proofs.Document01.Voltage.{steps}

-- CSION, wait CSIRDY, check CSIRDY, SBSEN
abbrev csion : Entry
csion = Set 50 1

abbrev csirdy : Entry
csirdy = Wait 51 1

abbrev checked : Entry
checked = Check 51 1

abbrev sbsen : Entry
sbsen = Set 69 1

-- each of three ways is closed
closed : {A B C : Type 0} → A ⊎ (B ⊎ C) → (A → ⊥) → (B → ⊥) → (C → ⊥) → ⊥
closed (inl x) f g h = f x
closed (inr (inl x)) f g h = g x
closed (inr (inr x)) f g h = h x

false_is_true : {A : Type 0} → (false ≡ true) × A → ⊥
false_is_true p = let e = p.0 in let z : ◌≡◌ {A = ℕ} 0 1 = cc in omega arith

unlike_next : {x : Shown} {e : Entry} → x ≡ Next e → x ≡ Finished → ⊥
unlike_next p q = let z : ◌≡◌ {A = ℕ} 0 1 = cc in omega arith

-- a walk that finishes on its first step, or at once
pub finished_at_once : Through (csion ∷ []) (Finished ∷ []) → ⊥
finished_at_once h = unlike_next h.0 refl

pub finished_early : Through (csion ∷ csirdy ∷ []) (Next csion ∷ Finished ∷ []) → ⊥
finished_early h = closed h.1 (λ t. unlike_next t.0 refl) false_is_true false_is_true

-- another entry than the first; an entry left out; a set shown twice
pub another_first : Through (csion ∷ sbsen ∷ []) (Next sbsen ∷ []) → ⊥
another_first h = let e = h.0 in let z : ◌≡◌ {A = ℕ} 69 50 = cc in omega arith

pub one_left_out : Through (csion ∷ csirdy ∷ sbsen ∷ []) (Next csion ∷ Next sbsen ∷ []) → ⊥
one_left_out h = closed h.1 (λ t. let e = t.0 in let z : ◌≡◌ {A = ℕ} 0 1 = cc in omega arith) false_is_true false_is_true

pub set_twice : Through (csion ∷ sbsen ∷ []) (Next csion ∷ Next csion ∷ []) → ⊥
set_twice h = closed h.1 (λ t. let e = t.0 in let z : ◌≡◌ {A = ℕ} 50 69 = cc in omega arith) false_is_true false_is_true

-- going on after finished
pub on_after_finished : Through (csion ∷ []) (Next csion ∷ Finished ∷ Next csion ∷ []) → ⊥
on_after_finished h = closed h.1 (λ t. let e = t.1.0 in let z : ◌≡◌ {A = ℕ} 0 1 = cc in omega arith) false_is_true false_is_true

-- anything after a check that is down: going on after 24, finished for 24, another number, a check shown twice
pub on_after_24 : Through (checked ∷ sbsen ∷ []) (Next checked ∷ Stopped CsiDown ∷ Next sbsen ∷ []) → ⊥
on_after_24 h =
    closed h.1 (λ t. let e = t.0 in let z : ◌≡◌ {A = ℕ} 0 1 = cc in omega arith) false_is_true
    (λ t. let e = t.1.1.0 in let z : ◌≡◌ {A = ℕ} 0 1 = cc in omega arith)

pub finished_for_24 : Through (checked ∷ sbsen ∷ []) (Next checked ∷ Finished ∷ []) → ⊥
finished_for_24 h =
    closed h.1 (λ t. let e = t.0 in let z : ◌≡◌ {A = ℕ} 0 1 = cc in omega arith) false_is_true
    (λ t. let e = t.1.0 in let z : ◌≡◌ {A = ℕ} 0 1 = cc in omega arith)

pub another_number : Through (checked ∷ sbsen ∷ []) (Next checked ∷ Stopped OutsideCodes ∷ []) → ⊥
another_number h =
    closed h.1 (λ t. let e = t.0 in let z : ◌≡◌ {A = ℕ} 0 1 = cc in omega arith) false_is_true
    (λ t. let e = t.1.0 in let z : ◌≡◌ {A = ℕ} 0 1 = cc in omega arith)

pub check_twice : Through (checked ∷ sbsen ∷ []) (Next checked ∷ Next checked ∷ []) → ⊥
check_twice h =
    closed h.1 (λ t. let e = t.0 in let z : ◌≡◌ {A = ℕ} 0 1 = cc in omega arith) false_is_true
    (λ t. let e = t.1.0 in let z : ◌≡◌ {A = ℕ} 0 1 = cc in omega arith)

-- 24 at a wait
pub stopped_at_a_wait : Through (csirdy ∷ []) (Next csirdy ∷ Stopped CsiDown ∷ []) → ⊥
stopped_at_a_wait h =
    closed h.1 (λ t. let e = t.0 in let z : ◌≡◌ {A = ℕ} 0 1 = cc in omega arith)
    (λ t. let e = t.1.0 in let z : ◌≡◌ {A = ℕ} 0 1 = cc in omega arith) false_is_true

-- something else in between
pub not_always : Always Finished (Finished ∷ Next csion ∷ Finished ∷ []) → ⊥
not_always h = let e = h.1.0 in let z : ◌≡◌ {A = ℕ} 0 1 = cc in omega arith

-- reads that leave a wait or a check where it is, or end before the list does
pub wait_not_passed : Satisfy (csirdy ∷ []) (both 0 1 ∷ []) → ⊥
wait_not_passed h = let e : false ≡ true = h.0 in let z : ◌≡◌ {A = ℕ} 0 1 = cc in omega arith

pub check_not_passed : Satisfy (checked ∷ []) (both 0 1 ∷ []) → ⊥
check_not_passed h = let e : false ≡ true = h.0 in let z : ◌≡◌ {A = ℕ} 0 1 = cc in omega arith

pub too_few : Satisfy (csion ∷ sbsen ∷ []) (both 0 0 ∷ []) → ⊥
too_few h = h.1

-- ---- the voltage walk: no read; ACTVOSRDY never 1; no value of ACTVOS; to Scale0 from a code that is not its own, one step too few
pub voltage_at_once : (target : ℕ) → VoltageReads target [] → ⊥
voltage_at_once target v = let n = steps target [] v in omega arith

none_there : (v : ℕ) (xs : List Pair) (y : Pair) (ys : List Pair) → NoneShows v (xs ++ (y ∷ ys)) → y.a ≡ v → ⊥
none_there v [] y ys n e = n.0 e
none_there v (x ∷ xs) y ys n e = none_there v xs y ys n.1 e

pub voltage_not_ready : (target : ℕ) (rs : List Pair) → NoneShows 1 rs → VoltageReads target rs → ⊥
voltage_not_ready target rs n v = none_there 1 v.waiting v.ready _ (subst (NoneShows 1) v.all n) v.up

pub voltage_not_read : (target : ℕ) (r : Pair) → VoltageReads target (r ∷ []) → ⊥
voltage_not_read target r v = let n = steps target (r ∷ []) v in omega arith

pub voltage_not_set : VoltageReads 0 (both 1 0 ∷ both 0 0 ∷ both 0 0 ∷ []) → ⊥
voltage_not_set v = go v.waiting v.ready v.actvos v.rest v.all v.up v.enough
  where
    second : List Pair → ℕ
    second rs = (get_or rs 1 (both 9 9)).a

    go : (w : List Pair) (r q : Pair) (rest : List Pair) → both 1 0 ∷ both 0 0 ∷ both 0 0 ∷ [] ≡ w ++ (r ∷ (q ∷ rest)) → r.a ≡ 1 → length (transition 0 q.a) ≤ length rest → ⊥
    go [] r q rest e u n =
        let read : 0 ≡ q.a = ap second e in
        let two : 2 ≤ length rest = rw (← read) at n in
        let three : ◌≡◌ {A = ℕ} 3 (suc (suc (length rest))) = ap length e in
        omega arith
    go (x ∷ w) r q rest e u n =
        let t : both 0 0 ∷ both 0 0 ∷ [] ≡ w ++ (r ∷ (q ∷ rest)) = cc in
        let none : NoneShows 1 (both 0 0 ∷ both 0 0 ∷ []) = (λ z. let y : ◌≡◌ {A = ℕ} 0 1 = z in omega arith, (λ z. let y : ◌≡◌ {A = ℕ} 0 1 = z in omega arith, tt)) in
        none_there 1 w r _ (subst (NoneShows 1) t none) u
