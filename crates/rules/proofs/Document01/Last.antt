-- What a list of entries leaves in one field: the last value set, or the one before the list. A whole bank is never written out.
use mathlib.Core.Path.{◌≡◌, refl, sym, ◌∙◌, ap}
use mathlib.Core.Logic.{◌≢◌}
use mathlib.Core.Bool.{Bool, true, false, cond}
use mathlib.Core.List.{List, [], ◌∷◌, ◌++◌}
use Prim.Native.Nat.{ℕ, ◌<◌}
use lib.ListN.{length, set, get_or, length-set}
use lib.Seq.{get_or-set_same, get_or-set_other}
use lib.Dec.{eqb}
use borrow.Author.Tests.{eq-eqb, ne_eqb, eqb-true, eqb-false}
use Rattle.types.specs.declared.Entry.{Entry}
use Rattle.types.specs.declared.Entry.TheVariants.{Set, Set2, Set3, Set4, Wait, Wait2, Check, Read}
use Rattle.rules.specs.Document01.Bank.{apply_one, apply_all}

-- what one set of field g to v leaves in field f, which held d
abbrev pub put : ℕ → ℕ → ℕ → ℕ → ℕ
put f g v d = cond (eqb f g) v d

abbrev pub val_one : Entry → ℕ → ℕ → ℕ
val_one (Set g v) f d = put f g v d
val_one (Set2 g v h w) f d = put f h w (put f g v d)
val_one (Set3 g v h w k x) f d = put f k x (put f h w (put f g v d))
val_one (Set4 g v h w k x l y) f d = put f l y (put f k x (put f h w (put f g v d)))
val_one (Wait g v) f d = d
val_one (Wait2 g v h w) f d = d
val_one (Check g v) f d = d
val_one (Read g) f d = d

-- what the list leaves in field f, which held d
abbrev pub val_all : List Entry → ℕ → ℕ → ℕ
val_all [] f d = d
val_all (e ∷ es) f d = val_all es f (val_one e f d)

-- ---- the field after the list
pub at_put : (b : List ℕ) (f g v : ℕ) → f < length b → get_or (set b g v) f 0 ≡ put f g v (get_or b f 0)
at_put b f g v h = go (eqb f g) refl
  where
    go : (t : Bool) → eqb f g ≡ t → get_or (set b g v) f 0 ≡ cond t v (get_or b f 0)
    go true e = ap (λ (n : ℕ). get_or (set b n v) f 0) (sym (eqb-true f g e)) ∙ get_or-set_same b f v 0 h
    go false e = get_or-set_other b g f v 0 (eqb-false f g e)

kept : (b : List ℕ) (g v : ℕ) {f : ℕ} → f < length b → f < length (set b g v)
kept b g v h = rw (length-set b g v) h

at_two : (b : List ℕ) (f g v k w : ℕ) → f < length b → get_or (set (set b g v) k w) f 0 ≡ put f k w (put f g v (get_or b f 0))
at_two b f g v k w h = at_put (set b g v) f k w (kept b g v h) ∙ ap (put f k w) (at_put b f g v h)

at_three : (b : List ℕ) (f g v k w l x : ℕ) → f < length b → get_or (set (set (set b g v) k w) l x) f 0 ≡ put f l x (put f k w (put f g v (get_or b f 0)))
at_three b f g v k w l x h = at_two (set b g v) f k w l x (kept b g v h) ∙ ap (λ (d : ℕ). put f l x (put f k w d)) (at_put b f g v h)

pub at_one : (e : Entry) (b : List ℕ) (f : ℕ) → f < length b → get_or (apply_one e b) f 0 ≡ val_one e f (get_or b f 0)
at_one (Set g v) b f h = at_put b f g v h
at_one (Set2 g v k w) b f h = at_two b f g v k w h
at_one (Set3 g v k w l x) b f h = at_three b f g v k w l x h
at_one (Set4 g v k w l x m y) b f h =
    at_three (set b g v) f k w l x m y (kept b g v h) ∙ ap (λ (d : ℕ). put f m y (put f l x (put f k w d))) (at_put b f g v h)
at_one (Wait g v) b f h = refl
at_one (Wait2 g v k w) b f h = refl
at_one (Check g v) b f h = refl
at_one (Read g) b f h = refl

pub length_one : (e : Entry) (b : List ℕ) → length (apply_one e b) ≡ length b
length_one (Set g v) b = length-set b g v
length_one (Set2 g v k w) b = simp length-set
length_one (Set3 g v k w l x) b = simp length-set
length_one (Set4 g v k w l x m y) b = simp length-set
length_one (Wait g v) b = refl
length_one (Wait2 g v k w) b = refl
length_one (Check g v) b = refl
length_one (Read g) b = refl

-- the bank's word after the list
pub at_all : (es : List Entry) (b : List ℕ) (f : ℕ) → f < length b → get_or (apply_all es b) f 0 ≡ val_all es f (get_or b f 0)
at_all [] b f h = refl
at_all (e ∷ es) b f h = at_all es (apply_one e b) f (rw (length_one e b) h) ∙ ap (val_all es f) (at_one e b f h)

-- ---- lists one after the other
pub val_append : (s t : List Entry) (f d : ℕ) → val_all (s ++ t) f d ≡ val_all t f (val_all s f d)
val_append [] t f d = refl
val_append (e ∷ s) t f d = val_append s t f (val_one e f d)

-- ---- a list that does not set the field
abbrev pub avoids : ℕ → Entry → Type 0
avoids f (Set g v) = f ≢ g
avoids f (Set2 g v h w) = (f ≢ g) × (f ≢ h)
avoids f (Set3 g v h w k x) = (f ≢ g) × (f ≢ h) × (f ≢ k)
avoids f (Set4 g v h w k x l y) = (f ≢ g) × (f ≢ h) × (f ≢ k) × (f ≢ l)
avoids f (Wait g v) = Unit
avoids f (Wait2 g v h w) = Unit
avoids f (Check g v) = Unit
avoids f (Read g) = Unit

abbrev pub Avoids : ℕ → List Entry → Type 0
Avoids f [] = Unit
Avoids f (e ∷ es) = avoids f e × Avoids f es

pub put_other : (f g v d : ℕ) → f ≢ g → put f g v d ≡ d
put_other f g v d h = rw (ne_eqb f g h)

pub put_same : (f v d : ℕ) → put f f v d ≡ v
put_same f v d = rw (eq-eqb f f refl)

avoid_one : (e : Entry) (f d : ℕ) → avoids f e → val_one e f d ≡ d
avoid_one (Set g v) f d a = put_other f g v d a
avoid_one (Set2 g v h w) f d a = put_other f h w _ a.1 ∙ put_other f g v d a.0
avoid_one (Set3 g v h w k x) f d a = put_other f k x _ a.2 ∙ put_other f h w _ a.1 ∙ put_other f g v d a.0
avoid_one (Set4 g v h w k x l y) f d a = put_other f l y _ a.3 ∙ put_other f k x _ a.2 ∙ put_other f h w _ a.1 ∙ put_other f g v d a.0
avoid_one (Wait g v) f d a = refl
avoid_one (Wait2 g v h w) f d a = refl
avoid_one (Check g v) f d a = refl
avoid_one (Read g) f d a = refl

pub avoid : (es : List Entry) (f d : ℕ) → Avoids f es → val_all es f d ≡ d
avoid [] f d a = refl
avoid (e ∷ es) f d a = avoid es f (val_one e f d) a.1 ∙ avoid_one e f d a.0
