-- How a step of the rules and a run of the Rust agree, and that steps that agree may follow one another.
use Rattle.std.specs.Prelude.{Result, Ok, Err}
use mathlib.Core.Path.{◌≡◌, refl, ap, ◌∙◌}
use mathlib.Core.List.{List, [], ◌∷◌, ◌++◌, append_assoc}
use mathlib.Core.Bool.{Bool}
use Prim.Native.Nat.{ℕ, ◌-◌}
use Rattle.types.specs.declared.PllRequest.{PllRequest}
use Rattle.types.specs.declared.Request.{Request}
use Rattle.types.specs.declared.ChipState.{ChipState}
use Rattle.types.specs.declared.Entry.{Entry}
use Rattle.types.specs.declared.Entry.TheVariants.{Set}
use Rattle.types.specs.declared.Refusal.{Refusal}
use Rattle.rules.specs.Document01.Result as Rules
use Rattle.rules.specs.Document01.Fields
use Rattle.rules.specs.Document01.Fields.{of_pll}
use Rattle.rules.proofs.Document01.Results.{Holds}
use Rattle.claims.specs.Rust.Run.{Outcome, panics, ends, Run, continue, as_u8}
use Rattle.claims.specs.Demands.Agreement.{divider_for, WrittenAt, Departure}
use Rattle.claims.proofs.Agreement.Keeps.{Keeps, panicking, ending}

-- values agree as R says; a refusal meets a panic, or the Rust ends all the same and D holds of its operations
abbrev pub AgreeOr : {A B : Type 0} → (Refusal → List Entry → Type 0) → (A → List Entry → B → Type 0) → Result A Refusal → Outcome B → Type 0
AgreeOr D R (Err n) panics = Unit {0}
AgreeOr D R (Err n) (ends es b) = D n es
AgreeOr D R (Ok a) panics = ⊥
AgreeOr D R (Ok a) (ends es b) = R a es b

-- every refusal meets a panic: the Rust does not end
abbrev pub no_end : Refusal → List Entry → Type 0
no_end n es = ⊥

abbrev pub Agree : {A B : Type 0} → (A → List Entry → B → Type 0) → Result A Refusal → Outcome B → Type 0
Agree R x o = AgreeOr no_end R x o

-- a refusal meets a panic or a departure
abbrev pub AgreeOrDepart : {A B : Type 0} → Request → ChipState → (A → List Entry → B → Type 0) → Result A Refusal → Outcome B → Type 0
AgreeOrDepart q c R x o = AgreeOr (Departure q c) R x o

-- ---- a departure stays one, with one operation more
pub written_still : (k : ℕ) (odd : Bool) (a : PllRequest) (n : Refusal) (e : Entry) (es : List Entry) → WrittenAt k odd a n es → WrittenAt k odd a n (es ++ (e ∷ []))
written_still k odd a n e es d = record {
  why = d.why;
  before = d.before;
  after = d.after ++ (e ∷ []);
  written = ap (λ (l : List Entry). l ++ (e ∷ [])) d.written ∙ append_assoc d.before (Set (of_pll k Fields.P) (as_u8 (divider_for odd a - 1)) ∷ d.after) (e ∷ []);
  forbidden = d.forbidden;
}

pub departs_still : (q : Request) (c : ChipState) (n : Refusal) (e : Entry) (es : List Entry) → Departure q c n es → Departure q c n (es ++ (e ∷ []))
departs_still q c n e es d = record { pll = d.pll; there = d.there; at = written_still d.pll _ _ n e es d.at }

pub departed : {A B : Type 0} (D : Refusal → List Entry → Type 0) (R : A → List Entry → B → Type 0) (n : Refusal) {o : Outcome B} → Keeps (D n) o → AgreeOr D R (Err n) o
departed D R n panicking = tt
departed D R n (ending d) = d

-- what departs in one way departs in another
pub departs_too : {A B : Type 0} (D E : Refusal → List Entry → Type 0) (R : A → List Entry → B → Type 0) (x : Result A Refusal) (o : Outcome B) → ((n : Refusal) (es : List Entry) → D n es → E n es) → AgreeOr D R x o → AgreeOr E R x o
departs_too D E R (Err n) panics f h = tt
departs_too D E R (Err n) (ends es b) f h = f n es h
departs_too D E R (Ok a) panics f h = h
departs_too D E R (Ok a) (ends es b) f h = h

-- ---- a step, then the next
module _ {A B C D : Type 0} where
  then_by : (E F : Refusal → List Entry → Type 0) (R : A → List Entry → B → Type 0) (S : C → List Entry → D → Type 0) (x : Result A Refusal) (o : Outcome B) (k : A → Result C Refusal) (l : B → Run D) → AgreeOr E R x o → ((n : Refusal) (es : List Entry) (b : B) → E n es → AgreeOr F S (Err n) (l b es)) → ((a : A) (es : List Entry) (b : B) → R a es b → AgreeOr F S (k a) (l b es)) → AgreeOr F S (Rules.◌>>=◌ x k) (continue o l)
  then_by E F R S (Err n) panics k l h g f = tt
  then_by E F R S (Err n) (ends es b) k l h g f = g n es b h
  then_by E F R S (Ok a) panics k l h g f = absurd h
  then_by E F R S (Ok a) (ends es b) k l h g f = f a es b h

  module _ (R : A → List Entry → B → Type 0) (S : C → List Entry → D → Type 0) (x : Result A Refusal) (o : Outcome B) (k : A → Result C Refusal) (l : B → Run D) where
    pub agree_then : Agree R x o → ((a : A) (es : List Entry) (b : B) → R a es b → Agree S (k a) (l b es)) → Agree S (Rules.◌>>=◌ x k) (continue o l)
    agree_then h f = then_by no_end no_end R S x o k l h (λ n es b e. absurd e) f

    -- the next may depart
    pub agree_then_depart : (E : Refusal → List Entry → Type 0) → Agree R x o → ((a : A) (es : List Entry) (b : B) → R a es b → AgreeOr E S (k a) (l b es)) → AgreeOr E S (Rules.◌>>=◌ x k) (continue o l)
    agree_then_depart E h f = then_by no_end E R S x o k l h (λ n es b e. absurd e) f

    -- the first may depart too: what follows then takes no operation back
    pub depart_then : (E : Refusal → List Entry → Type 0) → AgreeOr E R x o → ((n : Refusal) (es : List Entry) (b : B) → E n es → Keeps (E n) (l b es)) → ((a : A) (es : List Entry) (b : B) → R a es b → AgreeOr E S (k a) (l b es)) → AgreeOr E S (Rules.◌>>=◌ x k) (continue o l)
    depart_then E h g f = then_by E E R S x o k l h (λ n es b d. departed E S n (g n es b d)) f

-- where every continuation panics, so does the whole
pub all_panic : {A B : Type 0} (o : Outcome A) (k : A → Run B) → ((a : A) (es : List Entry) → k a es ≡ panics) → continue o k ≡ panics
all_panic panics k h = refl
all_panic (ends es a) k h = h a es

-- a run in two parts
pub continue_twice : {A B C : Type 0} (o : Outcome A) (k : A → Run B) (l : B → Run C) → continue (continue o k) l ≡ continue o (λ a es. continue (k a es) l)
continue_twice panics k l = refl
continue_twice (ends es a) k l = refl

pub continue_same : {A B : Type 0} (o : Outcome A) (k l : A → Run B) → ((a : A) (es : List Entry) → k a es ≡ l a es) → continue o k ≡ continue o l
continue_same panics k l h = refl
continue_same (ends es a) k l h = h a es

-- a step whose value the rules do not use, then the next
pub agree_next : {A B C D : Type 0} (E : Refusal → List Entry → Type 0) (R : A → List Entry → B → Type 0) (S : C → List Entry → D → Type 0) (x : Result A Refusal) (o : Outcome B) (r : Result C Refusal) (l : B → Run D) → Agree R x o → ((a : A) (es : List Entry) (b : B) → R a es b → AgreeOr E S r (l b es)) → AgreeOr E S (Rules.◌>>◌ x r) (continue o l)
agree_next E R S (Err n) panics r l h f = tt
agree_next E R S (Err n) (ends es b) r l h f = absurd h
agree_next E R S (Ok a) panics r l h f = absurd h
agree_next E R S (Ok a) (ends es b) r l h f = f a es b h

-- what the Rust still does behind a step changes nothing of it
pub agree_on : {A B D : Type 0} (R : A → List Entry → B → Type 0) (S : A → List Entry → D → Type 0) (x : Result A Refusal) (o : Outcome B) (l : B → Run D) → Agree R x o → ((a : A) (es : List Entry) (b : B) → R a es b → Agree S (Ok a) (l b es)) → Agree S x (continue o l)
agree_on R S (Err n) panics l h f = tt
agree_on R S (Err n) (ends es b) l h f = absurd h
agree_on R S (Ok a) panics l h f = absurd h
agree_on R S (Ok a) (ends es b) l h f = f a es b h

-- what agrees, and of which something holds
pub agree_holds : {A B : Type 0} (D : Refusal → List Entry → Type 0) (R : A → List Entry → B → Type 0) (P : A → Type 0) (x : Result A Refusal) (o : Outcome B) → AgreeOr D R x o → Holds P x → AgreeOr D (λ a es b. R a es b × P a) x o
agree_holds D R P (Err n) panics h p = tt
agree_holds D R P (Err n) (ends es b) h p = h
agree_holds D R P (Ok a) panics h p = h
agree_holds D R P (Ok a) (ends es b) h p = (h, p)

-- what the Rust has is put into another form
pub agree_map : {A B C : Type 0} (D : Refusal → List Entry → Type 0) (R : A → List Entry → B → Type 0) (S : A → List Entry → C → Type 0) (x : Result A Refusal) (o : Outcome B) (f : B → C) → AgreeOr D R x o → ((a : A) (es : List Entry) (b : B) → R a es b → S a es (f b)) → AgreeOr D S x (continue o (λ b es. ends es (f b)))
agree_map D R S (Err n) panics f h g = tt
agree_map D R S (Err n) (ends es b) f h g = h
agree_map D R S (Ok a) panics f h g = h
agree_map D R S (Ok a) (ends es b) f h g = g a es b h

-- what agrees without a departure
pub agree_always : {A B : Type 0} (D : Refusal → List Entry → Type 0) (R : A → List Entry → B → Type 0) (x : Result A Refusal) (o : Outcome B) → Agree R x o → AgreeOr D R x o
agree_always D R (Err n) panics h = tt
agree_always D R (Err n) (ends es b) h = absurd h
agree_always D R (Ok a) panics h = h
agree_always D R (Ok a) (ends es b) h = h
