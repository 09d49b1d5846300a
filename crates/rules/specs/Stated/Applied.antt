-- Document 01, Register entries: applying an entry changes only the fields it sets; a wait, check or read changes none. Said of the words of a
-- bank before and after, and not by the function that applies.
use Rattle.std.specs.Prelude.{◌≡◌, cond, List, [], ◌∷◌, ℕ, ◌<◌, eqb, length, get_or}
use Rattle.types.specs.declared.Entry.{Entry}
use Rattle.types.specs.declared.Entry.TheVariants.{Set, Set2, Set3, Set4, Wait, Wait2, Check, Read}

-- a field, and a value
pub record Value : Type 0 where
  pub field : ℕ
  pub value : ℕ

infix 70 ◌is◌
-- as it is written
abbrev pub ◌is◌ : ℕ → ℕ → Value
f is v = record { field = f; value = v }

-- the fields that an entry sets, in order
abbrev pub set_by : Entry → List Value
set_by (Set f v) = f is v ∷ []
set_by (Set2 f v g w) = f is v ∷ g is w ∷ []
set_by (Set3 f v g w h x) = f is v ∷ g is w ∷ h is x ∷ []
set_by (Set4 f v g w h x k y) = f is v ∷ g is w ∷ h is x ∷ k is y ∷ []
set_by (Wait f v) = []
set_by (Wait2 f v g w) = []
set_by (Check f v) = []
set_by (Read f) = []

-- the value of field f by these: the last that names it, or old where none does
abbrev pub last_of : List Value → (f old : ℕ) → ℕ
last_of [] f old = old
last_of (x ∷ xs) f old = last_of xs f (cond (eqb f x.field) x.value old)

-- entry e was applied to bank b and left bank b₁
pub record Applied (e : Entry) (b b₁ : List ℕ) : Type 0 where
  pub words : length b₁ ≡ length b
  pub each : (f : ℕ) → f < length b → get_or b₁ f 0 ≡ last_of (set_by e) f (get_or b f 0)
