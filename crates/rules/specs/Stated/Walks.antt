-- What is promised of a walk over any sequence of reads: the statements that proofs/Document01/Walk proves of document 01's walk.
use Rattle.std.specs.Prelude.{◌≡◌, ◌⊎◌, Bool, true, false, cond, List, [], ◌∷◌, ◌++◌, map, ℕ, ◌≤◌, length}
use Rattle.types.specs.declared.Entry.{Entry}
use Rattle.types.specs.declared.Entry.TheVariants.{Set, Set2, Set3, Set4, Wait, Wait2, Check, Read}
use Rattle.types.specs.declared.Refusal.TheVariants.{CsiDown}
use Rattle.types.specs.declared.Shown.{Shown}
use Rattle.types.specs.declared.Shown.TheVariants.{Next, Finished, Stopped}
use Rattle.rules.specs.Document01.Walk.{Stand, before, ended, shown_of, passes, is_check, stepped_of, transition}

-- the values read for one step
pub record Pair : Type 0 where
  pub a : ℕ
  pub b : ℕ

-- a walk's step
abbrev pub Step : Type 0
Step = Stand → (a b : ℕ) → Stand

-- where a walk stands after the reads
abbrev pub after : Step → Stand → List Pair → Stand
after step s [] = s
after step s (r ∷ rs) = after step (step s r.a r.b) rs

-- what it shows: before any step, then after each
abbrev pub shows : Step → Stand → List Pair → List Shown
shows step s [] = shown_of s ∷ []
shows step s (r ∷ rs) = shown_of s ∷ shows step (step s r.a r.b) rs

-- an entry that waits
abbrev pub is_wait : Entry → Bool
is_wait (Set f v) = false
is_wait (Set2 f v g w) = false
is_wait (Set3 f v g w h x) = false
is_wait (Set4 f v g w h x k y) = false
is_wait (Wait f v) = true
is_wait (Wait2 f v g w) = true
is_wait (Check f v) = false
is_wait (Read f) = false

-- the same thing is shown each time
abbrev pub Always : Shown → List Shown → Type 0
Always y [] = Unit {0}
Always y (x ∷ xs) = (x ≡ y) × Always y xs

-- what was shown goes through the list: each entry in order, a wait any number of times; finished for good after the last; 24 for good after a
-- check
abbrev pub Through : List Entry → List Shown → Type 0
Through es [] = Unit {0}
Through [] (x ∷ xs) = (x ≡ Finished) × Always Finished xs
Through (e ∷ es) (x ∷ xs) = (x ≡ Next e) × (Through es xs ⊎ (((is_wait e ≡ true) × Through (e ∷ es) xs) ⊎ ((is_check e ≡ true) × Always (Stopped CsiDown) xs)))

-- the entry that is shown
abbrev pub entry_in : Stand → List Entry
entry_in (before []) = []
entry_in (before (e ∷ es)) = e ∷ []
entry_in (ended n) = []

-- the entries shown over the reads, repeats of a waiting entry counted once
abbrev pub once : Stand → List Pair → List Entry
once s [] = entry_in s
once (before []) (r ∷ rs) = []
once (before (e ∷ es)) (r ∷ rs) = cond (passes e r.a r.b) (e ∷ once (before es) rs) (cond (is_check e) (e ∷ []) (once (before (e ∷ es)) rs))
once (ended n) (r ∷ rs) = []

-- reads that pass each entry of a list in turn: as many as it has entries
abbrev pub Satisfy : List Entry → List Pair → Type 0
Satisfy [] [] = Unit {0}
Satisfy [] (r ∷ rs) = ⊥
Satisfy (e ∷ es) [] = ⊥
Satisfy (e ∷ es) (r ∷ rs) = (passes e r.a r.b ≡ true) × Satisfy es rs

-- over reads that pass each entry of a list in turn, the walk shows these entries in order, and then finished
abbrev pub ShowsAll : Stand → List Entry → Type 0
ShowsAll s es = (rs : List Pair) → Satisfy es rs → shows stepped_of s rs ≡ map Next es ++ (Finished ∷ [])

-- ---- the voltage walk
-- no value read shows a number
abbrev pub NoneShows : ℕ → List Pair → Type 0
NoneShows v [] = Unit {0}
NoneShows v (r ∷ rs) = (r.a ≡ v → ⊥) × NoneShows v rs

-- reads after which it can be finished, and no fewer will do: any number without ACTVOSRDY, one with it, the value of ACTVOS, and at least one for
-- each entry that this value leaves
pub record VoltageReads (target : ℕ) (rs : List Pair) : Type 0 where
  pub waiting : List Pair
  pub ready : Pair
  pub actvos : Pair
  pub rest : List Pair
  pub all : rs ≡ waiting ++ (ready ∷ (actvos ∷ rest))
  pub down : NoneShows 1 waiting
  pub up : ready.a ≡ 1
  pub enough : length (transition target actvos.a) ≤ length rest
