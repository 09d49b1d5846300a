-- Document 01, Register entries: the walk over a list, one step at a time, with refusal 24; and Pwr::freeze, a walk too.
use Rattle.std.specs.Prelude.{Bool, true, false, cond, ◌&&◌, List, [], ◌∷◌, ℕ, ◌-◌, eqb, ltb, Result, Ok, Err}
use Rattle.types.specs.declared.Entry.{Entry}
use Rattle.types.specs.declared.Entry.TheVariants.{Set, Set2, Set3, Set4, Wait, Wait2, Check, Read}
use Rattle.types.specs.declared.Refusal.{Refusal}
use Rattle.types.specs.declared.Refusal.TheVariants.{OutsideCodes, CsiDown}
use Rattle.types.specs.declared.Plan.{Plan}
use Rattle.types.specs.declared.Shown.{Shown}
use Rattle.types.specs.declared.Shown.TheVariants.{Next, Finished, Stopped}
use Rattle.rules.specs.Document01.Fields
use Rattle.rules.specs.Document01.Entries.{plan_entries}

-- where a walk stands: before these entries, or ended by a refusal
pub data Stand : Type 0 where
  before : List Entry → Stand
  ended : Refusal → Stand

-- a fresh record shows the first entry before any step; that of a refused request shows the refusal
abbrev pub fresh_of : Result Plan Refusal → Stand
fresh_of (Ok p) = before (plan_entries p)
fresh_of (Err n) = ended n

-- what a walk shows: the next entry, finished, or the refusal
abbrev pub shown_of : Stand → Shown
shown_of (before []) = Finished
shown_of (before (e ∷ es)) = Next e
shown_of (ended n) = Stopped n

-- the values read let a step pass an entry: a wait when all its values show, a check when its value does, a set and a read always
abbrev pub passes : Entry → (a b : ℕ) → Bool
passes (Set f v) a b = true
passes (Set2 f v g w) a b = true
passes (Set3 f v g w h x) a b = true
passes (Set4 f v g w h x k y) a b = true
passes (Wait f v) a b = eqb a v
passes (Wait2 f v g w) a b = eqb a v && eqb b w
passes (Check f v) a b = eqb a v
passes (Read f) a b = true

-- a check
abbrev pub is_check : Entry → Bool
is_check (Set f v) = false
is_check (Set2 f v g w) = false
is_check (Set3 f v g w h x) = false
is_check (Set4 f v g w h x k y) = false
is_check (Wait f v) = false
is_check (Wait2 f v g w) = false
is_check (Check f v) = true
is_check (Read f) = false

-- what an entry that is not passed leaves: a check ends the walk with 24, a wait is shown again
abbrev pub held : Entry → List Entry → Stand
held e es = cond (is_check e) (ended CsiDown) (before (e ∷ es))

-- a step takes the values read. What is left after an entry is passed may depend on the value read. After finished or a refusal a step changes
-- nothing
abbrev pub stepped_by : (left : Entry → ℕ → List Entry → List Entry) → Stand → (a b : ℕ) → Stand
stepped_by left (before []) a b = before []
stepped_by left (before (e ∷ es)) a b = cond (passes e a b) (before (left e a es)) (held e es)
stepped_by left (ended n) a b = ended n

-- the walk over a plan's list: the rest of the list is left
abbrev pub stepped_of : Stand → (a b : ℕ) → Stand
stepped_of = stepped_by (λ e a es. es)

-- ---- Pwr::freeze: wait ACTVOSRDY, read ACTVOS, if not the target set VOS and wait VOSRDY
-- VOS and ACTVOS hold the manual's code: 3 less the scale's number
abbrev pub vos_code : (scale : ℕ) → ℕ
vos_code scale = 3 - scale

-- a fresh voltage walk
abbrev pub voltage_fresh : Stand
voltage_fresh = before (Wait Fields.ACTVOSRDY 1 ∷ Read Fields.ACTVOS ∷ [])

-- a fresh voltage walk to a target; a scale that is not 0 to 3 is refused with 1
abbrev pub voltage_to : (target : ℕ) → Stand
voltage_to target = cond (ltb target 4) voltage_fresh (ended OutsideCodes)

-- if not the target, set VOS and wait VOSRDY
abbrev pub transition : (target read : ℕ) → List Entry
transition target read = cond (eqb read (vos_code target)) [] (Set Fields.VOS (vos_code target) ∷ Wait Fields.VOSRDY 1 ∷ [])

-- the value read for ACTVOS decides what is left
abbrev pub read_after : (target : ℕ) → Entry → (read : ℕ) → List Entry → List Entry
read_after target (Set f v) read es = es
read_after target (Set2 f v g w) read es = es
read_after target (Set3 f v g w h x) read es = es
read_after target (Set4 f v g w h x k y) read es = es
read_after target (Wait f v) read es = es
read_after target (Wait2 f v g w) read es = es
read_after target (Check f v) read es = es
read_after target (Read f) read es = transition target read

-- a step of the voltage walk
abbrev pub voltage_stepped : (target : ℕ) → Stand → (a b : ℕ) → Stand
voltage_stepped target = stepped_by (read_after target)
