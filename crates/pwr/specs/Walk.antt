-- The voltage walk as a record: where it stands by document 01, Register entries (Pwr::freeze), and where a step leads.
use Rattle.std.specs.Prelude.{cond, List, [], ◌∷◌, ℕ, eqb, ltb}
use Rattle.types.specs.declared.Entry.{Entry}
use Rattle.types.specs.declared.Entry.TheVariants.{Set, Wait}
use Rattle.types.specs.declared.Refusal.TheVariants.{OutsideCodes}
use Rattle.rules.specs.Document01.Fields
use Rattle.rules.specs.Document01.Walk.{Stand, before, ended, vos_code}
use Rattle.pwr.specs.declared.VoltageWalk.{VoltageWalk}

-- the entries that a walk at a place is before: the wait for ACTVOSRDY, the read of ACTVOS, VOS is set, the wait for VOSRDY, then none
unfoldable pub entries_from : (target at : ℕ) → List Entry
entries_from target at =
    cond (eqb at 0) (Wait Fields.ACTVOSRDY 1 ∷ Entry.Read Fields.ACTVOS ∷ [])
    (cond (eqb at 1) (Entry.Read Fields.ACTVOS ∷ [])
    (cond (eqb at 2) (Set Fields.VOS (vos_code target) ∷ Wait Fields.VOSRDY 1 ∷ [])
    (cond (eqb at 3) (Wait Fields.VOSRDY 1 ∷ [])
    [])))

-- where a walk stands; a target that is not 0 to 3 is refused with 1
unfoldable pub stand_of : VoltageWalk → Stand
stand_of w = cond (ltb w.target 4) (before (entries_from w.target w.at)) (ended OutsideCodes)

-- a fresh walk
abbrev pub fresh_walk : (target : ℕ) → VoltageWalk
fresh_walk target = record { target = target; at = 0 }

-- the place after a step that reads a: a wait is left at 1, and the target's code in ACTVOS ends the walk
unfoldable pub place_after : (target at a : ℕ) → ℕ
place_after target at a =
    cond (eqb at 0) (cond (eqb a 1) 1 0)
    (cond (eqb at 1) (cond (eqb a (vos_code target)) 4 2)
    (cond (eqb at 2) 3
    (cond (eqb at 3) (cond (eqb a 1) 4 3)
    at)))

-- a walk after a step: a refused one stays. No voltage entry has a second value, so b is not looked at
unfoldable pub stepped_walk : VoltageWalk → (a b : ℕ) → VoltageWalk
stepped_walk w a b = cond (ltb w.target 4) (record { target = w.target; at = place_after w.target w.at a }) w
