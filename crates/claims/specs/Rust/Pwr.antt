-- pwr.rs, with its names: the register operations of Pwr::freeze. The register crate is not at hand, so the codes of its VOS and ACTVOSR are
-- the manual's. VoltageScale is Scale here.
use Rattle.std.specs.Prelude.{Bool, true, false, not, [], ◌∷◌, ◌++◌, ℕ, zero, suc, eqb}
use Rattle.types.specs.declared.Entry.{Entry}
use Rattle.types.specs.declared.Entry.TheVariants.{Set, Wait}
use Rattle.types.specs.declared.Scale.{Scale}
use Rattle.types.specs.declared.Scale.TheVariants.{Scale0, Scale1, Scale2, Scale3}
use Rattle.rules.specs.Document01.Fields
use Rattle.claims.specs.Rust.Run.{Run, ends, ◌>>=◌, ◌>>◌, return, modify, poll}

-- enum VOS of the register crate, and ACTVOSR, which has the same names
pub data Code : Type 0 where
  Vos0 : Code
  Vos1 : Code
  Vos2 : Code
  Vos3 : Code

-- the manual's codes: VOS3 is 0, VOS0 is 3
abbrev pub bits : Code → ℕ
bits Vos3 = 0
bits Vos2 = 1
bits Vos1 = 2
bits Vos0 = 3

-- actvos().variant(): the field has two bits, so there is no code but these four
abbrev pub variant : ℕ → Code
variant zero = Vos3
variant (suc zero) = Vos2
variant (suc (suc zero)) = Vos1
variant (suc (suc (suc n))) = Vos0

-- impl From<VoltageScale> for VOS
abbrev pub into_vos : Scale → Code
into_vos Scale3 = Vos3
into_vos Scale2 = Vos2
into_vos Scale1 = Vos1
into_vos Scale0 = Vos0

-- impl From<ACTVOSR> for VoltageScale
abbrev pub from_actvos : Code → Scale
from_actvos Vos3 = Scale3
from_actvos Vos2 = Scale2
from_actvos Vos1 = Scale1
from_actvos Vos0 = Scale0

-- derive(PartialEq): by the variant's number
abbrev pub number : Scale → ℕ
number Scale0 = 0
number Scale1 = 1
number Scale2 = 2
number Scale3 = 3

-- a register is read: the operation, and the value that it gives
abbrev pub read : Entry → ℕ → Run ℕ
read e value = λ es. ends (es ++ (e ∷ [])) value

-- voltage_scaling_transition
unfoldable pub voltage_scaling_transition : (new-scale : Scale) → Run (Unit {0})
voltage_scaling_transition new-scale = do
  modify (Set Fields.VOS (bits (into_vos new-scale)))
  poll (Wait Fields.VOSRDY 1)

-- if current_scale != vos
abbrev pub if_unlike : Bool → Scale → Run (Unit {0})
if_unlike true vos = voltage_scaling_transition vos
if_unlike false vos = return tt

-- Pwr::freeze with its target_vos, where actvos is what is read for ACTVOS; it ends with PowerConfiguration's vos
unfoldable pub freeze : (target-vos : Scale) → (actvos : ℕ) → Run Scale
freeze target-vos actvos = do
  poll (Wait Fields.ACTVOSRDY 1)
  code ← read (Entry.Read Fields.ACTVOS) actvos
  if_unlike (not (eqb (number (from_actvos (variant code))) (number target-vos))) target-vos
  return target-vos
