-- The small operations on optional hertz that the steps of document 01 share.
use Rattle.std.specs.Prelude.{ℕ, ◌+◌, ◌-◌, ◌/◌, Bool, true, not, eqb, Option, Some, None}

-- a ratio rounded up
unfoldable pub ratio_of : (clock wanted : ℕ) → ℕ
ratio_of clock wanted = (clock + (wanted - 1)) / wanted

-- unset, or above 0 Hz
abbrev pub not_zero : Option ℕ → Bool
not_zero None = true
not_zero (Some h) = not (eqb h 0)
