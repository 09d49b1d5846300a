-- For the private functions: a bus by a table of divisors.
use Rattle.std.specs.Prelude.{◌≡◌, true, false, ℕ, ◌/◌, Option, Result, Ok, Err, unwrap_or}
use Rattle.types.specs.declared.Bus.{Bus}
use Rattle.types.specs.declared.Refusal.{Refusal}
use Rattle.types.specs.declared.Refusal.TheVariants.{BusZero}
use Rattle.rules.specs.Document01.Hertz.{ratio_of, not_zero}

-- steps 6 and 7: refusal 18, or a clock divided by what a call gives for its ratio. Unset means the clock
abbrev pub BusBy : (call : ℕ → ℕ → Type 0) → (clock : ℕ) → Option ℕ → Result Bus Refusal → Type 0
BusBy call clock h (Err e) = (not_zero h ≡ false) × (e ≡ BusZero)
BusBy call clock h (Ok b) = (not_zero h ≡ true) × call (ratio_of clock (unwrap_or h clock)) b.pre × (b.clock ≡ clock / b.pre)
