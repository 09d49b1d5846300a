-- Document 01, Who can cause which refusal: the number of each, the list of them, and which calls answer which.
use Rattle.std.specs.Prelude.{cond, List, [], ◌∷◌, map, ℕ, eqb, Option, Some, None, Result, Ok, Err}
use Rattle.types.specs.declared.Refusal.{Refusal}
use Rattle.types.specs.declared.Refusal.TheVariants.{OutsideCodes, BankLength, AboveLimit, McoHseUnstated, Pll1PUnlikeSystem, SourceZero, OutputZero, OutputsTooFarApart, OutputTooHigh, TargetOutside, NoM, NOutside, FracnOutside, PDividerAbove128, PDividerOdd, HsiOff, HsidivNot2, BusZero, AhbZero, Mco1Lse, McoNoOutput, McoZero, McoRatio, CsiDown}

-- document 01, Who can cause which refusal: the number of each
abbrev pub number_of : Refusal → ℕ
number_of OutsideCodes = 1
number_of BankLength = 2
number_of AboveLimit = 3
number_of McoHseUnstated = 4
number_of Pll1PUnlikeSystem = 5
number_of SourceZero = 6
number_of OutputZero = 7
number_of OutputsTooFarApart = 8
number_of OutputTooHigh = 9
number_of TargetOutside = 10
number_of NoM = 11
number_of NOutside = 12
number_of FracnOutside = 13
number_of PDividerAbove128 = 14
number_of PDividerOdd = 15
number_of HsiOff = 16
number_of HsidivNot2 = 17
number_of BusZero = 18
number_of AhbZero = 19
number_of Mco1Lse = 20
number_of McoNoOutput = 21
number_of McoZero = 22
number_of McoRatio = 23
number_of CsiDown = 24

-- document 01, Who can cause which refusal: all of them, in the order of their numbers
abbrev pub refusals : List Refusal
refusals =
    OutsideCodes ∷ BankLength ∷ AboveLimit ∷ McoHseUnstated ∷ Pll1PUnlikeSystem ∷ SourceZero ∷ OutputZero ∷ OutputsTooFarApart ∷ OutputTooHigh
    ∷ TargetOutside ∷ NoM ∷ NOutside ∷ FracnOutside ∷ PDividerAbove128 ∷ PDividerOdd ∷ HsiOff ∷ HsidivNot2 ∷ BusZero ∷ AhbZero ∷ Mco1Lse
    ∷ McoNoOutput ∷ McoZero ∷ McoRatio ∷ CsiDown ∷ []

-- the numbers in use: they rise, and a number that is none of them is a gap
abbrev pub numbers : List ℕ
numbers = map number_of refusals

-- the first of a list with a number, if there is one
abbrev pub first_with : ℕ → List Refusal → Option Refusal
first_with k [] = None
first_with k (m ∷ ms) = cond (eqb k (number_of m)) (Some m) (first_with k ms)

-- the refusal with a number, if there is one
abbrev pub refusal_of : ℕ → Option Refusal
refusal_of k = first_with k refusals

-- ---- document 01, Who can cause which refusal: what each call answers
-- what a typed request can be refused with
abbrev pub typed_numbers : List ℕ
typed_numbers = 3 ∷ 4 ∷ 5 ∷ 6 ∷ 7 ∷ 8 ∷ 9 ∷ 10 ∷ 11 ∷ 13 ∷ 14 ∷ 15 ∷ 16 ∷ 17 ∷ 18 ∷ 19 ∷ 20 ∷ 21 ∷ 22 ∷ 23 ∷ []

-- the planner's call: 1 too
abbrev pub plan_numbers : List ℕ
plan_numbers = 1 ∷ typed_numbers

-- the bank call: 1 and 2 too
abbrev pub bank_numbers : List ℕ
bank_numbers = 1 ∷ 2 ∷ typed_numbers

-- a walk, where it stops
abbrev pub walk_numbers : List ℕ
walk_numbers = 24 ∷ []

-- these are the calls
abbrev pub call_numbers : List (List ℕ)
call_numbers = plan_numbers ∷ bank_numbers ∷ walk_numbers ∷ []

-- listed by document 01, and answered by no call: fits no request
abbrev pub no_numbers : List ℕ
no_numbers = 12 ∷ []

-- what a C function returns of a step: 0, or the refusal's number
abbrev pub code_of : {A : Type 0} → Result A Refusal → ℕ
code_of (Ok a) = 0
code_of (Err n) = number_of n
