-- The bank as document 01 and docs/CODES.md state it, in numbers: where the fields stand, what a bank at reset values holds, and what applying
-- one entry does.
use mathlib.Core.Path.{◌≡◌, refl}
use mathlib.Core.List.{List, [], ◌∷◌, ◌++◌, map}
use Prim.Native.Nat.{ℕ, zero, suc}
use Rattle.types.specs.declared.Entry.{Entry}
use Rattle.types.specs.declared.Entry.TheVariants.{Set, Set2, Set3, Set4, Wait, Wait2, Check, Read}
use Rattle.rules.specs.Document01.Fields
use Rattle.rules.specs.Document01.Fields.{of_pll}
use Rattle.rules.specs.Document01.Bank.{apply_one, apply_all, reset_bank}
use Rattle.rules.specs.Stated.Applied.{Value, ◌is◌, last_of, Applied}
use Rattle.rules.proofs.Document01.Last.{at_one, length_one}

-- n numbers, from a place on
abbrev pub counted : (n from : ℕ) → List ℕ
counted zero from = []
counted (suc n) from = from ∷ counted n (suc from)

-- ---- 15 fields per PLL, then the other 37
pub pll_fields :
    Fields.VCOSEL ∷ Fields.RGE ∷ Fields.M ∷ Fields.N ∷ Fields.FRACN ∷ Fields.FRACEN ∷ Fields.P ∷ Fields.PEN ∷ Fields.Q ∷ Fields.QEN ∷ Fields.R
    ∷ Fields.REN ∷ Fields.SRC ∷ Fields.ON ∷ Fields.RDY ∷ []
    ≡ counted 15 0
pll_fields = refl

pub of_each_pll : map (of_pll 0) (counted 15 0) ++ (map (of_pll 1) (counted 15 0) ++ map (of_pll 2) (counted 15 0)) ≡ counted 45 0
of_each_pll = refl

pub other_fields :
    Fields.LSION ∷ Fields.LSIRDY ∷ Fields.WRHIGHFREQ ∷ Fields.LATENCY ∷ Fields.PRFTEN ∷ Fields.CSION ∷ Fields.CSIRDY ∷ Fields.HSI48ON
    ∷ Fields.HSI48RDY ∷ Fields.MCO1SEL ∷ Fields.MCO1PRE ∷ Fields.MCO2SEL ∷ Fields.MCO2PRE ∷ Fields.HSEON ∷ Fields.HSEBYP ∷ Fields.HSERDY
    ∷ Fields.HPRE ∷ Fields.PPRE1 ∷ Fields.PPRE2 ∷ Fields.PPRE3 ∷ Fields.CKPERSEL ∷ Fields.TIMPRE ∷ Fields.SW ∷ Fields.SWS ∷ Fields.SBSEN
    ∷ Fields.EN1 ∷ Fields.CS1 ∷ Fields.EN2 ∷ Fields.CS2 ∷ Fields.RDY1 ∷ Fields.RDY2 ∷ Fields.HSION ∷ Fields.HSIDIV ∷ Fields.VOS
    ∷ Fields.ACTVOS ∷ Fields.ACTVOSRDY ∷ Fields.VOSRDY ∷ []
    ≡ counted 37 45
other_fields = refl

-- ---- a bank at reset values: HSION 1, HSIDIV 2, HPRE and each PPRE 1, the rest 0
abbrev reset_values : List Value
reset_values = Fields.HSION is 1 ∷ Fields.HSIDIV is 2 ∷ Fields.HPRE is 1 ∷ Fields.PPRE1 is 1 ∷ Fields.PPRE2 is 1 ∷ Fields.PPRE3 is 1 ∷ []

pub at_reset : reset_bank ≡ map (λ f. last_of reset_values f 0) (counted 82 0)
unfolding reset_bank
at_reset = refl

-- ---- applying one entry, for every entry and bank
pub one_applied : (e : Entry) (b : List ℕ) → Applied e b (apply_one e b)
one_applied (Set g v) b = record { words = length_one (Set g v) b; each = at_one (Set g v) b }
one_applied (Set2 g v k w) b = record { words = length_one (Set2 g v k w) b; each = at_one (Set2 g v k w) b }
one_applied (Set3 g v k w l x) b = record { words = length_one (Set3 g v k w l x) b; each = at_one (Set3 g v k w l x) b }
one_applied (Set4 g v k w l x m y) b = record { words = length_one (Set4 g v k w l x m y) b; each = at_one (Set4 g v k w l x m y) b }
one_applied (Wait g v) b = record { words = refl; each = λ f h. refl }
one_applied (Wait2 g v k w) b = record { words = refl; each = λ f h. refl }
one_applied (Check g v) b = record { words = refl; each = λ f h. refl }
one_applied (Read g) b = record { words = refl; each = λ f h. refl }

-- computed, one of each kind on five words; the last value stands where a field is named twice, and a field past the end is none
abbrev on_five : Entry → List ℕ
on_five e = apply_one e (10 ∷ 11 ∷ 12 ∷ 13 ∷ 14 ∷ [])

pub each_kind : map on_five (Set 1 7 ∷ Set2 0 7 3 8 ∷ Set3 4 7 2 8 0 9 ∷ Set4 3 6 1 7 0 8 4 9 ∷ Set4 2 6 2 7 0 8 2 9 ∷ Set 5 7 ∷ Wait 1 7 ∷ Wait2 1 7 2 8 ∷ Check 1 7 ∷ Read 1 ∷ [])
    ≡ (10 ∷ 7 ∷ 12 ∷ 13 ∷ 14 ∷ []) ∷ (7 ∷ 11 ∷ 12 ∷ 8 ∷ 14 ∷ []) ∷ (9 ∷ 11 ∷ 8 ∷ 13 ∷ 7 ∷ []) ∷ (8 ∷ 7 ∷ 12 ∷ 6 ∷ 9 ∷ []) ∷ (8 ∷ 11 ∷ 9 ∷ 13 ∷ 14 ∷ [])
    ∷ (10 ∷ 11 ∷ 12 ∷ 13 ∷ 14 ∷ []) ∷ (10 ∷ 11 ∷ 12 ∷ 13 ∷ 14 ∷ []) ∷ (10 ∷ 11 ∷ 12 ∷ 13 ∷ 14 ∷ []) ∷ (10 ∷ 11 ∷ 12 ∷ 13 ∷ 14 ∷ []) ∷ (10 ∷ 11 ∷ 12 ∷ 13 ∷ 14 ∷ []) ∷ []
each_kind = refl

-- a list, in order: the last value set stands
pub in_turn : apply_all (Set 1 7 ∷ Check 2 9 ∷ Set 1 8 ∷ Set2 0 1 2 3 ∷ []) (10 ∷ 11 ∷ 12 ∷ []) ≡ 1 ∷ 8 ∷ 3 ∷ []
in_turn = refl
