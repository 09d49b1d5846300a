-- The order of a plan's list, by the field numbers of docs/CODES.md: for each entry its kind (1 set, 2 wait, 3 check) and its fields. Document 01,
-- Register entries. Segment by segment for every plan, and once for a whole list.
use Rattle.std.specs.Prelude.{Some, None}
use mathlib.Core.Path.{◌≡◌, refl}
use mathlib.Core.Bool.{Bool, true, false}
use mathlib.Core.List.{List, [], ◌∷◌, ◌++◌, map}
use Prim.Native.Nat.{ℕ}
use Rattle.types.specs.declared.Entry.{Entry}
use Rattle.types.specs.declared.Entry.TheVariants.{Set, Set2, Set3, Set4, Wait, Wait2, Check, Read}
use Rattle.types.specs.declared.PllSettings.{PllSettings}
use Rattle.types.specs.declared.Waits.{Waits}
use Rattle.types.specs.declared.Selectors.{Selectors}
use Rattle.types.specs.declared.Buses.{Buses}
use Rattle.types.specs.declared.Mcos.{Mcos}
use Rattle.rules.specs.Document01.Plan.{chosen_plan}
use Rattle.rules.specs.Document01.Entries.{base_entries, fraction_entries, output_entries, clock_entries, hse_entries, source_entries, output_start, bus_entries, entries_of, fewest, most}
use Rattle.rules.specs.Words.{list_length}
use Rattle.rules.proofs.Computes.{by_bank}
use Rattle.rules.proofs.Samples.{fullest, state3}

abbrev told : Entry → List ℕ
told (Set f v) = 1 ∷ f ∷ []
told (Set2 f v g w) = 1 ∷ f ∷ g ∷ []
told (Set3 f v g w h x) = 1 ∷ f ∷ g ∷ h ∷ []
told (Set4 f v g w h x k y) = 1 ∷ f ∷ g ∷ h ∷ k ∷ []
told (Wait f v) = 2 ∷ f ∷ []
told (Wait2 f v g w) = 2 ∷ f ∷ g ∷ []
told (Check f v) = 3 ∷ f ∷ []
told (Read f) = 4 ∷ f ∷ []

abbrev order : List Entry → List (List ℕ)
order = map told

-- fields set one by one
abbrev sets : List ℕ → List (List ℕ)
sets = map (λ f. 1 ∷ f ∷ [])

-- PLL2: VCOSEL, RGE, M, N; FRACN, FRACEN, FRACEN; P and its enable, Q and its enable, or the disable alone
pub base_order : (s : PllSettings) → order (base_entries 1 s) ≡ sets (15 ∷ 16 ∷ 17 ∷ 18 ∷ [])
base_order s = refl

pub fraction_order : (f : ℕ) → order (fraction_entries 1 (Some f)) ≡ sets (19 ∷ 20 ∷ 20 ∷ [])
fraction_order f = refl

pub output_order : (d h : ℕ) → order (output_entries 21 22 (Some (record { divider = d; clock = h })) ++ output_entries 23 24 None) ≡ sets (21 ∷ 22 ∷ 24 ∷ [])
output_order d h = refl

-- LSION, LSIRDY; WRHIGHFREQ with LATENCY and PRFTEN, LATENCY; CSION, CSIRDY; HSI48ON, HSI48RDY; both MCOs
abbrev clocks : List (List ℕ)
clocks =
    (1 ∷ 45 ∷ []) ∷ (2 ∷ 46 ∷ []) ∷ (1 ∷ 47 ∷ 48 ∷ 49 ∷ []) ∷ (2 ∷ 48 ∷ []) ∷ (1 ∷ 50 ∷ []) ∷ (2 ∷ 51 ∷ []) ∷ (1 ∷ 52 ∷ []) ∷ (2 ∷ 53 ∷ [])
    ∷ (1 ∷ 54 ∷ 55 ∷ 56 ∷ 57 ∷ []) ∷ []

pub clock_order : (w : Waits) (s : Selectors) (m : Mcos) → order (clock_entries w s m) ≡ clocks
unfolding clock_entries
clock_order w s m = refl

-- with HSE: HSEON with HSEBYP, HSERDY
abbrev hse : List (List ℕ)
hse = (1 ∷ 58 ∷ 59 ∷ []) ∷ (2 ∷ 60 ∷ []) ∷ []

pub hse_order : (h : ℕ) (bypass : Bool) → order (hse_entries None bypass ++ hse_entries (Some h) bypass) ≡ hse
hse_order h bypass = refl

-- each PLL's SRC, of three and of two; ON and RDY of PLL3
pub source_order : (src : ℕ) → order (source_entries true src ++ source_entries false src) ≡ sets (12 ∷ 27 ∷ 42 ∷ 12 ∷ 27 ∷ [])
source_order src = refl

pub start_order : (d h : ℕ) → order (output_start 2 None ++ output_start 2 (Some (record { divider = d; clock = h }))) ≡ (1 ∷ 43 ∷ []) ∷ (2 ∷ 44 ∷ []) ∷ []
start_order d h = refl

-- HPRE with PPRE1 to PPRE3, HPRE; CKPERSEL; TIMPRE; SW, SWS; check CSIRDY; SBSEN; EN1, CS1, EN2, CS2; RDY1 with RDY2
abbrev buses : List (List ℕ)
buses =
    (1 ∷ 61 ∷ 62 ∷ 63 ∷ 64 ∷ []) ∷ (2 ∷ 61 ∷ []) ∷ (1 ∷ 65 ∷ []) ∷ (1 ∷ 66 ∷ []) ∷ (1 ∷ 67 ∷ []) ∷ (2 ∷ 68 ∷ []) ∷ (3 ∷ 51 ∷ []) ∷ (1 ∷ 69 ∷ [])
    ∷ (1 ∷ 70 ∷ 71 ∷ 72 ∷ 73 ∷ []) ∷ (2 ∷ 74 ∷ 75 ∷ []) ∷ []

pub bus_order : (b : Buses) (s : Selectors) → order (bus_entries b s) ≡ buses
unfolding bus_entries
bus_order b s = refl

-- HSE and three PLLs in Integer strategy, with every output but PLL3 R: the PLLs' settings, clocks, HSE, the PLLs' source, their starts, the buses
pub whole_order : order (entries_of (chosen_plan (fullest None None None) (state3 true true true)))
    ≡ sets (0 ∷ 1 ∷ 2 ∷ 3 ∷ 6 ∷ 7 ∷ 8 ∷ 9 ∷ 10 ∷ 11 ∷ []) ++ (sets (15 ∷ 16 ∷ 17 ∷ 18 ∷ 21 ∷ 22 ∷ 23 ∷ 24 ∷ 25 ∷ 26 ∷ [])
    ++ (sets (30 ∷ 31 ∷ 32 ∷ 33 ∷ 36 ∷ 37 ∷ 38 ∷ 39 ∷ 41 ∷ [])
    ++ (clocks ++ (hse ++ (sets (12 ∷ 27 ∷ 42 ∷ [])
    ++ ((1 ∷ 13 ∷ []) ∷ (2 ∷ 14 ∷ []) ∷ (1 ∷ 28 ∷ []) ∷ (2 ∷ 29 ∷ []) ∷ (1 ∷ 43 ∷ []) ∷ (2 ∷ 44 ∷ []) ∷ buses))))))
unfolding by_bank
whole_order = refl

-- "A list has at most 69"; docs/CODES.md: 622 words for the count and nine for each. The shortest has the 9, the 2 and the 10 of a request for nothing
pub list_bounds : fewest ∷ most ∷ list_length ∷ [] ≡ 21 ∷ 69 ∷ 622 ∷ []
list_bounds = refl
