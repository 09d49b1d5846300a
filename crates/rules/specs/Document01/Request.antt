-- Document 01, One call, steps 1 to 3: the limits, what an MCO fills, the source and the system clock.
use Rattle.std.specs.Prelude.{ℕ, zero, suc, Bool, true, false, not, cond, ◌&&◌, ◌||◌, leb, eqb, get_or, Option, Some, None, Result, unwrap_or, is_some}
use Rattle.std.specs.Option.{option_or}
use Rattle.types.specs.declared.Refusal.{Refusal}
use Rattle.types.specs.declared.Strategy.TheVariants.{Integer}
use Rattle.types.specs.declared.Mco1Source.{Mco1Source}
use Rattle.types.specs.declared.Mco2Source.{Mco2Source}
use Rattle.types.specs.declared.PllRequest.{PllRequest}
use Rattle.types.specs.declared.Request.{Request}
use Rattle.types.specs.declared.Refusal.TheVariants.{AboveLimit, McoHseUnstated, Pll1PUnlikeSystem, SourceZero}
use Rattle.rules.specs.Document01.Result.{◌>>◌, require}

-- PLL k's part of the request, from 0
abbrev pub pll_at : Request → ℕ → PllRequest
pll_at q k = get_or q.plls k (record { strategy = Integer; p = None; q = None; r = None })

-- step 1: a clock that is requested is at most 250,000,000
abbrev pub within : Option ℕ → Bool
within None = true
within (Some h) = leb h 250_000_000

-- refusal 3
abbrev pub limited : Request → Result (Unit {0}) Refusal
limited q = require (within q.system && (within q.ahb && (within q.apb1 && (within q.apb2 && within q.apb3)))) AboveLimit

-- MCO1 from HSE
abbrev pub from_hse1 : Mco1Source → Bool
from_hse1 Mco1Source.Hsi = false
from_hse1 Mco1Source.Lse = false
from_hse1 Mco1Source.Hse = true
from_hse1 Mco1Source.Pll1Q = false
from_hse1 Mco1Source.Hsi48 = false

-- MCO2 from HSE
abbrev pub from_hse2 : Mco2Source → Bool
from_hse2 Mco2Source.Sysclk = false
from_hse2 Mco2Source.Pll2P = false
from_hse2 Mco2Source.Hse = true
from_hse2 Mco2Source.Pll1P = false
from_hse2 Mco2Source.Csi = false
from_hse2 Mco2Source.Lsi = false

-- refusal 4: MCO from HSE, none stated
abbrev pub stated : Request → Result (Unit {0}) Refusal
stated q = require (is_some q.hse || not (from_hse1 q.mco1source || from_hse2 q.mco2source)) McoHseUnstated

-- step 2: the MCO's hertz, where the clock named is its source
abbrev pub for_pll1_q : Mco1Source → Option ℕ → Option ℕ
for_pll1_q Mco1Source.Hsi h = None
for_pll1_q Mco1Source.Lse h = None
for_pll1_q Mco1Source.Hse h = None
for_pll1_q Mco1Source.Pll1Q h = h
for_pll1_q Mco1Source.Hsi48 h = None

-- for the system clock
abbrev pub for_system : Mco2Source → Option ℕ → Option ℕ
for_system Mco2Source.Sysclk h = h
for_system Mco2Source.Pll2P h = None
for_system Mco2Source.Hse h = None
for_system Mco2Source.Pll1P h = None
for_system Mco2Source.Csi h = None
for_system Mco2Source.Lsi h = None

-- for PLL2 P
abbrev pub for_pll2_p : Mco2Source → Option ℕ → Option ℕ
for_pll2_p Mco2Source.Sysclk h = None
for_pll2_p Mco2Source.Pll2P h = h
for_pll2_p Mco2Source.Hse h = None
for_pll2_p Mco2Source.Pll1P h = None
for_pll2_p Mco2Source.Csi h = None
for_pll2_p Mco2Source.Lsi h = None

-- for PLL1 P
abbrev pub for_pll1_p : Mco2Source → Option ℕ → Option ℕ
for_pll1_p Mco2Source.Sysclk h = None
for_pll1_p Mco2Source.Pll2P h = None
for_pll1_p Mco2Source.Hse h = None
for_pll1_p Mco2Source.Pll1P h = h
for_pll1_p Mco2Source.Csi h = None
for_pll1_p Mco2Source.Lsi h = None

-- step 2: each clock as requested, filled where unset
abbrev pub system_asked : Request → Option ℕ
system_asked q = option_or q.system (for_system q.mco2source q.mco2)

-- PLL1, its P and Q filled
abbrev pub pll1_asked : Request → PllRequest
pll1_asked q = record {
  strategy = (pll_at q 0).strategy;
  p = option_or (pll_at q 0).p (for_pll1_p q.mco2source q.mco2);
  q = option_or (pll_at q 0).q (for_pll1_q q.mco1source q.mco1);
  r = (pll_at q 0).r;
}

-- PLL2, its P filled
abbrev pub pll2_asked : Request → PllRequest
pll2_asked q = record {
  strategy = (pll_at q 1).strategy;
  p = option_or (pll_at q 1).p (for_pll2_p q.mco2source q.mco2);
  q = (pll_at q 1).q;
  r = (pll_at q 1).r;
}

-- step 3: the source is HSE, else HSI at 32,000,000
abbrev pub source_of : Request → ℕ
source_of q = unwrap_or q.hse 32_000_000

-- step 3: the system clock that is wanted; unset it is the source
abbrev pub system_of : Request → ℕ
system_of q = unwrap_or (system_asked q) (source_of q)

-- step 3: a system clock unlike the source needs PLL1 P
abbrev pub needs_pll1 : Request → Bool
needs_pll1 q = not (eqb (system_of q) (source_of q))

-- refusal 5 is a P that is set and unlike the system clock that needs it
abbrev pub like : Option ℕ → ℕ → Bool
like None s = true
like (Some p) s = eqb p s

-- step 3: PLL1 P takes the system clock's hertz
abbrev pub with_p : PllRequest → ℕ → PllRequest
with_p a s = record { strategy = a.strategy; p = Some s; q = a.q; r = a.r }

-- what PLL k, from 0, is asked for after steps 2 and 3
abbrev pub asked_of : Request → (k : ℕ) → PllRequest
asked_of q zero = cond (needs_pll1 q) (with_p (pll1_asked q) (system_of q)) (pll1_asked q)
asked_of q (suc zero) = pll2_asked q
asked_of q (suc (suc k)) = pll_at q 2

-- refusal 5: a system clock that needs PLL1 P, and a P unlike it
abbrev pub system_fits : Request → Result (Unit {0}) Refusal
system_fits q = require (not (needs_pll1 q) || like (pll1_asked q).p (system_of q)) Pll1PUnlikeSystem

-- refusal 6
abbrev pub sourced : Request → Result (Unit {0}) Refusal
sourced q = require (not (eqb (source_of q) 0)) SourceZero

-- steps 1 to 3, with refusals 3 to 6
unfoldable pub configured : Request → Result (Unit {0}) Refusal
configured q = do
  limited q
  stated q
  system_fits q
  sourced q
