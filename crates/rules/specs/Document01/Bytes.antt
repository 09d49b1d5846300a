-- Document 01, One call, from the top, second paragraph: the byte form of a request. It is read from the front, part by part, and each
-- part takes its bytes; what does not fit is refusal 1. Codes: docs/CODES.md.
use Rattle.std.specs.Prelude.{Bool, true, false, cond, ◌&&◌, List, [], ◌∷◌, ◌++◌, ◌≡◌, ℕ, zero, suc, ◌+◌, ◌*◌, ◌/◌, ◌%◌, ◌<◌, eqb, ltb, get_or, length, is_none, Option, Some, None, Result, Ok, Err}
use Rattle.types.specs.declared.Refusal.{Refusal}
use Rattle.types.specs.declared.Strategy.{Strategy}
use Rattle.types.specs.declared.Strategy.TheVariants.{Integer, Fractional}
use Rattle.types.specs.declared.Mco1Source.{Mco1Source}
use Rattle.types.specs.declared.Mco2Source.{Mco2Source}
pub use Rattle.types.specs.Codes.{mco1_sources, mco2_sources}
use Rattle.types.specs.declared.PllRequest.{PllRequest}
use Rattle.types.specs.declared.Request.{Request}
use Rattle.types.specs.declared.Refusal.TheVariants.{OutsideCodes}
use Rattle.rules.specs.Document01.Result as Result
use Rattle.rules.specs.Document01.Request.{pll_at}
use Rattle.rules.specs.Document01.Mco.{mco1_code, mco2_code}

-- ---- reading
-- a value, and the bytes after it
pub record Read (A : Type 0) : Type 0 where
  pub value : A
  pub rest : List ℕ

-- a reader takes bytes from the front
abbrev pub Reader : Type 0 → Type 0
Reader A = List ℕ → Result (Read A) Refusal

infixl 15 ◌>>=◌
infixl 15 ◌>>◌
-- one part, then the next
abbrev pub ◌>>=◌ : {A B : Type 0} → Reader A → (A → Reader B) → Reader B
◌>>=◌ r k = λ bytes. Result.◌>>=◌ (r bytes) (λ x. k x.value x.rest)

-- one part, whose value is not used, then the next
abbrev pub ◌>>◌ : {A B : Type 0} → Reader A → Reader B → Reader B
◌>>◌ r s = λ bytes. Result.◌>>=◌ (r bytes) (λ x. s x.rest)

-- a value that takes no byte
abbrev pub return : {A : Type 0} → A → Reader A
return a = λ bytes. Ok (record { value = a; rest = bytes })

-- a test that holds, or refusal 1
abbrev pub fits : Bool → Reader (Unit {0})
fits true = return tt
fits false = λ bytes. Err OutsideCodes

-- one byte
unfoldable pub byte : Reader ℕ
byte [] = Err OutsideCodes
byte (b ∷ bytes) = Ok (record { value = b; rest = bytes })

-- the end: no byte is left
unfoldable pub end : Reader (Unit {0})
end [] = Ok (record { value = tt; rest = [] })
end (b ∷ bytes) = Err OutsideCodes

-- a byte that is one of the codes 0 to n − 1
unfoldable pub code : (n : ℕ) → Reader ℕ
code n = do
  b ← byte
  fits (ltb b n)
  return b

-- 4 bytes, little-endian
unfoldable pub u32le : Reader ℕ
u32le = do
  b0 ← byte
  b1 ← byte
  b2 ← byte
  b3 ← byte
  return (b0 + 256 * b1 + 65_536 * b2 + 16_777_216 * b3)

-- all 0 if unset
abbrev pub set_to : (set : ℕ) → (number : ℕ) → Reader (Option ℕ)
set_to zero number = do
  fits (eqb number 0)
  return None
set_to (suc set) number = return (Some number)

-- each hertz is a byte 0 or 1 (unset, set) and 4 bytes
unfoldable pub hertz : Reader (Option ℕ)
hertz = do
  set ← code 2
  number ← u32le
  set_to set number

-- flag, MCO source and strategy take a byte each
unfoldable pub flag : Reader Bool
flag = do
  c ← code 2
  return (eqb c 1)

-- MCO1 source
unfoldable pub mco1_source : Reader Mco1Source
mco1_source = do
  c ← code 5
  return (get_or mco1_sources c Mco1Source.Hsi)

-- MCO2 source
unfoldable pub mco2_source : Reader Mco2Source
mco2_source = do
  c ← code 6
  return (get_or mco2_sources c Mco2Source.Sysclk)

-- strategy: 0 Integer, 1 Fractional
unfoldable pub strategy : Reader Strategy
strategy = do
  c ← code 2
  return (cond (eqb c 0) Integer Fractional)

-- a PLL's part: a strategy with optional P, Q, R
unfoldable pub pll_part : Reader PllRequest
pll_part = do
  s ← strategy
  p ← hertz
  q ← hertz
  r ← hertz
  return (record { strategy = s; p = p; q = q; r = r })

-- the PLL3 part, which a three-PLL chip must have, and a two-PLL chip must not
abbrev pub no_part : PllRequest
no_part = record { strategy = Integer; p = None; q = None; r = None }

-- strategy 0
abbrev pub is_integer : Strategy → Bool
is_integer Integer = true
is_integer Fractional = false

-- a part that says nothing
abbrev pub is_no_part : PllRequest → Bool
is_no_part a = is_integer a.strategy && (is_none a.p && (is_none a.q && is_none a.r))

-- by the PLL count
abbrev pub third_part : (three : Bool) → Reader PllRequest
third_part true = pll_part
third_part false = return no_part

-- the whole request, in this order
unfoldable pub request_part : (three : Bool) → Reader Request
request_part three = do
  hse ← hertz
  lse ← hertz
  audio ← hertz
  system ← hertz
  peripheral ← hertz
  ahb ← hertz
  apb1 ← hertz
  apb2 ← hertz
  apb3 ← hertz
  bypass ← flag
  mco1source ← mco1_source
  mco1 ← hertz
  mco2source ← mco2_source
  mco2 ← hertz
  pll1 ← pll_part
  pll2 ← pll_part
  pll3 ← third_part three
  end
  return (record {
    hse = hse;
    lse = lse;
    audio = audio;
    system = system;
    peripheral = peripheral;
    ahb = ahb;
    apb1 = apb1;
    apb2 = apb2;
    apb3 = apb3;
    bypass = bypass;
    mco1source = mco1source;
    mco1 = mco1;
    mco2source = mco2source;
    mco2 = mco2;
    plls = pll1 ∷ pll2 ∷ pll3 ∷ [];
  })

-- ---- writing
abbrev pub u32le_bytes : ℕ → List ℕ
u32le_bytes h = h % 256 ∷ h / 256 % 256 ∷ h / 65_536 % 256 ∷ h / 16_777_216 % 256 ∷ []

-- a hertz
abbrev pub hertz_bytes : Option ℕ → List ℕ
hertz_bytes None = 0 ∷ 0 ∷ 0 ∷ 0 ∷ 0 ∷ []
hertz_bytes (Some h) = 1 ∷ u32le_bytes h

-- a flag
abbrev pub flag_byte : Bool → ℕ
flag_byte false = 0
flag_byte true = 1

-- a strategy
abbrev pub strategy_code : Strategy → ℕ
strategy_code Integer = 0
strategy_code Fractional = 1

-- a PLL's part
abbrev pub pll_bytes : PllRequest → List ℕ
pll_bytes a = strategy_code a.strategy ∷ (hertz_bytes a.p ++ (hertz_bytes a.q ++ hertz_bytes a.r))

-- the PLL3 part, on three PLLs
abbrev pub third_bytes : (three : Bool) → PllRequest → List ℕ
third_bytes true a = pll_bytes a
third_bytes false a = []

-- the bytes of a request, in the same order
unfoldable pub request_bytes : (three : Bool) → Request → List ℕ
request_bytes three q =
    hertz_bytes q.hse
    ++ (hertz_bytes q.lse
    ++ (hertz_bytes q.audio
    ++ (hertz_bytes q.system
    ++ (hertz_bytes q.peripheral
    ++ (hertz_bytes q.ahb
    ++ (hertz_bytes q.apb1
    ++ (hertz_bytes q.apb2
    ++ (hertz_bytes q.apb3
    ++ (flag_byte q.bypass ∷ mco1_code q.mco1source ∷ (hertz_bytes q.mco1
    ++ (mco2_code q.mco2source ∷ (hertz_bytes q.mco2
    ++ (pll_bytes (pll_at q 0)
    ++ (pll_bytes (pll_at q 1)
    ++ third_bytes three (pll_at q 2)))))))))))))))

-- their number: 90 on two PLLs, 106 on three
abbrev pub size_of : (three : Bool) → ℕ
size_of three = cond three 106 90

-- numbers that are bytes
abbrev pub AllBytes : List ℕ → Type 0
AllBytes [] = Unit {0}
AllBytes (b ∷ bytes) = (b < 256) × AllBytes bytes

-- ---- what can be written so that it is read again: hertz of 32 bits, three PLL parts, and nothing in the third on a two-PLL chip
abbrev pub Hertz32 : Option ℕ → Type 0
Hertz32 None = Unit {0}
Hertz32 (Some h) = h < 4_294_967_296

-- a PLL's part
pub record Pll32 (a : PllRequest) : Type 0 where
  pub p : Hertz32 a.p
  pub q : Hertz32 a.q
  pub r : Hertz32 a.r

-- the third part, by the PLL count
abbrev pub Third : (three : Bool) → PllRequest → Type 0
Third true a = Unit {0}
Third false a = a ≡ no_part

-- a request
pub record Writable (three : Bool) (q : Request) : Type 0 where
  pub hse : Hertz32 q.hse
  pub lse : Hertz32 q.lse
  pub audio : Hertz32 q.audio
  pub system : Hertz32 q.system
  pub peripheral : Hertz32 q.peripheral
  pub ahb : Hertz32 q.ahb
  pub apb1 : Hertz32 q.apb1
  pub apb2 : Hertz32 q.apb2
  pub apb3 : Hertz32 q.apb3
  pub mco1 : Hertz32 q.mco1
  pub mco2 : Hertz32 q.mco2
  pub three_parts : length q.plls ≡ 3
  pub pll1 : Pll32 (pll_at q 0)
  pub pll2 : Pll32 (pll_at q 1)
  pub pll3 : Pll32 (pll_at q 2)
  pub third : Third three (pll_at q 2)
