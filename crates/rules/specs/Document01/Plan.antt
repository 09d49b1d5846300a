-- Document 01, One call, from the top: from a request and the chip to one complete plan or one refusal, in the order of the numbers.
use Rattle.types.specs.declared.Asked.{Asked}
use Rattle.std.specs.Prelude.{ℕ, List, [], ◌∷◌, Bool, true, false, cond, ◌||◌, eqb, Option, Some, None, Result, Ok, unwrap_or}
use Rattle.types.specs.declared.Refusal.{Refusal}
use Rattle.types.specs.declared.PllSettings.{PllSettings}
use Rattle.types.specs.declared.Request.{Request}
use Rattle.types.specs.declared.Chip.{Chip}
use Rattle.types.specs.declared.ChipState.{ChipState}
use Rattle.types.specs.declared.Refusal.TheVariants.{OutsideCodes, BankLength, HsiOff, HsidivNot2}
use Rattle.types.specs.declared.Buses.{Buses}
use Rattle.types.specs.declared.Mcos.{Mcos}
use Rattle.types.specs.declared.Clocks.{Clocks}
use Rattle.types.specs.declared.Selectors.{Selectors}
use Rattle.types.specs.declared.Plan.{Plan}
use Rattle.rules.specs.Document01.Result.{◌>>=◌, ◌>>◌, require}
use Rattle.rules.specs.Document01.Chip.{chip_of, divisor_of, odd_at, has_pll}
use Rattle.rules.specs.Document01.Bytes.{request_part, is_no_part}
use Rattle.rules.specs.Document01.Request.{pll_at, configured, source_of, needs_pll1, asked_of}
use Rattle.rules.specs.Document01.OnePll.{pll_of, pll_from, p_clock, q_clock}
use Rattle.rules.specs.Document01.Buses.{peripheral_of, ahb_of, apb_of, timer_of}
use Rattle.rules.specs.Document01.Mco.{mco1_input, mco2_input, mco_of, mco1_code, mco2_code}
use Rattle.rules.specs.Document01.Flash.{flash_of}

-- step 4: PLL k, from 0, where the chip has it
abbrev pub planned_at : Request → ChipState → (k : ℕ) → Result (Option PllSettings) Refusal
planned_at q c k = cond (has_pll c k) (pll_of (odd_at c k) (source_of q) (asked_of q k)) (Ok None)

-- the PLLs by their number
abbrev pub by_number : (pll1 pll2 pll3 : Option PllSettings) → List (Option PllSettings)
by_number pll1 pll2 pll3 = pll1 ∷ pll2 ∷ pll3 ∷ []

-- steps 1 to 4, with refusals 3 to 15: PLLs in order
unfoldable pub plls_of : Request → ChipState → Result (List (Option PllSettings)) Refusal
plls_of q c = do
  configured q
  pll1 ← planned_at q c 0
  pll2 ← planned_at q c 1
  pll3 ← planned_at q c 2
  Ok (by_number pll1 pll2 pll3)

-- refusals 16 and 17
abbrev pub hsi_ready : ChipState → Result (Unit {0}) Refusal
hsi_ready c = do
  require c.hsion HsiOff
  require (eqb (divisor_of c.hsidiv) 2) HsidivNot2

-- step 3: PLL1 P as reported is the system clock where it is needed, else the source is
abbrev pub system_from : Request → List (Option PllSettings) → ℕ
system_from q l = cond (needs_pll1 q) (unwrap_or (p_clock (pll_from l 0)) 0) (source_of q)

-- steps 6 and 7, with refusals 18 and 19
unfoldable pub buses_of : Request → (system : ℕ) → Result Buses Refusal
buses_of q system = do
  ahb ← ahb_of system q.ahb
  apb1 ← apb_of ahb.clock q.apb1
  apb2 ← apb_of ahb.clock q.apb2
  apb3 ← apb_of ahb.clock q.apb3
  Ok (record { ahb = ahb; apb1 = apb1; apb2 = apb2; apb3 = apb3 })

-- step 8: MCO1 runs 20 to 23, then MCO2
unfoldable pub mcos_of : Request → List (Option PllSettings) → (system : ℕ) → Result Mcos Refusal
mcos_of q l system = do
  input1 ← mco1_input q.mco1source q.hse (q_clock (pll_from l 0))
  mco1 ← mco_of input1 q.mco1
  input2 ← mco2_input q.mco2source system q.hse (p_clock (pll_from l 0)) (p_clock (pll_from l 1))
  mco2 ← mco_of input2 q.mco2
  Ok (record { mco1 = mco1; mco2 = mco2 })

-- SRC: 3 HSE, 1 HSI. SW: 3 PLL1, 2 HSE, 0 HSI
abbrev pub src_of : Option ℕ → ℕ
src_of None = 1
src_of (Some h) = 3

-- SW, by whether PLL1 P is the system clock
abbrev pub sw_of : (needed : Bool) → Option ℕ → ℕ
sw_of true hse = 3
sw_of false None = 0
sw_of false (Some h) = 2

-- the clocks reported beside those of the buses, the clock outputs and the PLLs
abbrev pub clocks_with : Request → (system : ℕ) → Buses → Clocks
clocks_with q system b = record {
  sys = system;
  timx = timer_of b.ahb.clock b.apb1.pre;
  timy = timer_of b.ahb.clock b.apb2.pre;
  per = (peripheral_of q.peripheral q.hse).clock;
  hsi = 32_000_000;
  csi = 4_000_000;
  hsi48 = 48_000_000;
  lsi = 32_000;
  hse = q.hse;
  lse = q.lse;
  audio = q.audio;
}

-- the codes of the selectors
abbrev pub selectors_of : Request → Selectors
selectors_of q = record {
  src = src_of q.hse;
  sw = sw_of (needs_pll1 q) q.hse;
  ckpersel = (peripheral_of q.peripheral q.hse).sel;
  mco1sel = mco1_code q.mco1source;
  mco2sel = mco2_code q.mco2source;
}

-- the plan of what was chosen, part by part
unfoldable pub plan_with : Request → ChipState → List (Option PllSettings) → Buses → Mcos → Plan
plan_with q c l b m = record {
  clocks = clocks_with q (system_from q l) b;
  buses = b;
  mcos = m;
  waits = flash_of c.scale b.ahb.clock;
  selectors = selectors_of q;
  bypass = q.bypass;
  three = c.three;
  plls = l;
}

-- all steps
unfoldable pub chosen_plan : Request → ChipState → Result Plan Refusal
chosen_plan q c = do
  l ← plls_of q c
  hsi_ready c
  b ← buses_of q (system_from q l)
  m ← mcos_of q l (system_from q l)
  Ok (plan_with q c l b m)

-- the same as a call of its own, on a typed request: one complete plan, or one refusal of 3 to 23. A request for two PLLs has nothing in its third
-- part, as its bytes have no place for one (refusal 1)
unfoldable pub answer_typed : Request → ChipState → Result Plan Refusal
answer_typed q c = do
  require (c.three || is_no_part (pll_at q 2)) OutsideCodes
  chosen_plan q c

-- ---- on bytes, and the chip's numbers as they come in
-- the request and the chip, or refusal 1
unfoldable pub request_of : (bytes : List ℕ) → Chip → Result Asked Refusal
request_of bytes chip = do
  c ← chip_of chip
  q ← request_part c.three bytes
  Ok (record { request = q.value; chip = c })

-- the planner's call
unfoldable pub plan_of : (bytes : List ℕ) → Chip → Result Plan Refusal
plan_of bytes chip = do
  a ← request_of bytes chip
  chosen_plan a.request a.chip

-- the bank call: refusal 2, a bank that is not 82 words, stands after 1 and before 3
unfoldable pub bank_plan_of : (bytes : List ℕ) → Chip → (words : ℕ) → Result Plan Refusal
bank_plan_of bytes chip words = do
  a ← request_of bytes chip
  require (eqb words 82) BankLength
  chosen_plan a.request a.chip
