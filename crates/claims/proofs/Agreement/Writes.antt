-- The register operations after the PLLs' setup, against the segments of document 01's list.
use Rattle.std.specs.Prelude.{Option, Some, None}
use mathlib.Core.Path.{◌≡◌, refl, ap, ◌∙◌}
use mathlib.Core.List.{List, [], ◌∷◌, ◌++◌, append_assoc, append-nil}
use mathlib.Core.Bool.{Bool, true, false, cond}
use Prim.Native.Nat.{ℕ, ◌≤◌}
use borrow.Author.Tests.{le-leb}
use Rattle.types.specs.declared.PllSettings.{PllSettings}
use Rattle.types.specs.declared.Entry.{Entry}
use Rattle.types.specs.declared.Entry.TheVariants.{Set, Set2, Set3, Set4, Wait}
use Rattle.types.specs.declared.PllRequest.{PllRequest}
use Rattle.types.specs.declared.PllOutput.{PllOutput}
use Rattle.types.specs.declared.Request.{Request}
use Rattle.types.specs.declared.Scale.{Scale}
use Rattle.types.specs.declared.ChipState.{ChipState}
use Rattle.rules.specs.Document01.Fields
use Rattle.rules.specs.Document01.Fields.{of_pll}
use Rattle.rules.specs.Document01.OnePll.{clock_of, p_clock, pll_from}
use Rattle.rules.specs.Document01.Mco.{mco1_code, mco2_code}
use Rattle.types.specs.declared.Waits.{Waits}
use Rattle.rules.specs.Document01.Flash.{flash_of}
use Rattle.rules.specs.Document01.Plan.{src_of}
use Rattle.rules.specs.Document01.Entries.{prften_of, bit, hse_entries, source_entries, output_start, start_entries}
use Rattle.claims.specs.Rust.Run.{ends}
use Rattle.claims.specs.Rust.Rcc as F
use Rattle.claims.specs.Rust.Rcc.{flash_acr, flash_setup, enable_hse, pllsrc, enable_pll, start_clocks, start_plls}
use Rattle.laws.proofs.Tests.{by_test}
use Rattle.claims.proofs.Agreement.Config.{config_after}
use Rattle.claims.proofs.Agreement.Mcos.{mcos_rust, clocks_of}
use Rattle.claims.proofs.Agreement.Flash.{flash_same}
use Rattle.types.specs.declared.Mcos.{Mcos}

-- ---- HSE
bit_is : (b : Bool) → cond b 1 0 ≡ bit b
bit_is true = refl
bit_is false = refl

hse_ends : (h : Option ℕ) (bypass : Bool) (es : List Entry) → enable_hse h bypass es ≡ ends (es ++ hse_entries h bypass) tt
hse_ends None bypass es = rw (append-nil es)
hse_ends (Some h) bypass es = rw (bit_is bypass, append_assoc es (Set2 Fields.HSEON 1 Fields.HSEBYP (bit bypass) ∷ []) (Wait Fields.HSERDY 1 ∷ []))

-- ---- flash, CSI, HSI48, MCOs and HSE
abbrev pub clock_tail : Waits → Request → Mcos → List Entry
clock_tail w q m =
    Set3 Fields.WRHIGHFREQ w.delay Fields.LATENCY w.latency Fields.PRFTEN (prften_of w.latency) ∷ Wait Fields.LATENCY w.latency
    ∷ Set Fields.CSION 1 ∷ Wait Fields.CSIRDY 1
    ∷ Set Fields.HSI48ON 1 ∷ Wait Fields.HSI48RDY 1
    ∷ Set4 Fields.MCO1SEL (mco1_code q.mco1source) Fields.MCO1PRE m.mco1.pre Fields.MCO2SEL (mco2_code q.mco2source) Fields.MCO2PRE m.mco2.pre ∷ []

pub clocks_end : (s : Scale) (q : Request) (asked1 : PllRequest) (b : F.Buses) (m : Mcos) (es : List Entry) → 1 ≤ b.hclk.rcc_hclk → start_clocks s (config_after q asked1) b (mcos_rust m) es ≡ ends (es ++ (clock_tail (flash_of s b.hclk.rcc_hclk) q m ++ hse_entries q.hse q.bypass)) tt
unfolding start_clocks flash_setup flash_acr
clocks_end s q asked1 b m es h =
    rw (le-leb 1 b.hclk.rcc_hclk h, flash_same s b.hclk.rcc_hclk, hse_ends q.hse q.bypass)
    (ap (λ (l : List Entry). ends l tt) (simp append_assoc))

-- ---- the PLLs' sources and starts
src_is : (h : Option ℕ) → pllsrc h ≡ src_of h
src_is None = refl
src_is (Some h) = refl

output_starts : (k : ℕ) (o : Option PllOutput) (es : List Entry) → enable_pll k (clock_of o) es ≡ ends (es ++ output_start k o) tt
output_starts k None es = rw (append-nil es)
output_starts k (Some o) es = rw (append_assoc es (Set (of_pll k Fields.ON) 1 ∷ []) (Wait (of_pll k Fields.RDY) 1 ∷ []))

pll_starts : (k : ℕ) (x : Option PllSettings) (es : List Entry) → enable_pll k (p_clock x) es ≡ ends (es ++ start_entries k x) tt
pll_starts k None es = rw (append-nil es)
pll_starts k (Some s) es = output_starts k s.p es

abbrev pub pll_tail : Request → Bool → List (Option PllSettings) → List Entry
pll_tail q three l =
    source_entries three (src_of q.hse)
    ++ (start_entries 0 (pll_from l 0) ++ (start_entries 1 (pll_from l 1) ++ start_entries 2 (pll_from l 2)))

three_end : (q : Request) (asked1 : PllRequest) (c : ChipState) (l : List (Option PllSettings)) (es : List Entry) → c.three ≡ true → start_plls c (config_after q asked1) (clocks_of l) es ≡ ends (es ++ pll_tail q true l) tt
unfolding start_plls
three_end q asked1 c l es t =
    rw (t, src_is q.hse, pll_starts 0 (pll_from l 0), pll_starts 1 (pll_from l 1), pll_starts 2 (pll_from l 2))
    (ap (λ (x : List Entry). ends x tt) (simp append_assoc))

two_end : (q : Request) (asked1 : PllRequest) (c : ChipState) (l : List (Option PllSettings)) (es : List Entry) → c.three ≡ false → pll_from l 2 ≡ None → start_plls c (config_after q asked1) (clocks_of l) es ≡ ends (es ++ pll_tail q false l) tt
unfolding start_plls
two_end q asked1 c l es f i =
    rw (f, i, src_is q.hse, pll_starts 0 (pll_from l 0), pll_starts 1 (pll_from l 1))
    (ap (λ (x : List Entry). ends x tt) (simp (append_assoc, append-nil)))

pub plls_end : (q : Request) (asked1 : PllRequest) (c : ChipState) (l : List (Option PllSettings)) (es : List Entry) → (c.three ≡ false → pll_from l 2 ≡ None) → start_plls c (config_after q asked1) (clocks_of l) es ≡ ends (es ++ pll_tail q c.three l) tt
plls_end q asked1 c l es h =
    by_test c.three (λ (t : c.three ≡ true). three_end q asked1 c l es t ∙ rw t) (λ (f : c.three ≡ false). two_end q asked1 c l es f (h f) ∙ rw f)
