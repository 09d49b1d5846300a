-- `frozen` in two parts: up to the PLLs, and the rest.
use mathlib.Core.Path.{◌≡◌, sym, ◌∙◌}
use mathlib.Core.List.{List, [], ◌∷◌, ◌++◌}
use Prim.Native.Nat.{ℕ}
use Rattle.types.specs.declared.Entry.{Entry}
use Rattle.types.specs.declared.Entry.TheVariants.{Set, Wait}
use Rattle.types.specs.declared.Request.{Request}
use Rattle.types.specs.declared.ChipState.{ChipState}
use Rattle.rules.specs.Document01.Fields
use Rattle.claims.specs.Rust.Run.{ends, Run, continue, ◌>>=◌, ◌>>◌, return, assert, modify, poll}
use Rattle.claims.specs.Rust.CoreClocks.{CoreClocks}
use Rattle.claims.specs.Rust.Rcc.{DefaultX2, setters, mco1_setup, mco2_setup, sys_ck_setup, plls_setup, sys_ck_of, match_per_ck, buses_calculate, mcos_calculate, start_clocks, start_plls, switch_clocks, core_clocks_of, is_div2, freeze, frozen}
use Rattle.claims.proofs.Agreement.Keeps.{Keeps, laws, buses, mcos, clocks, plls, switches}
use Rattle.claims.proofs.Agreement.Agree.{continue_twice, continue_same}
use Rattle.claims.proofs.Agreement.Plls.{Ready, after_sys, after_mco2, after_mco1, after_setters, ready}

-- `freeze` from the asserts on the HSI on
abbrev pub after_asserts : ChipState → Ready → ℕ → Run CoreClocks
after_asserts chip r sys_ck = do
  modify (Set Fields.LSION 1)
  poll (Wait Fields.LSIRDY 1)
  buses ← buses_calculate sys_ck r.s.config
  mcos ← mcos_calculate sys_ck r.s.config r.plls
  start_clocks chip.scale r.s.config buses mcos
  start_plls chip r.s.config r.plls
  switch_clocks r.s.config r.s.sys_use_pll1_p buses (match_per_ck r.s.config.per_ck r.s.config.hse).ckpersel DefaultX2
  return (core_clocks_of sys_ck r.s.config r.plls buses mcos DefaultX2)

-- `freeze` from the PLLs on
abbrev pub rest : ChipState → Ready → Run CoreClocks
rest chip r = do
  sys_ck ← sys_ck_of r.s r.plls
  assert chip.hsion
  assert (is_div2 chip.hsidiv)
  after_asserts chip r sys_ck

-- it takes no operation back
pub rest_keeps : (P : List Entry → Type 0) → ((e : Entry) (es : List Entry) → P es → P (es ++ (e ∷ []))) → (chip : ChipState) (r : Ready) (es : List Entry) → P es → Keeps P (rest chip r es)
rest_keeps P more chip r es p = search (laws, buses, mcos, clocks, plls, switches) depth 20

pub frozen_parts : (q : Request) (c : ChipState) → frozen q c ≡ continue (ready q c) (rest c)
unfolding frozen freeze
frozen_parts q c =
    sym (continue_twice (setters q []) (after_setters c) (rest c)
    ∙ continue_same (setters q []) (λ a es. continue (after_setters c a es) (rest c)) (freeze c) (λ c0 es0.
    continue_twice (mco1_setup c0 es0) (after_mco1 c) (rest c)
    ∙ continue_same (mco1_setup c0 es0) (λ a es. continue (after_mco1 c a es) (rest c)) _ (λ c1 es1.
    continue_twice (mco2_setup c1 es1) (after_mco2 c) (rest c)
    ∙ continue_same (mco2_setup c1 es1) (λ a es. continue (after_mco2 c a es) (rest c)) _ (λ c2 es2.
    continue_twice (sys_ck_setup c2 es2) (after_sys c) (rest c)
    ∙ continue_same (sys_ck_setup c2 es2) (λ a es. continue (after_sys c a es) (rest c)) _ (λ s es3.
    continue_twice (plls_setup c s.config es3) (λ l es. ends es (record { s = s; plls = l })) (rest c))))))
