-- What a computed theorem about the Rust opens, in one place: `unfolding by_freeze`.
use Rattle.std.specs.Prelude.{Result}
use Rattle.types.specs.declared.Refusal.{Refusal}
use Rattle.types.specs.declared.Plan.{Plan}
use Rattle.rules.proofs.Computes.{by_rules}
use Rattle.claims.specs.Rust.Pll.{key_of, min_from, min_by_key, search_m, target_setup, divider_setup, range_setup, vco_output_divider_setup, pll_divider_setup, calc_fracn, calc_vco_ck, vco_ck_of, write_pll, pll_setup}
use Rattle.claims.specs.Rust.Mco.{calculate_prescaler}
use Rattle.claims.specs.Rust.Rcc.{setters, mco1_setup, mco2_setup, sys_ck_from, sys_ck_setup, ppre_calculate, match_vos, flash_acr, flash_setup, plls_setup, match_per_ck, hclk_calculate, buses_calculate, mco1_in, mco2_in, mcos_calculate, start_clocks, start_plls, switch_clocks, core_clocks_of, freeze, frozen}

-- the Rust's setters and freeze, beside the rules
unfoldable pub by_freeze : Result Plan Refusal → Result Plan Refusal
unfolding by_rules frozen freeze setters mco1_setup mco2_setup sys_ck_from sys_ck_setup ppre_calculate match_vos flash_acr flash_setup plls_setup match_per_ck hclk_calculate buses_calculate mco1_in mco2_in mcos_calculate start_clocks start_plls switch_clocks core_clocks_of calculate_prescaler key_of min_from min_by_key search_m target_setup divider_setup range_setup vco_output_divider_setup pll_divider_setup calc_fracn calc_vco_ck vco_ck_of write_pll pll_setup
by_freeze x = x
