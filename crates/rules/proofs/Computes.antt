-- What a computed theorem opens, in one place: `unfolding by_rules`, `unfolding by_bank` and `unfolding by_tree` open every definition
-- named here.
use Rattle.std.specs.Prelude.{Result}
use Rattle.types.specs.declared.Refusal.{Refusal}
use Rattle.types.specs.declared.Plan.{Plan}
use Rattle.rules.specs.Document01.Bytes.{byte, end, code, u32le, hertz, flag, mco1_source, mco2_source, strategy, pll_part, request_part, request_bytes}
use Rattle.rules.specs.Document01.Chip.{chip_of}
use Rattle.rules.specs.Document01.Hertz.{ratio_of}
use Rattle.rules.specs.Document01.Target.{top_of, target_of}
use Rattle.rules.specs.Document01.ChoiceOfM.{in_range, shortfall_of, better_of, best_to, chosen_m}
use Rattle.ieee754.specs.Steps.{fracn_of, vco_of}
use Rattle.rules.specs.Document01.OnePll.{spanned, divided_by, settled, runs, pll_of}
use Rattle.rules.specs.Document01.Buses.{peripheral_of, ahb_of, apb_of, timer_of}
use Rattle.rules.specs.Document01.Mco.{mco1_input, mco2_input, mco_of}
use Rattle.rules.specs.Document01.Flash.{at_column, flash_of}
use Rattle.rules.specs.Document01.Plan.{plls_of, buses_of, mcos_of, plan_with, chosen_plan, request_of, plan_of, bank_plan_of}
use Rattle.rules.specs.Document01.Entries.{setting_entries, clock_entries, bus_entries, entries_of, list_with}
use Rattle.rules.specs.Document01.Bank.{reset_bank}
use Rattle.rules.specs.Manual.Tree as Tree
use Rattle.rules.specs.Document01.Request.{configured}

-- the rules, from bytes and from a typed request
unfoldable pub by_rules : Result Plan Refusal → Result Plan Refusal
unfolding byte end code u32le hertz flag mco1_source mco2_source strategy pll_part request_part request_bytes chip_of request_of plan_of bank_plan_of chosen_plan plls_of configured pll_of runs spanned divided_by settled chosen_m best_to better_of in_range shortfall_of target_of top_of fracn_of vco_of buses_of ahb_of apb_of ratio_of mcos_of mco1_input mco2_input mco_of plan_with flash_of at_column timer_of peripheral_of lib.Ieee.span lib.Ieee.climb lib.Ieee.size lib.Ieee.odd lib.Ieee.units lib.Ieee.round lib.Ieee.neg lib.Ieee.sum lib.Ieee.add lib.Ieee.sub lib.Ieee.mul lib.Ieee.div lib.Ieee.lt lib.Ieee.eq lib.Ieee.le lib.Ieee.of_int lib.Ieee.to_unsigned
by_rules x = x

-- the list, and the bank that it leaves
unfoldable pub by_bank : Result Plan Refusal → Result Plan Refusal
unfolding by_rules entries_of list_with setting_entries clock_entries bus_entries reset_bank
by_bank x = x

-- and the clock tree over that bank
unfoldable pub by_tree : Result Plan Refusal → Result Plan Refusal
unfolding by_bank Tree.hsi_of Tree.csi_of Tree.hsi48_of Tree.lsi_of Tree.hse_of Tree.source_of Tree.vco_of Tree.output_of Tree.sys_of Tree.ahb_of Tree.per_of Tree.mco1_of Tree.mco2_of Tree.path_of
by_tree x = x
