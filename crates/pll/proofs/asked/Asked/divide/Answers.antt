-- `pll::asked::Asked::divide` meets its contract.
use mathlib.Core.Path.{sym, ◌∙◌}
use Rattle.pll.proofs.Divided.{settles_at}
use Rattle.pll.proofs.asked.Asked.divide.Goals as goal

pub settle-requires : goal.settle-requires
settle-requires c =
    settles_at _ _ _ c.requires _ _ c.range_of-g.ensures c.target_of-target.ensures c.if-target-g.false _
    (sym c.search_m.ensures ∙ c.in_ok-m.ensures.ok_part)
