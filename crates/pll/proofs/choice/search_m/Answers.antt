-- `pll::choice::search_m` meets its contract: after a turn the best of one M more is held.
use Rattle.pll.proofs.Search.{held, all_held}
use native.Mathlib.Omega.{arith}
use Prim.Native.Nat.{◌+◌, ◌-◌}
use mir.Syntax.{w32}
use mir.ValLaws.{to_z-of_z}
use mathlib.Core.Logic.{inl, inr}
use mathlib.Core.Path.{◌∙◌}
use Rattle.pll.proofs.choice.search_m.Goals as goal
use Rattle.pll.proofs.choice.search_m.Goals.{then-short-least, else-short-least}

pub loop-m-preserved : goal.loop-m-preserved
loop-m-preserved c =
    let i = c.loop-m.invariant in
    let r = c.shortfall-short in (
      omega arith,
      omega arith,
      inr (held c.args.medium c.args.source c.loop-m.m _ c.requires.0 i.0 c.last_m-last.ensures (omega arith) c.args.target _ _ _ _ _ i.2 (to_z-of_z w32 r.result (record { sfits = r.type_inv }) ∙ r.ensures)
          (elim c.if-short-least.branch [ then-short-least w ↦ inl (w.if-short-least.true, w.best-is, w.least-is) | else-short-least w ↦ inr (w.if-short-least.false, w.best-is, w.least-is) ])),
    )

pub returns-after-short-least : goal.returns-after-short-least
returns-after-short-least c =
    let i = c.loop-m.invariant in
    let l = c.last_m-last.ensures in
    let r = c.shortfall-short in
    all_held _ _ _ (c.loop-m.m + 1 - 1) _ c.requires.0 l (omega arith)
    (held c.args.medium c.args.source c.loop-m.m _ c.requires.0 i.0 l (omega arith) c.args.target _ _ _ _ _ i.2 (to_z-of_z w32 r.result (record { sfits = r.type_inv }) ∙ r.ensures)
    (elim c.if-short-least.branch [ then-short-least w ↦ inl (w.if-short-least.true, w.best-is, w.least-is) | else-short-least w ↦ inr (w.if-short-least.false, w.best-is, w.least-is) ])).0
