-- `template::write::digits` meets its contract.
use native.Mathlib.Omega.{arith}
use Rattle.template.proofs.Digits.{twenty, goes_on, ends}
use Rattle.template.proofs.write.digits.Goals as goal

pub bounds-row-k : goal.bounds-row-k
bounds-row-k c =
    let t = c.loop-k-test.true in
    let a = c.loop-k.auto.k in
    let b = twenty c.args.n c.args.count c.requires in
    omega arith

pub loop-k-preserved : goal.loop-k-preserved
loop-k-preserved c =
    let t = c.loop-k-test.true in
    let a = c.loop-k.auto.k in
    goes_on c.args.n c.args.count c.requires c.loop-k.k _ c.loop-k.rest c.loop-k.row (omega arith) (omega arith) c.loop-k.invariant
