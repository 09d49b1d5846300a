-- `template::write::blanks` meets its contract.
use mathlib.Core.Path.{◌≡◌, refl}
use Prim.Native.Nat.{ℕ}
use native.Mathlib.Omega.{arith}
use lib.ListN.{replicate, length-replicate}
use Rattle.std.proofs.Common.{rules}
use Rattle.template.proofs.Written.{filled}
use Rattle.template.proofs.write.blanks.Goals as goal

pub returns : goal.returns
returns c =
    let f : c.fill.new.self ≡ replicate c.min-n.result 32 = search rules in
    let h = c.args.out.now.within in
    record { holds = rw f (filled c.args.out.now c.args.count c.min-n.result c.min-n.ensures); place = omega (arith, length-replicate {A = ℕ} c.args.count 32); same = refl }
