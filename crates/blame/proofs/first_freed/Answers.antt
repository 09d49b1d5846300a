-- `blame::first_freed` meets its contract.
use mathlib.Core.Path.{refl, sym, ◌∙◌}
use Rattle.blame.specs.Blame.{order}
use Rattle.blame.proofs.Same.{differs, agrees}
use Rattle.blame.proofs.Freed.{from_place, stops, goes_on, ends}
use Rattle.blame.proofs.first_freed.Goals as goal

pub loop-k-init : goal.loop-k-init
unfolding order
loop-k-init g c = (c.refusal_on-refused.ensures, λ f h. rw (from_place c.start_for.result, c.start_for.ensures, c.refusal_on-refused.ensures))

pub loop-k-preserved : goal.loop-k-preserved
loop-k-preserved g c =
    let l = c.loop-k in
    (l.invariant.0, λ f h. l.invariant.1 f h ∙ goes_on f _ l.tried _ l.k-index c.loop-k-test.true (h _ _ _ c.next-less.ensures) c.refusal_on.ensures l.invariant.0 (agrees _ (λ m n. refl) _ _ c.ne.ensures c.if-ne.false))

pub returns-then-ne : goal.returns-then-ne
returns-then-ne g c =
    let l = c.loop-k in
    λ f h. sym (l.invariant.1 f h ∙ stops f _ l.tried _ l.k-index c.loop-k-test.true (h _ _ _ c.next-less.ensures) c.refusal_on.ensures l.invariant.0 (differs _ (λ m n. refl) _ _ c.ne.ensures c.if-ne.true))

pub returns : goal.returns
returns g c = let l = c.loop-k in λ f h. sym (l.invariant.1 f h ∙ ends f _ l.tried _ l.k-index c.loop-k-test.false)
