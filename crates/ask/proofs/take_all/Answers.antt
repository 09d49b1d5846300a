-- `ask::take_all` meets its contract.
use Rattle.std.proofs.Common.{rules, arith}
use Rattle.std.proofs.lemmas.List.{length_push}
use borrow.Author.Tests.{tests}
use Rattle.ask.proofs.Taking.{begins, part_at, no_part, inside, goes_on, stops, ends}
use Rattle.ask.proofs.take_all.Goals as goal

pub loop-part-init : goal.loop-part-init
loop-part-init c = begins c.args.sheet.now c.args.words.now

pub take_part-requires : goal.take_part-requires
take_part-requires c =
    let k = c.split-part-items.ensures in
    let t = part_at _ _ _ _ k.rest k.done c.into_iter-part-iterator.ensures.into_iter_gives c.loop-part.yielded_by c.next.ensures.steps (λ x b q k. search (rules, tests)) c.in-Some.part c.in-Some.is in
    omega (arith, inside _ _ _ _ _ c.loop-part.invariant _ t)

pub overflow_add-from-in-loop-part : goal.overflow_add-from-in-loop-part
overflow_add-from-in-loop-part c =
    let k = c.split-part-items.ensures in
    let t = part_at _ _ _ _ k.rest k.done c.into_iter-part-iterator.ensures.into_iter_gives c.loop-part.yielded_by c.next.ensures.steps (λ x b q k. search (rules, tests)) c.in-Some.part c.in-Some.is in
    omega (arith, inside _ _ _ _ _ c.loop-part.invariant _ t)

pub loop-part-preserved : goal.loop-part-preserved
loop-part-preserved c =
    let k = c.split-part-items.ensures in
    let t = part_at _ _ _ _ k.rest k.done c.into_iter-part-iterator.ensures.into_iter_gives c.loop-part.yielded_by c.next.ensures.steps (λ x b q k. search (rules, tests)) c.in-Some.part c.in-Some.is in
    rw length_push (goes_on _ _ _ _ _ c.loop-part.invariant _ t c.take_part.ensures.wrong c.take_part.ensures.sheet _ c.in_ok-take_part.was)

pub returns-in_err-take_part : goal.returns-in_err-take_part
returns-in_err-take_part c =
    let k = c.split-part-items.ensures in
    let t = part_at _ _ _ _ k.rest k.done c.into_iter-part-iterator.ensures.into_iter_gives c.loop-part.yielded_by c.next.ensures.steps (λ x b q k. search (rules, tests)) c.in-Some.part c.in-Some.is in
    let s = stops _ _ _ _ _ c.loop-part.invariant _ t c.take_part.ensures.wrong c.take_part.ensures.sheet _ c.in_err-take_part.was in
    record { taken = search rules; sheet = s.1 }

pub returns : goal.returns
returns c =
    let k = c.split-part-items.ensures in
    let t = no_part _ _ _ _ k.rest k.done c.into_iter-part-iterator.ensures.into_iter_gives c.loop-part.yielded_by c.next.ensures.steps (λ x b q k. search (rules, tests)) c.in-None.is in
    let e = ends _ _ _ _ _ c.loop-part.invariant t in
    record { taken = e.0; sheet = e.1 }
