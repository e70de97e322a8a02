use Rattle.std.proofs.Common.{◌≡◌, ◌+◌, ◌<◌, ◌∷◌, sym, ◌∙◌, arith}
use Rattle.lp_numbers.specs.Numbers.{has}
use Rattle.lp_tasks.specs.Passing.{passing}
use Rattle.lp_tasks.proofs.AscendingLemmas.{members-passing, passing-least, passing-rest, passing-over}
use Rattle.lp_cert.proofs.Taken.{none_taken, more_taken, all_taken, unnamed_past, taken_are}
use Rattle.lp_cert.proofs.waiters.take_in_all.Goals as goal

pub loop-number-init : goal.loop-number-init
loop-number-init g c = record {
  from = 0;
  fits = omega arith;
  rest = c.into_iter-number-iterator.ensures.into_iter_gives ∙ members-passing c.args.named.now;
  numbers = c.requires.numbers;
  taken = none_taken c.args.core.now.table c.args.level.0 c.args.groups.now c.args.reasons.now c.requires.empty;
}

pub loop-number-preserved : goal.loop-number-preserved
loop-number-preserved g c =
    let now = c.loop-number.invariant in
    let n = c.in-Some.number in
    let few : n < 65536 = omega arith in
    let named = c.args.named.now in
    let next : n ∷ c.next.new.self ≡ passing now.from 65536 (has named) = sym c.in-Some.ensures.steps ∙ now.rest in
    record {
      from = n + 1;
      fits = omega (arith, few);
      rest = passing-rest (has named) now.from n c.next.new.self next;
      numbers = c.take_in.ensures.numbers;
      taken = more_taken c.args.core.now.table named c.requires.named c.args.level.0 now.from n c.loop-number.groups c.take_in.new.groups c.args.reasons.now c.loop-number.reasons c.take_in.new.reasons now.taken (passing-least (has named) now.from n c.next.new.self now.fits next) c.take_in.ensures.taken;
    }

pub returns-clause-taken : goal.returns-clause-taken
returns-clause-taken g c = λ bound.
    let now = c.loop-number.invariant in
    let named = c.args.named.now in
    let over = sym c.in-None.ensures.steps.0 ∙ now.rest in
    all_taken c.args.core.now.table named c.requires.named c.args.level.0 now.from bound c.loop-number.groups c.args.reasons.now c.loop-number.reasons now.taken
    (unnamed_past named now.from c.requires.few (λ group late low. passing-over (has named) now.from now.fits over group late low))

pub returns-clause-groups : goal.returns-clause-groups
returns-clause-groups g c =
    let now = c.loop-number.invariant in
    let named = c.args.named.now in
    let over = sym c.in-None.ensures.steps.0 ∙ now.rest in
    let none = unnamed_past named now.from c.requires.few (λ group late low. passing-over (has named) now.from now.fits over group late low) in
    λ sound group.
    taken_are c.args.core.now c.args.level.0 c.loop-number.groups c.args.reasons.now c.loop-number.reasons
    (λ bound. all_taken c.args.core.now.table named c.requires.named c.args.level.0 now.from bound c.loop-number.groups c.args.reasons.now c.loop-number.reasons now.taken none) sound group
