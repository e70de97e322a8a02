use Rattle.std.proofs.Common.{◌≡◌, ◌∙◌, ◌++◌, ◌+◌, List, Vec, Global, ap, arith, length, subst, sym, take, drop}
use Rattle.std.proofs.lemmas.Grind.{common_steps}
use Rattle.std.proofs.lemmas.List.{take_more}
use Rattle.lp_definitions.specs.declared.event.Event.{Event}
use Rattle.lp_threads.specs.inside.Dealt.{IsDealt}
use Rattle.lp_threads.proofs.Dealt.{dealt_more, written}
use Rattle.lp_threads.proofs.scripts.Scripts.deal.Goals as goal

pub loop-event-preserved : goal.loop-event-preserved
loop-event-preserved g c =
    let events = c.args.events.now in
    let i = c.loop-event.event-index in
    let after = c.add.new.tasks in
    let rest = c.add.new.control.items in
    let there = c.as_mut_slice.ensures.value in
    let wrote : take c.loop-event.tasks.len (after ++ drop (length after) c.loop-event.tasks.items) ≡ after = written _ _ _ (omega arith) in
    let dealt = subst (λ (tasks : List (Vec Event Global)). IsDealt (take i events) tasks c.loop-event.control.items) (sym there) c.loop-event.invariant.1 in
    let more = dealt_more (take i events) _ c.as_mut_slice.result.now after c.loop-event.control.items rest (c.add.ensures.wide ∙ sym (ap length there ∙ c.loop-event.invariant.0)) dealt c.in_ok-add.ensures.added in (
      ap length wrote ∙ c.add.ensures.wide,
      subst (λ (tasks : List (Vec Event Global)). IsDealt (take (i + 1) events) tasks rest) (sym wrote)
          (subst (λ (sent : List Event). IsDealt sent after rest) (sym (take_more events i _ c.loop-event-test.true)) more),
    )

pub invariant_of-result : goal.invariant_of-result
invariant_of-result g c = grind (arith, common_steps)
