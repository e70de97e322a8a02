use Rattle.std.proofs.Common.{arith, List, subst}
use Rattle.std.proofs.lemmas.List.{take_all}
use Rattle.lp_definitions.specs.declared.event.Event.{Event}
use Rattle.lp_machine.specs.Steps.{StandsIn}
use Rattle.lp_machine.specs.Table.{state_in}
use Rattle.lp_replay.proofs.Legs.{at_first, at_more, longer, numbered}
use Rattle.lp_replay.proofs.replays.leg.step_all.Goals as goal

pub loop-event-init : goal.loop-event-init
loop-event-init g c = λ run stands. at_first g.M.Consistency.rules run c.args.events.now c.args.core.now stands

pub step-requires : goal.step-requires
step-requires g c =
    let h = c.requires in
    numbered g.M.Consistency.rules h.0 c.args.events.now c.loop-event.event-index c.loop-event.core (omega arith) h.2 (c.loop-event.invariant h.0 h.1)

pub loop-event-preserved : goal.loop-event-preserved
loop-event-preserved g c = λ run stands.
    at_more g.M.Consistency.rules run c.args.events.now c.loop-event.event-index _ c.step.new.core (omega arith) ((c.in_ok-step.ensures _ (c.loop-event.invariant run stands)).1)

pub returns : goal.returns
returns g c = λ run stands.
    subst (λ (es : List Event). StandsIn g.M.Consistency.rules (longer run es) (state_in c.loop-event.core)) (take_all c.loop-event.event-index c.args.events.now (omega arith)) (c.loop-event.invariant run stands)
