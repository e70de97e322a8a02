use Rattle.std.proofs.Common.{refl}
use Rattle.lp_text.specs.Traces.{event_words}
use Rattle.lp_text.proofs.Goes.{passed_on, goes_on, goes_err, goes_end, events_next}
use Rattle.lp_text.proofs.builder.Builder.add_events.Goals as goal

pub returns-in_err-add_event-clause-gives : goal.returns-in_err-add_event-clause-gives
returns-in_err-add_event-clause-gives c =
    passed_on _ c.from_residual.result c.in_err-add_event.field-0.0 _ c.from_residual.ensures.1 (goes_err (event_words c.args.symbols.now) c.args.self.now.place c.args.self.now.parser c.args.events.now c.loop-event.self.place c.loop-event.self.size c.loop-event.self.parser c.loop-event.event-index c.loop-event.invariant.0 c.in_err-add_event.field-0.0 _ c.loop-event-test.true c.in_err-add_event.ensures.gives)

pub loop-event-preserved : goal.loop-event-preserved
loop-event-preserved c = (
  goes_on (event_words c.args.symbols.now) c.args.self.now.place c.args.self.now.parser c.args.events.now c.loop-event.self.place c.loop-event.self.size c.loop-event.self.parser c.loop-event.event-index c.loop-event.invariant.0 c.add_event.new.self.place c.add_event.new.self.size c.add_event.new.self.parser _ c.loop-event-test.true c.in_ok-add_event.ensures.built c.in_ok-add_event.ensures.gives,
  events_next c.args.self.now.parser c.loop-event.self.parser c.add_event.new.self.parser c.args.events.now c.loop-event.event-index _ _ c.loop-event-test.true refl c.loop-event.invariant.1 c.in_ok-add_event.ensures.added,
)

pub returns-clause-gives : goal.returns-clause-gives
returns-clause-gives c = goes_end (event_words c.args.symbols.now) c.args.self.now.place c.args.self.now.parser c.args.events.now c.loop-event.self.place c.loop-event.self.size c.loop-event.self.parser c.loop-event.event-index c.loop-event.invariant.0 c.loop-event-test.false
