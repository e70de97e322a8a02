use Rattle.lp_text.specs.Traces.{event_words}
use Rattle.lp_text.proofs.Writing.{writes_err, left_prefix, left_next, lines_at}
use Rattle.lp_text.specs.inside.Writing.{seen_of}
use Rattle.lp_text.proofs.write.put_events.Goals as goal

pub returns-in_err-put_event : goal.returns-in_err-put_event
returns-in_err-put_event g c =
    writes_err _ _ _ c.from_residual.result c.from_residual.ensures.0 (left_prefix _ (seen_of g.W.Write.contents c.loop-event.writer) _ _ _ _ _ (lines_at (event_words c.args.symbols.now) c.args.events.now c.loop-event.event-index _ c.loop-event-test.true) c.loop-event.invariant c.in_err-put_event.ensures)

pub loop-event-preserved : goal.loop-event-preserved
loop-event-preserved g c =
    left_next _ (seen_of g.W.Write.contents c.loop-event.writer) _ _ _ _ _ (lines_at (event_words c.args.symbols.now) c.args.events.now c.loop-event.event-index _ c.loop-event-test.true) c.loop-event.invariant c.in_ok-put_event.ensures
