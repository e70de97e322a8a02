use Rattle.std.proofs.Common.{map, drop}
use Rattle.std.specs.List.{flat_map}
use Rattle.lp_text.specs.Words.{line_of}
use Rattle.lp_text.specs.Traces.{event_words}
use Rattle.lp_text.specs.inside.Writing.{Left, seen_of}
use Rattle.lp_text.proofs.write.put_events.Given as goal

abbrev pub invariant-loop-event : goal.invariant-loop-event
invariant-loop-event g l =
    Left (seen_of g.W.Write.contents l.fn.writer) (seen_of g.W.Write.contents l.writer) (flat_map line_of (map (event_words l.fn.symbols) l.fn.events)) (flat_map line_of (map (event_words l.fn.symbols) (drop l.event-index l.fn.events)))
