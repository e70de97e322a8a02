use Rattle.std.proofs.Common.{◌≡◌, ◌++◌, take}
use Rattle.lp_text.specs.Traces.{event_words}
use Rattle.lp_text.proofs.Goes.{Goes}
use Rattle.lp_text.proofs.builder.Builder.add_events.Given as goal

abbrev pub invariant-loop-event : goal.invariant-loop-event
invariant-loop-event l =
    Goes (event_words l.symbols) l.initial.self.place l.initial.self.parser l.events l.self.place l.self.size l.self.parser l.event-index × (l.self.parser ≡ record l.initial.self.parser { events = l.initial.self.parser.events ++ take l.event-index l.events })
