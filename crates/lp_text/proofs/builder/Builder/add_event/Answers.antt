use Rattle.std.proofs.Common.{◌≡◌, false, sym, ◌∙◌, Ok}
use Rattle.lp_text.specs.Traces.{TraceValue, has_event, event_words}
use Rattle.lp_text.specs.Reading.{add_event, with_line}
use Rattle.lp_text.proofs.Builders.{fault_of_line, ended_gives, ended_built, place_few, on_ok, built_limits, line_refused}
use Rattle.lp_text.proofs.Parts.{event_line_of, event_untold, no_event_line, event_added}
use Rattle.lp_text.proofs.builder.Builder.add_event.Goals as goal

pub returns-then-not-has_event-clause-gives : goal.returns-then-not-has_event-clause-gives
returns-then-not-has_event-clause-gives c =
    let t : TraceValue = c.args.self.now.parser in
    let untold : has_event t.form c.args.event ≡ false = sym (rw c.form.ensures at c.has_event.ensures) ∙ c.if-not-has_event.true in
    rw c.requires.symbols (line_refused t c.args.self.now.place c.args.self.now.size c.requires.built (event_words t.symbols c.args.event) (event_untold t c.args.event untold))

pub returns-in_default-clause-gives : goal.returns-in_default-clause-gives
returns-in_default-clause-gives c =
    let t : TraceValue = c.args.self.now.parser in
    rw c.requires.symbols (line_refused t c.args.self.now.place c.args.self.now.size c.requires.built (event_words t.symbols c.args.event) (no_event_line t c.args.event c.requires.patched (rw (← c.requires.symbols) c.in_default.ensures)))

pub returns-in-Err-clause-gives : goal.returns-in-Err-clause-gives
returns-in-Err-clause-gives c =
    let t : TraceValue = c.args.self.now.parser in
    let says : with_line t (event_words t.symbols c.args.event) ≡ add_event t c.args.event = event_line_of t c.args.event (built_limits t c.args.self.now.place c.args.self.now.size c.requires.built) c.requires.patched (rw (← c.requires.symbols) c.in-Some.ensures.0) (sym (rw c.form.ensures at c.has_event.ensures) ∙ c.if-not-has_event.false) in
    rw (c.at_place.ensures, c.requires.symbols) (fault_of_line t c.args.self.now.place c.args.self.now.size c.requires.built (event_words t.symbols c.args.event) c.in-Err.fault _ says c.in-Err.ensures)

pub end_line-requires-clause-place : goal.end_line-requires-clause-place
end_line-requires-clause-place c = place_few c.args.self.now.parser c.args.self.now.place c.args.self.now.size c.requires.built

-- what the line gives
took : (c : goal.After-end_line) → with_line c.args.self.now.parser (event_words c.args.self.now.parser.symbols c.args.event) ≡ Ok c.add_event.new.self
took c =
    event_line_of c.args.self.now.parser c.args.event (built_limits c.args.self.now.parser c.args.self.now.place c.args.self.now.size c.requires.built) c.requires.patched (rw (← c.requires.symbols) c.in-Some.ensures.0) (sym (rw c.form.ensures at c.has_event.ensures) ∙ c.if-not-has_event.false) ∙ c.in_default-add_event.ensures

pub returns-clause-gives : goal.returns-clause-gives
returns-clause-gives c =
    rw c.requires.symbols (ended_gives c.args.self.now.parser c.args.self.now.place c.args.self.now.size c.requires.built c.add_event.new.self (event_words c.args.self.now.parser.symbols c.args.event) (took c) c.end_line.result c.in-Some.bytes c.end_line.new.self.place c.end_line.new.self.size c.end_line.new.self.parser c.end_line.ensures.ended (rw (← c.requires.symbols) c.in-Some.ensures.1) c.end_line.ensures.same)

pub returns-clause-built : goal.returns-clause-built
returns-clause-built c =
    ended_built c.args.self.now.parser c.args.self.now.place c.args.self.now.size c.requires.built c.add_event.new.self (event_words c.args.self.now.parser.symbols c.args.event) (took c) c.end_line.result c.in-Some.bytes c.end_line.new.self.place c.end_line.new.self.size c.end_line.new.self.parser c.end_line.ensures.ended (rw (← c.requires.symbols) c.in-Some.ensures.1) c.end_line.ensures.same

pub returns-clause-added : goal.returns-clause-added
returns-clause-added c = on_ok _ c.end_line.result (c.end_line.ensures.same ∙ event_added c.args.self.now.parser c.add_event.new.self c.args.event c.in_default-add_event.ensures)
