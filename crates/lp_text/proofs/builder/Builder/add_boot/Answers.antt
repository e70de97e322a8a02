use Rattle.std.proofs.Common.{◌≡◌, ◌∙◌, Ok, ap, sym, arith}
use Rattle.lp_text.specs.Traces.{TraceValue, boot_words}
use Rattle.lp_text.specs.Reading.{add_boot, with_line}
use Rattle.lp_text.proofs.Builders.{fault_of_line, ended_gives, ended_built, place_few, on_ok}
use Rattle.lp_text.proofs.Parts.{before_events, boot_task_line, boot_added}
use Rattle.lp_text.proofs.builder.Builder.add_boot.Goals as goal

pub returns-in-Err-clause-gives : goal.returns-in-Err-clause-gives
returns-in-Err-clause-gives c =
    let t : TraceValue = c.args.self.now.parser in
    let says : with_line t (boot_words (c.args.task, c.args.class)) ≡ add_boot t (c.from.result, c.args.class) =
    boot_task_line t c.args.task c.args.class (before_events t c.requires.early) c.requires.patched (omega arith) ∙ ap (λ n. add_boot t (n, c.args.class)) (sym c.from.ensures)
    in
    rw c.at_place.ensures (fault_of_line t c.args.self.now.place c.args.self.now.size c.requires.built (boot_words (c.args.task, c.args.class)) c.in-Err.fault _ says c.in-Err.ensures)

pub end_line-requires-clause-place : goal.end_line-requires-clause-place
end_line-requires-clause-place c = place_few c.args.self.now.parser c.args.self.now.place c.args.self.now.size c.requires.built

-- what the line gives
took : (c : goal.After-end_line) → with_line c.args.self.now.parser (boot_words (c.args.task, c.args.class)) ≡ Ok c.add_boot.new.self
took c =
    boot_task_line c.args.self.now.parser c.args.task c.args.class (before_events c.args.self.now.parser c.requires.early) c.requires.patched (omega arith) ∙ ap (λ n. add_boot c.args.self.now.parser (n, c.args.class)) (sym c.from.ensures) ∙ c.in_default.ensures

pub returns-clause-gives : goal.returns-clause-gives
returns-clause-gives c =
    ended_gives c.args.self.now.parser c.args.self.now.place c.args.self.now.size c.requires.built c.add_boot.new.self (boot_words (c.args.task, c.args.class)) (took c) c.end_line.result c.boot_bytes.result c.end_line.new.self.place c.end_line.new.self.size c.end_line.new.self.parser c.end_line.ensures.ended c.boot_bytes.ensures c.end_line.ensures.same

pub returns-clause-built : goal.returns-clause-built
returns-clause-built c =
    ended_built c.args.self.now.parser c.args.self.now.place c.args.self.now.size c.requires.built c.add_boot.new.self (boot_words (c.args.task, c.args.class)) (took c) c.end_line.result c.boot_bytes.result c.end_line.new.self.place c.end_line.new.self.size c.end_line.new.self.parser c.end_line.ensures.ended c.boot_bytes.ensures c.end_line.ensures.same

pub returns-clause-added : goal.returns-clause-added
returns-clause-added c =
    on_ok _ c.end_line.result (c.end_line.ensures.same ∙ boot_added c.args.self.now.parser c.add_boot.new.self c.args.task c.args.class (ap (λ n. add_boot c.args.self.now.parser (n, c.args.class)) (sym c.from.ensures) ∙ c.in_default.ensures))
