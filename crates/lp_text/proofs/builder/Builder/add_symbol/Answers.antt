use Rattle.std.proofs.Common.{◌≡◌, ◌∙◌, Ok}
use Rattle.lp_text.specs.Traces.{TraceValue, sym_words}
use Rattle.lp_text.specs.Reading.{add_symbol, with_line}
use Rattle.lp_text.proofs.Builders.{fault_of_line, ended_gives, ended_built, place_few, on_ok}
use Rattle.lp_text.proofs.Parts.{before_patches, symbol_line, symbol_added}
use Rattle.lp_text.proofs.builder.Builder.add_symbol.Goals as goal

pub returns-in-Err-clause-gives : goal.returns-in-Err-clause-gives
returns-in-Err-clause-gives c =
    let t : TraceValue = c.args.self.now.parser in
    let says : with_line t (sym_words c.args.name.now) ≡ add_symbol t c.args.name.now = symbol_line t c.args.name.now (before_patches t c.requires.early.0 c.requires.early.1 c.requires.early.2) c.requires.name in
    rw c.at_place.ensures (fault_of_line t c.args.self.now.place c.args.self.now.size c.requires.built (sym_words c.args.name.now) c.in-Err.fault _ says c.in-Err.ensures)

pub end_line-requires-clause-place : goal.end_line-requires-clause-place
end_line-requires-clause-place c = place_few c.args.self.now.parser c.args.self.now.place c.args.self.now.size c.requires.built

-- what the line gives
took : (c : goal.After-end_line) → with_line c.args.self.now.parser (sym_words c.args.name.now) ≡ Ok c.add_symbol.new.self
took c =
    symbol_line c.args.self.now.parser c.args.name.now (before_patches c.args.self.now.parser c.requires.early.0 c.requires.early.1 c.requires.early.2) c.requires.name ∙ c.in_default.ensures

pub returns-clause-gives : goal.returns-clause-gives
returns-clause-gives c =
    ended_gives c.args.self.now.parser c.args.self.now.place c.args.self.now.size c.requires.built c.add_symbol.new.self (sym_words c.args.name.now) (took c) c.end_line.result c.symbol_bytes.result c.end_line.new.self.place c.end_line.new.self.size c.end_line.new.self.parser c.end_line.ensures.ended c.symbol_bytes.ensures c.end_line.ensures.same

pub returns-clause-built : goal.returns-clause-built
returns-clause-built c =
    ended_built c.args.self.now.parser c.args.self.now.place c.args.self.now.size c.requires.built c.add_symbol.new.self (sym_words c.args.name.now) (took c) c.end_line.result c.symbol_bytes.result c.end_line.new.self.place c.end_line.new.self.size c.end_line.new.self.parser c.end_line.ensures.ended c.symbol_bytes.ensures c.end_line.ensures.same

pub returns-clause-added : goal.returns-clause-added
returns-clause-added c = on_ok _ c.end_line.result (c.end_line.ensures.same ∙ symbol_added c.args.self.now.parser c.add_symbol.new.self c.args.name.now c.in_default.ensures)
