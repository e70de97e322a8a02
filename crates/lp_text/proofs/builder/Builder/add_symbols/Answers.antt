use Rattle.std.proofs.Common.{[], arith}
use Rattle.lp_text.specs.Traces.{sym_words}
use Rattle.lp_text.proofs.Goes.{passed_on, goes_on, goes_err, goes_end, symbols_next}
use Rattle.lp_text.proofs.builder.Builder.add_symbols.Goals as goal

pub returns-in_err-add_symbol-clause-gives : goal.returns-in_err-add_symbol-clause-gives
returns-in_err-add_symbol-clause-gives c =
    passed_on _ c.from_residual.result c.in_err-add_symbol.field-0.0 _ c.from_residual.ensures.1 (goes_err sym_words c.args.self.now.place c.args.self.now.parser c.args.symbols.now c.loop-i.self.place c.loop-i.self.size c.loop-i.self.parser c.loop-i.i c.loop-i.invariant.0 c.in_err-add_symbol.field-0.0 [] (omega (arith, c.loop-i-test.true)) (rw (← c.name_of.ensures) c.in_err-add_symbol.ensures.gives))

pub loop-i-preserved : goal.loop-i-preserved
loop-i-preserved c = (
  goes_on sym_words c.args.self.now.place c.args.self.now.parser c.args.symbols.now c.loop-i.self.place c.loop-i.self.size c.loop-i.self.parser c.loop-i.i c.loop-i.invariant.0 c.add_symbol.new.self.place c.add_symbol.new.self.size c.add_symbol.new.self.parser [] (omega (arith, c.loop-i-test.true)) c.in_ok-add_symbol.ensures.built (rw (← c.name_of.ensures) c.in_ok-add_symbol.ensures.gives),
  symbols_next c.args.self.now.parser c.loop-i.self.parser c.add_symbol.new.self.parser c.args.symbols.now c.loop-i.i c.name_of.result.now [] (omega (arith, c.loop-i-test.true)) c.name_of.ensures c.loop-i.invariant.1 c.in_ok-add_symbol.ensures.added,
)

pub returns-clause-gives : goal.returns-clause-gives
returns-clause-gives c = goes_end sym_words c.args.self.now.place c.args.self.now.parser c.args.symbols.now c.loop-i.self.place c.loop-i.self.size c.loop-i.self.parser c.loop-i.i c.loop-i.invariant.0 (omega (arith, c.loop-i-test.false))
