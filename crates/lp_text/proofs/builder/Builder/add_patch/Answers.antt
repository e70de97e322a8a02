use Rattle.std.proofs.Common.{◌∙◌, ap, arith, sym}
use Rattle.std.proofs.lemmas.List.{take_all}
use Rattle.lp_text.specs.Traces.{name, patch_words}
use Rattle.lp_text.proofs.Folds.{patches_so_far, stands, none_stands}
use Rattle.lp_text.proofs.Goes.{passed_on, goes_first, goes_on, goes_err, goes_end, functions_next, asked_some, none_asked, some_there, err_in_form, ok_in_form}
use Rattle.lp_text.proofs.builder.Builder.add_patch.Goals as goal

pub returns-then-is_empty-clause-gives : goal.returns-then-is_empty-clause-gives
returns-then-is_empty-clause-gives c = none_asked c.args.self.now.parser c.args.self.now.place c.args.self.now.size c.args.number c.args.symbols.now c.args.patch.now c.requires.built c.requires.early.0 c.requires.early.1 (omega arith) c.requires.symbols (sym c.if-is_empty.ensures)

pub loop-func-init : goal.loop-func-init
loop-func-init c = (goes_first (λ func. patch_words c.args.self.now.parser.form c.args.number (name c.args.symbols.now func)) c.args.self.now.place c.args.self.now.parser c.args.patch.now c.args.self.now.size c.requires.built, ap (λ p. record c.args.self.now.parser { patches = p }) (sym (none_stands c.args.self.now.parser.patches)))

pub returns-in_err-add_function-clause-gives : goal.returns-in_err-add_function-clause-gives
returns-in_err-add_function-clause-gives c =
    rw (asked_some _ c.args.patch.now (sym c.if-is_empty.ensures)) (passed_on _ c.from_residual.result c.in_err-add_function.field-0.0 _ c.from_residual.ensures.1 (goes_err (λ func. patch_words c.args.self.now.parser.form c.args.number (name c.args.symbols.now func)) c.args.self.now.place c.args.self.now.parser c.args.patch.now c.loop-func.self.place c.loop-func.self.size c.loop-func.self.parser c.loop-func.func-index c.loop-func.invariant.0 c.in_err-add_function.field-0.0 _ c.loop-func-test.true (err_in_form _ _ _ _ _ _ (ap (λ t. t.form) c.loop-func.invariant.1) _ c.in_err-add_function.ensures.gives)))

pub loop-func-preserved : goal.loop-func-preserved
loop-func-preserved c = (
  goes_on (λ func. patch_words c.args.self.now.parser.form c.args.number (name c.args.symbols.now func)) c.args.self.now.place c.args.self.now.parser c.args.patch.now c.loop-func.self.place c.loop-func.self.size c.loop-func.self.parser c.loop-func.func-index c.loop-func.invariant.0 c.add_function.new.self.place c.add_function.new.self.size c.add_function.new.self.parser _ c.loop-func-test.true c.in_ok-add_function.ensures.built (ok_in_form _ _ _ _ _ _ (ap (λ t. t.form) c.loop-func.invariant.1) _ c.in_ok-add_function.ensures.gives),
  functions_next c.args.self.now.parser c.loop-func.self.parser c.add_function.new.self.parser c.args.number c.args.patch.now c.loop-func.func-index _ c.requires.next c.loop-func-test.true c.loop-func.invariant.1 c.in_ok-add_function.ensures.added,
)

pub returns-clause-gives : goal.returns-clause-gives
returns-clause-gives c = rw (asked_some _ c.args.patch.now (sym c.if-is_empty.ensures)) (goes_end (λ func. patch_words c.args.self.now.parser.form c.args.number (name c.args.symbols.now func)) c.args.self.now.place c.args.self.now.parser c.args.patch.now c.loop-func.self.place c.loop-func.self.size c.loop-func.self.parser c.loop-func.func-index c.loop-func.invariant.0 c.loop-func-test.false)

pub returns-clause-added : goal.returns-clause-added
returns-clause-added c =
    c.loop-func.invariant.1 ∙ ap (λ l. record c.args.self.now.parser { patches = patches_so_far c.args.self.now.parser.patches l }) (take_all c.loop-func.func-index c.args.patch.now c.loop-func-test.false) ∙ ap (λ p. record c.args.self.now.parser { patches = p }) (stands c.args.self.now.parser.patches c.args.patch.now (some_there c.args.patch.now (sym c.if-is_empty.ensures)))
