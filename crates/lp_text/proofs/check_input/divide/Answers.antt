use Rattle.std.proofs.Common.{ap, ◌∙◌, refl, sym, ◌∷◌, arith}
use Rattle.std.proofs.lemmas.Grind.{common_steps}
use Rattle.std.specs.Prelude.{option_copied}
use Rattle.lp_text.specs.inside.Cut.{IsCut, parts_left}
use Rattle.lp_text.proofs.Choices.{at_some}
use Rattle.lp_text.proofs.Divided.{at_start, at_next, last_trace, last_line, last_cert, found_trace, found_line, found_cert}
use Rattle.lp_text.proofs.check_input.divide.Goals as goal

pub loop-more-init : goal.loop-more-init
loop-more-init c = at_start c.args.text.now

pub returns-in_default-clause-trace : goal.returns-in_default-clause-trace
returns-in_default-clause-trace c =
    last_trace _ _ _ c.loop-more.invariant c.cut.result.0.now (c.cut.ensures.parts ∙ ap (λ x. c.cut.result.0.now ∷ parts_left 10 (option_copied x)) c.in_default.is)

pub returns-in_default-clause-line : goal.returns-in_default-clause-line
returns-in_default-clause-line c =
    last_line _ _ _ c.loop-more.invariant c.cut.result.0.now (c.cut.ensures.parts ∙ ap (λ x. c.cut.result.0.now ∷ parts_left 10 (option_copied x)) c.in_default.is)

pub returns-in_default-clause-cert : goal.returns-in_default-clause-cert
returns-in_default-clause-cert c =
    last_cert _ _ _ c.loop-more.invariant c.cut.result.0.now (c.cut.ensures.parts ∙ ap (λ x. c.cut.result.0.now ∷ parts_left 10 (option_copied x)) c.in_default.is)

pub returns-then-is-clause-trace : goal.returns-then-is-clause-trace
returns-then-is-clause-trace c =
    found_trace _ _ _ c.loop-more.invariant c.cut.result.0.now c.in-Some.more.now (c.cut.ensures.parts ∙ ap (λ x. c.cut.result.0.now ∷ parts_left 10 (option_copied x)) c.in-Some.is) (sym c.is.ensures ∙ c.if-is.true) _ refl

pub returns-then-is-clause-line : goal.returns-then-is-clause-line
returns-then-is-clause-line c =
    found_line _ _ _ c.loop-more.invariant c.cut.result.0.now c.in-Some.more.now (c.cut.ensures.parts ∙ ap (λ x. c.cut.result.0.now ∷ parts_left 10 (option_copied x)) c.in-Some.is) (sym c.is.ensures ∙ c.if-is.true)

pub returns-then-is-clause-cert : goal.returns-then-is-clause-cert
returns-then-is-clause-cert c =
    found_cert _ _ _ c.loop-more.invariant c.cut.result.0.now c.in-Some.more.now (c.cut.ensures.parts ∙ ap (λ x. c.cut.result.0.now ∷ parts_left 10 (option_copied x)) c.in-Some.is) (sym c.is.ensures ∙ c.if-is.true)

pub loop-more-preserved : goal.loop-more-preserved
loop-more-preserved c =
    at_next _ _ _ c.loop-more.invariant c.cut.result.0.now c.in-Some.more.now (at_some (λ more. IsCut 10 c.loop-more.rest.now c.cut.result.0.now more.now) c.cut.result.1 c.in-Some.more c.cut.ensures.cut c.in-Some.is) (sym c.is.ensures ∙ c.if-is.false)

pub slice_bounds-result-length : goal.slice_bounds-result-length
slice_bounds-result-length c = grind (arith, common_steps)
