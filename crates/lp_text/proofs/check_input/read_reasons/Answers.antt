use Rattle.lp_text.specs.Words.{lines}
use Rattle.lp_text.specs.CheckReading.{reasons_from}
use Rattle.std.proofs.Common.{◌≡◌, None, ◌+◌, arith, ap, length, sym, ◌∙◌, ◌<◌}
use Rattle.std.proofs.lemmas.Grind.{common_steps}
use Rattle.std.specs.Prelude.{option_copied}
use Rattle.lp_text.proofs.Choices.{at_some}
use Rattle.lp_text.specs.inside.QuickLines.{BeginsWithReason}
use Rattle.lp_text.proofs.QuickReasons.{reason_taken, shorter}
use Rattle.lp_text.proofs.CertLines.{end_ok, end_err, line_ok, line_err}
use Rattle.lp_text.proofs.check_input.read_reasons.Goals as goal

pub returns-then-is_empty : goal.returns-then-is_empty
returns-then-is_empty c =
    let last : c.cut.result.1 ≡ None = cc in
    end_ok _ c.loop-reason.number c.loop-reason.reasons.items c.loop-reason.rest.now c.cut.result.0.now (option_copied c.cut.result.1) c.loop-reason.invariant.0 c.cut.ensures.parts (ap option_copied last) (sym c.is_empty.ensures ∙ c.if-is_empty.true)

pub returns-in_default-left : goal.returns-in_default-left
returns-in_default-left c =
    let last : c.cut.result.1 ≡ None = cc in
    end_err _ c.loop-reason.number c.loop-reason.reasons.items c.loop-reason.rest.now c.cut.result.0.now (option_copied c.cut.result.1) c.loop-reason.invariant.0 c.cut.ensures.parts (ap option_copied last) (sym c.is_empty.ensures ∙ c.if-is_empty.false) c.at.result c.at.ensures

pub returns-in-Err : goal.returns-in-Err
returns-in-Err c =
    line_err _ c.loop-reason.number c.loop-reason.reasons.items c.loop-reason.rest.now c.cut.result.0.now (option_copied c.cut.result.1) c.loop-reason.invariant.0 c.cut.ensures.parts c.in-Some-left.more.now c.in-Err.fault c.at-in-Err.result (ap option_copied c.in-Some-left.is) c.in-Err.ensures c.at-in-Err.ensures

pub loop-reason-preserved : goal.loop-reason-preserved
loop-reason-preserved c =
    let short : length c.in-Some-left.more.now < length c.loop-reason.rest.now = at_some (λ more. length more.now < length c.loop-reason.rest.now) c.cut.result.1 c.in-Some-left.more c.cut.ensures.shorter c.in-Some-left.is in (
      line_ok _ c.loop-reason.number c.loop-reason.reasons.items c.loop-reason.rest.now c.cut.result.0.now (option_copied c.cut.result.1) c.loop-reason.invariant.0 c.cut.ensures.parts c.in-Some-left.more.now c.in-Ok-reason_line.reason (ap option_copied c.in-Some-left.is) c.in-Ok-reason_line.ensures ∙ ap (λ items. reasons_from (c.loop-reason.number + 1) items (lines c.in-Some-left.more.now)) (sym c.in-Ok-push.ensures.items),
      omega (arith, c.loop-reason.invariant.1),
    )

pub loop-reason-preserved-in-Some : goal.loop-reason-preserved-in-Some
loop-reason-preserved-in-Some c =
    let begins : BeginsWithReason c.loop-reason.rest.now c.in-Some.reason c.in-Some.more.now = c.in-Some.ensures in (
      c.loop-reason.invariant.0 ∙ reason_taken c.loop-reason.rest.now c.in-Some.more.now c.in-Some.reason begins c.loop-reason.number c.loop-reason.reasons.items ∙ ap (λ items. reasons_from (c.loop-reason.number + 1) items (lines c.in-Some.more.now)) (sym c.in-Ok.ensures.items),
      omega (arith, c.loop-reason.invariant.1, shorter c.loop-reason.rest.now c.in-Some.more.now c.in-Some.reason begins),
    )

pub loop-reason-smaller-in-Some : goal.loop-reason-smaller-in-Some
loop-reason-smaller-in-Some c = omega (arith, shorter c.loop-reason.rest.now c.in-Some.more.now c.in-Some.reason c.in-Some.ensures)

pub loop-reason-smaller : goal.loop-reason-smaller
loop-reason-smaller c = grind (arith, common_steps)
