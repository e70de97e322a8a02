use Rattle.std.proofs.Common.{◌≡◌, ◌<◌, None, length, sym, ap, ◌∙◌, arith}
use Rattle.std.specs.Prelude.{option_copied}
use Rattle.lp_text.specs.inside.QuickLines.{IsTaken}
use Rattle.lp_text.specs.Reading.{reading_from}
use Rattle.lp_text.specs.Traces.{TraceValue}
use Rattle.lp_text.specs.Words.{lines}
use Rattle.lp_text.proofs.Choices.{at_none, at_some}
use Rattle.lp_text.proofs.Lines.{end_ok, end_err, line_ok, line_err}
use Rattle.lp_text.proofs.QuickLines.{taken_alone}
use Rattle.lp_text.proofs.read.read_lines.Goals as goal

pub returns-in-Ok : goal.returns-in-Ok
returns-in-Ok c =
    let same : c.take_quick.new.self ≡ c.loop-more.parser = at_none (c.take_quick.new.self ≡ c.loop-more.parser) c.take_quick.result c.take_quick.ensures.none c.in_default.is in
    let last : c.cut.result.1 ≡ None = cc in
    end_ok _ c.loop-more.number c.take_quick.new.self c.loop-more.rest.now c.cut.result.0.now (option_copied c.cut.result.1) (c.loop-more.invariant.0 ∙ ap (λ (p : TraceValue). reading_from c.loop-more.number p (lines c.loop-more.rest.now)) (sym same)) c.cut.ensures.parts (ap option_copied last) c.in-Ok.ensures

pub returns-in-Err : goal.returns-in-Err
returns-in-Err c =
    let same : c.take_quick.new.self ≡ c.loop-more.parser = at_none (c.take_quick.new.self ≡ c.loop-more.parser) c.take_quick.result c.take_quick.ensures.none c.in_default.is in
    let last : c.cut.result.1 ≡ None = cc in
    end_err _ c.loop-more.number c.take_quick.new.self c.loop-more.rest.now c.cut.result.0.now (option_copied c.cut.result.1) (c.loop-more.invariant.0 ∙ ap (λ (p : TraceValue). reading_from c.loop-more.number p (lines c.loop-more.rest.now)) (sym same)) c.cut.ensures.parts c.in-Err.fault c.at.result (ap option_copied last) c.in-Err.ensures c.at.ensures

pub returns-in-Err-add_line : goal.returns-in-Err-add_line
returns-in-Err-add_line c =
    let same : c.take_quick.new.self ≡ c.loop-more.parser = at_none (c.take_quick.new.self ≡ c.loop-more.parser) c.take_quick.result c.take_quick.ensures.none c.in_default.is in
    line_err _ c.loop-more.number c.take_quick.new.self c.loop-more.rest.now c.cut.result.0.now (option_copied c.cut.result.1) (c.loop-more.invariant.0 ∙ ap (λ (p : TraceValue). reading_from c.loop-more.number p (lines c.loop-more.rest.now)) (sym same)) c.cut.ensures.parts c.in-Some-left.more.now c.in-Err-add_line.fault c.at-in-Err-add_line.result (ap option_copied c.in-Some-left.is) c.in-Err-add_line.ensures c.at-in-Err-add_line.ensures

pub loop-more-preserved-in-Some : goal.loop-more-preserved-in-Some
loop-more-preserved-in-Some c =
    let taken : IsTaken c.loop-more.parser c.take_quick.new.self c.loop-more.rest.now c.in-Some.more.now = at_some (λ more. IsTaken c.loop-more.parser c.take_quick.new.self c.loop-more.rest.now more.now) c.take_quick.result c.in-Some.more c.take_quick.ensures.taken c.in-Some.is in
    let shorter : length c.in-Some.more.now < length c.loop-more.rest.now = taken.shorter in
    (c.loop-more.invariant.0 ∙ taken_alone c.loop-more.parser c.take_quick.new.self c.loop-more.rest.now c.in-Some.more.now c.loop-more.number taken, omega (arith, c.loop-more.invariant.1))

pub loop-more-preserved : goal.loop-more-preserved
loop-more-preserved c =
    let same : c.take_quick.new.self ≡ c.loop-more.parser = at_none (c.take_quick.new.self ≡ c.loop-more.parser) c.take_quick.result c.take_quick.ensures.none c.in_default.is in
    let short : length c.in-Some-left.more.now < length c.loop-more.rest.now = at_some (λ more. length more.now < length c.loop-more.rest.now) c.cut.result.1 c.in-Some-left.more c.cut.ensures.shorter c.in-Some-left.is in (
      line_ok _ c.loop-more.number c.take_quick.new.self c.loop-more.rest.now c.cut.result.0.now (option_copied c.cut.result.1) (c.loop-more.invariant.0 ∙ ap (λ (p : TraceValue). reading_from c.loop-more.number p (lines c.loop-more.rest.now)) (sym same)) c.cut.ensures.parts c.in-Some-left.more.now c.add_line.new.self (ap option_copied c.in-Some-left.is) c.in_default-add_line.ensures,
      omega (arith, c.loop-more.invariant.1),
    )
