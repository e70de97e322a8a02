use Rattle.std.proofs.Common.{◌≡◌, ◌<◌, ◌++◌, length, sym, ap, subst, ◌∙◌, arith}
use Rattle.lp_text.specs.Faults.{IsReadFault}
use Rattle.lp_text.specs.inside.Cut.{IsCut}
use Rattle.lp_text.specs.Reading.{reading_from}
use Rattle.lp_text.specs.Traces.{TraceValue}
use Rattle.lp_text.specs.Words.{lines}
use Rattle.lp_text.proofs.Choices.{at_none, at_some}
use Rattle.lp_text.proofs.OnLines.{line_fault, one_line}
use Rattle.lp_text.proofs.Unbroken.{unbroken_alone}
use Rattle.lp_text.proofs.stream.take_lines.Goals as goal

pub returns-in-Err-clause-fault : goal.returns-in-Err-clause-fault
returns-in-Err-clause-fault c = λ bytes.
    let line = c.cut.result.0.now in
    let cut : IsCut 10 c.loop-more.rest.now line c.in-Some-left.more.now = at_some (λ more. IsCut 10 c.loop-more.rest.now line more.now) c.cut.result.1 c.in-Some-left.more c.cut.ensures.cut c.in-Some-left.is in
    let same : c.take_quick.new.self ≡ c.loop-more.parser = at_none (c.take_quick.new.self ≡ c.loop-more.parser) c.take_quick.result c.take_quick.ensures.none c.in_default.is in
    let P : TraceValue → Type 0 = λ p. IsReadFault c.at.result (reading_from c.loop-more.next p (lines (c.loop-more.rest.now ++ bytes))) in
    rw (c.loop-more.invariant.0 bytes) (subst P same (line_fault c.loop-more.next c.take_quick.new.self c.loop-more.rest.now line c.in-Some-left.more.now cut c.in-Err.fault c.at.result c.in-Err.ensures c.at.ensures bytes))

pub loop-more-preserved : goal.loop-more-preserved
loop-more-preserved c =
    let line = c.cut.result.0.now in
    let cut : IsCut 10 c.loop-more.rest.now line c.in-Some-left.more.now = at_some (λ more. IsCut 10 c.loop-more.rest.now line more.now) c.cut.result.1 c.in-Some-left.more c.cut.ensures.cut c.in-Some-left.is in
    let short : length c.in-Some-left.more.now < length c.loop-more.rest.now = at_some (λ more. length more.now < length c.loop-more.rest.now) c.cut.result.1 c.in-Some-left.more c.cut.ensures.shorter c.in-Some-left.is in
    let same : c.take_quick.new.self ≡ c.loop-more.parser = at_none (c.take_quick.new.self ≡ c.loop-more.parser) c.take_quick.result c.take_quick.ensures.none c.in_default.is in (
      λ bytes. c.loop-more.invariant.0 bytes ∙ (ap (λ (p : TraceValue). reading_from c.loop-more.next p (lines (c.loop-more.rest.now ++ bytes))) (sym same) ∙ one_line c.loop-more.next c.take_quick.new.self c.loop-more.rest.now line c.in-Some-left.more.now cut c.add_line.new.self c.in_default-add_line.ensures bytes),
      omega (arith, short, c.loop-more.invariant.1),
      omega (arith, c.loop-more.invariant.2),
    )

pub returns-in_default-left-clause-unbroken : goal.returns-in_default-left-clause-unbroken
returns-in_default-left-clause-unbroken c =
    let alone = rw c.in_default-left.is at c.cut.ensures.parts in
    unbroken_alone c.loop-more.rest.now c.cut.result.0.now alone
