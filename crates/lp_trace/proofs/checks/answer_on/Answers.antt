use Rattle.std.proofs.Common.{◌≡◌, ◌++◌, ap, subst, List, ℕ, Option, None, arith}
use Rattle.std.proofs.lemmas.Grind.{common_steps}
use Rattle.lp_definitions.specs.declared.cert_fault.CertFault.{CertFault}
use Rattle.lp_text.specs.Words.{line_of}
use Rattle.lp_text.specs.Writing.{AppendsPrefix}
use Rattle.lp_text.proofs.CheckInputs.{none_is}
use Rattle.lp_text.proofs.StreamContract.{done≢read_failed, done≢write_failed, write_failed≢read_failed, writes_nothing}
use Rattle.lp_replay.proofs.RunFaults.{memory_unread, memory_unwritten}
use Rattle.lp_trace.specs.Answer.{answer_words}
use Rattle.lp_trace.proofs.checks.answer_on.Goals as goal

pub returns-in-Ok-clause-sound : goal.returns-in-Ok-clause-sound
returns-in-Ok-clause-sound g c = λ accepted.
    let none : c.in_ok-answer.answer ≡ None = none_is c.in_ok-answer.answer c.is_none.result c.is_none.ensures accepted in
    c.in_ok-answer.ensures.sound none

pub returns-clause-prefix : goal.returns-clause-prefix
returns-clause-prefix g c = λ e.
    let model = g.M.Consistency.rules in
    let old = g.W.Write.contents c.args.writer.now.stream in
    let new = g.W.Write.contents c.write_answer.new.writer.stream in
    let Prefix : List ℕ → Type 0 = AppendsPrefix old new in
    let Answered : Option CertFault → Type 0 = λ answer. Prefix (line_of (answer_words answer)) in
    let held : Answered c.in_ok-answer.answer = subst Prefix (ap (λ l. l ++ line_of (answer_words c.in_ok-answer.answer)) c.in_ok-page.ensures) c.in-Err.ensures.written in
    subst Answered c.in_ok-answer.ensures.answer held

pub returns-in-Ok-clause-answer : goal.returns-in-Ok-clause-answer
returns-in-Ok-clause-answer g c = grind (arith, common_steps)

pub returns-in-Ok-clause-prefix : goal.returns-in-Ok-clause-prefix
returns-in-Ok-clause-prefix g c = λ e. absurd (done≢write_failed e)

pub returns-in-Ok-clause-writes : goal.returns-in-Ok-clause-writes
returns-in-Ok-clause-writes g c = c.in-Ok.ensures.writes

pub returns-in-Ok-clause-not_reading : goal.returns-in-Ok-clause-not_reading
returns-in-Ok-clause-not_reading g c = done≢read_failed

pub returns-clause-writes : goal.returns-clause-writes
returns-clause-writes g c = c.in-Err.ensures.writes

pub returns-clause-not_reading : goal.returns-clause-not_reading
returns-clause-not_reading g c = write_failed≢read_failed

-- an allocation failed

pub returns-in_err-answer-clause-prefix : goal.returns-in_err-answer-clause-prefix
returns-in_err-answer-clause-prefix g c = λ e. absurd (memory_unwritten c.from_residual.result c.from_residual.ensures.1 e)

pub returns-in_err-answer-clause-writes : goal.returns-in_err-answer-clause-writes
returns-in_err-answer-clause-writes g c = writes_nothing c.args.writer.now _ (memory_unwritten c.from_residual.result c.from_residual.ensures.1)

pub returns-in_err-answer-clause-not_reading : goal.returns-in_err-answer-clause-not_reading
returns-in_err-answer-clause-not_reading g c = memory_unread c.from_residual.result c.from_residual.ensures.1

pub returns-in_err-page-clause-prefix : goal.returns-in_err-page-clause-prefix
returns-in_err-page-clause-prefix g c = λ e. absurd (memory_unwritten c.from_residual-in_err-page.result c.from_residual-in_err-page.ensures.1 e)

pub returns-in_err-page-clause-writes : goal.returns-in_err-page-clause-writes
returns-in_err-page-clause-writes g c = writes_nothing c.args.writer.now _ (memory_unwritten c.from_residual-in_err-page.result c.from_residual-in_err-page.ensures.1)

pub returns-in_err-page-clause-not_reading : goal.returns-in_err-page-clause-not_reading
returns-in_err-page-clause-not_reading g c = memory_unread c.from_residual-in_err-page.result c.from_residual-in_err-page.ensures.1
