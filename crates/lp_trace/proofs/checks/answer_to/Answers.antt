use Rattle.std.proofs.Common.{Option, ap, arith}
use Rattle.std.proofs.lemmas.Grind.{common_steps}
use Rattle.lp_definitions.specs.Leg.{Leg}
use Rattle.lp_trace.specs.Answer.{cert_fault_in}
use Rattle.lp_trace.proofs.checks.answer_to.Goals as goal

pub returns-in-None-clause-answer : goal.returns-in-None-clause-answer
returns-in-None-clause-answer g c =
    ap (λ (found : Option Leg). cert_fault_in g.M.Consistency.rules found c.args.input.now.cert) (rw c.in-None.is at c.in_ok-leg.ensures)

pub returns-in-None-clause-sound : goal.returns-in-None-clause-sound
returns-in-None-clause-sound g c = λ none. absurd (cc)

pub returns-in-Some-clause-answer : goal.returns-in-Some-clause-answer
returns-in-Some-clause-answer g c = grind (arith, common_steps)
