use Rattle.std.proofs.Common.{arith}
use Rattle.std.proofs.lemmas.Grind.{common_steps}
use Rattle.lp_trace.proofs.checks.put_answer.Goals as goal

pub returns-in-Some-event_of : goal.returns-in-Some-event_of
returns-in-Some-event_of c = grind (arith, common_steps)
