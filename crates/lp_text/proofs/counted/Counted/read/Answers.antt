use Rattle.std.proofs.Common.{arith}
use Rattle.std.proofs.lemmas.Grind.{common_steps}
use Rattle.lp_text.proofs.counted.Counted.read.Goals as goal

pub returns-in-Err-clause-endless : goal.returns-in-Err-clause-endless
returns-in-Err-clause-endless c = grind (arith, common_steps)

pub returns-in-Err-clause-calls : goal.returns-in-Err-clause-calls
returns-in-Err-clause-calls c = grind (arith, common_steps)

pub returns-in-Ok-eq0-clause-read : goal.returns-in-Ok-eq0-clause-read
returns-in-Ok-eq0-clause-read c = grind (arith, common_steps)

pub returns-in-Ok-eq0-clause-calls : goal.returns-in-Ok-eq0-clause-calls
returns-in-Ok-eq0-clause-calls c = grind (arith, common_steps)

pub returns-in-Ok-clause-some : goal.returns-in-Ok-clause-some
returns-in-Ok-clause-some c = grind (arith, common_steps)
