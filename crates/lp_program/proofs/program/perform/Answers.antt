use Rattle.std.proofs.Common.{arith}
use Rattle.std.proofs.lemmas.Grind.{common_steps}
use Rattle.lp_program.proofs.Endings.{reads_no_words, writes_no_words}
use Rattle.lp_program.proofs.program.perform.Goals as goal

pub returns-in_err-job-clause-reads : goal.returns-in_err-job-clause-reads
returns-in_err-job-clause-reads g c = reads_no_words c.in_err-job.field-0.0 c.from_residual.result c.from_residual.ensures.1 c.args.reader.now

pub returns-in_err-job-clause-writes : goal.returns-in_err-job-clause-writes
returns-in_err-job-clause-writes g c = writes_no_words c.in_err-job.field-0.0 c.from_residual.result c.from_residual.ensures.1 c.args.writer.now

pub returns-clause-fails : goal.returns-clause-fails
returns-clause-fails g c = grind (arith, common_steps)

pub returns-clause-done : goal.returns-clause-done
returns-clause-done g c = grind (arith, common_steps)

pub returns-clause-reads : goal.returns-clause-reads
returns-clause-reads g c = c.act.ensures.reads

pub returns-clause-writes : goal.returns-clause-writes
returns-clause-writes g c = c.act.ensures.writes
