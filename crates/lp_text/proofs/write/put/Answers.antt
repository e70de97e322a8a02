use Rattle.std.proofs.Common.{◌≡◌, ap, arith, ◌∙◌}
use Rattle.std.proofs.lemmas.Grind.{common_steps}
use Rattle.lp_text.specs.Counts.{next}
use Rattle.lp_text.proofs.StreamContract.{writes_done, writes_failed}
use Rattle.lp_text.proofs.Writing.{took}
use Rattle.lp_text.proofs.write.put.Goals as goal

pub loop-rest-preserved : goal.loop-rest-preserved
loop-rest-preserved g c = (
  took (g.W.Write.contents c.args.writer.now.stream) (g.W.Write.contents c.loop-rest.writer.stream) (g.W.Write.contents c.write.new.self.stream) c.args.bytes.now c.loop-rest.rest.now c.in-Ok.count c.loop-rest.invariant.0 c.in-Ok.ensures.bytes,
  c.in-Ok.ensures.some (omega (arith, c.in-Ok.count-test.1)) ∙ c.loop-rest.invariant.1,
)

pub returns-in-Err-clause-written : goal.returns-in-Err-clause-written
returns-in-Err-clause-written g c = grind (arith, common_steps)

pub returns-in-Ok-eq0-clause-written : goal.returns-in-Ok-eq0-clause-written
returns-in-Ok-eq0-clause-written g c = grind (arith, common_steps)

pub returns-in-Err-clause-writes : goal.returns-in-Err-clause-writes
returns-in-Err-clause-writes g c =
    writes_failed c.args.writer.now c.write.new.self (c.in-Err.ensures.failed ∙ ap next c.loop-rest.invariant.1)

pub returns-in-Ok-eq0-clause-writes : goal.returns-in-Ok-eq0-clause-writes
returns-in-Ok-eq0-clause-writes g c =
    let failed : c.write.new.self.failures ≡ next c.args.writer.now.failures = grind (arith, common_steps) in
    writes_failed c.args.writer.now c.write.new.self failed

pub returns-clause-writes : goal.returns-clause-writes
returns-clause-writes g c = writes_done c.args.writer.now c.loop-rest.writer c.loop-rest.invariant.1
