use Rattle.std.proofs.Common.{arith}
use Rattle.std.proofs.lemmas.Grind.{common_steps}
use Rattle.lp_text.proofs.write.put_trace.Goals as goal

pub put_parts-requires-clause-few : goal.put_parts-requires-clause-few
put_parts-requires-clause-few c = grind (arith, common_steps)

pub put_parts-requires-clause-patches : goal.put_parts-requires-clause-patches
put_parts-requires-clause-patches c = grind (arith, common_steps)
