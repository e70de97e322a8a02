use Rattle.std.proofs.Common.{arith}
use Rattle.std.proofs.lemmas.Grind.{common_steps}
use Rattle.lp_patch.proofs.StackLemmas.{rows-push}
use Rattle.lp_patch.proofs.stack.all_versions.Goals as goal

pub loop-func-preserved : goal.loop-func-preserved
loop-func-preserved c =
    let count = c.loop-func.invariant.count in
    let so_far = rw (← count) at c.loop-func.invariant.right in
    let new = rw (← count) at c.versions_of.ensures in
    record {
      count = grind (arith, common_steps, count);
      right = rw (c.in_ok-push.ensures.items, ← count) (rows-push c.args.sets.now c.loop-func.rows.items c.versions_of.result so_far new);
    }
