use Rattle.std.proofs.Common.{◌≡◌, ◌≤◌, take, vec_capacity}
use Rattle.lp_tasks.proofs.deep_stacks.copied_stacks.Given as goal

-- the arrays so far are copied
abbrev pub invariant-loop-stack : goal.invariant-loop-stack
invariant-loop-stack l = record {
  same : l.copied.items ≡ take l.stack-index l.stacks;
  room : 65536 ≤ vec_capacity l.copied;
}
