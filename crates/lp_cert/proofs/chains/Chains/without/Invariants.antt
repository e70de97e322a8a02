use Rattle.std.proofs.Common.{◌<◌, ◌≤◌, [], length, slice_index_or}
use Rattle.lp_cert.specs.inside.Chains.{IsTail}
use Rattle.lp_cert.proofs.chains.Chains.without.Given as goal

-- the present list is without some of the newest reasons, and has enough
abbrev pub invariant-loop-at : goal.invariant-loop-at
invariant-loop-at l = record {
  known : l.at.0 < length l.self.lists;
  tail : IsTail (slice_index_or l.self.lists l.at.0 []) (slice_index_or l.self.lists l.fn.id.0 []);
  enough : l.kept ≤ length (slice_index_or l.self.lists l.at.0 []);
}

abbrev pub decreases-loop-at : goal.decreases-loop-at
decreases-loop-at l = l.at.0
