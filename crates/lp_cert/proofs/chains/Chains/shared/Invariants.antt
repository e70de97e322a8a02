use Rattle.std.proofs.Common.{◌<◌, [], length, slice_index_or}
use Rattle.lp_cert.specs.inside.Chains.{IsTail}
use Rattle.lp_cert.proofs.chains.Chains.shared.Given as goal

-- both lists without some of the newest reasons
abbrev pub invariant-loop-shared : goal.invariant-loop-shared
invariant-loop-shared l = record {
  known : l.shared.0 < length l.self.lists;
  first : IsTail (slice_index_or l.self.lists l.shared.0 []) (slice_index_or l.self.lists l.fn.first.0 []);
  second : IsTail (slice_index_or l.self.lists l.shared.0 []) (slice_index_or l.self.lists l.fn.second.0 []);
}

abbrev pub decreases-loop-shared : goal.decreases-loop-shared
decreases-loop-shared l = l.shared.0
