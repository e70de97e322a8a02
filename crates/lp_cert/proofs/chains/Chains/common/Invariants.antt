use Rattle.std.proofs.Common.{◌+◌, ◌<◌, [], length, slice_index_or}
use Rattle.lp_cert.specs.inside.Chains.{IsTail}
use Rattle.lp_cert.proofs.chains.Chains.common.Given as goal

-- each is the list that it began with, without some of the newest reasons
abbrev pub invariant-loop-one : goal.invariant-loop-one
invariant-loop-one l = record {
  first_known : l.one.0 < length l.self.lists;
  second_known : l.other.0 < length l.self.lists;
  first : IsTail (slice_index_or l.self.lists l.one.0 []) (slice_index_or l.self.lists l.fn.first.0 []);
  second : IsTail (slice_index_or l.self.lists l.other.0 []) (slice_index_or l.self.lists l.fn.second.0 []);
}

abbrev pub decreases-loop-one : goal.decreases-loop-one
decreases-loop-one l = l.one.0 + l.other.0
