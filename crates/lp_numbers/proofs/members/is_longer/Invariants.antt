use Rattle.std.proofs.Common.{◌≡◌, ℕ, ◌+◌, ◌≤◌, length}
use Rattle.lp_numbers.specs.inside.Links.{list_from, IsChain}
use Rattle.lp_numbers.proofs.members.is_longer.Given as goal

-- the members so far, and those still to come
abbrev pub invariant-loop-at : goal.invariant-loop-at
invariant-loop-at l = record {
  all : length (list_from l.next l.at) + l.most ≡ length (list_from l.next l.initial.at) + l.left;
  few : l.left ≤ l.most;
  chain : (back : ℕ) × IsChain l.next l.before back l.at (list_from l.next l.at);
}

abbrev pub decreases-loop-at : goal.decreases-loop-at
decreases-loop-at l = length (list_from l.next l.at)
