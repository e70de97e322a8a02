use Rattle.std.proofs.Common.{◌≡◌, ℕ, ◌||◌, length}
use Rattle.lp_numbers.specs.Numbers.{has}
use Rattle.lp_numbers.specs.inside.Links.{among, list_from, IsChain}
use Rattle.lp_numbers.proofs.members.add_list.Given as goal

-- the members so far, and those still to come
abbrev pub invariant-loop-at : goal.invariant-loop-at
invariant-loop-at l = record {
  all : (n : ℕ) → (has l.set n || among n (list_from l.next l.at)) ≡ (has l.initial.set n || among n (list_from l.next l.initial.at));
  chain : (back : ℕ) × IsChain l.next l.before back l.at (list_from l.next l.at);
}

abbrev pub decreases-loop-at : goal.decreases-loop-at
decreases-loop-at l = length (list_from l.next l.at)
