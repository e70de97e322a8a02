use Rattle.std.proofs.Common.{◌≡◌, ℕ, ◌≤◌, ◌-◌, length, count_by, is_some, vec_len, vec_capacity}
use Rattle.lp_tasks.specs.inside.Deep.{place_at}
use Rattle.lp_tasks.proofs.deep_stacks.reach.Given as goal

-- the new places so far have no array
abbrev pub invariant-loop-places : goal.invariant-loop-places
invariant-loop-places l = record {
  few : length l.places.items ≤ 65536;
  room : 65536 ≤ vec_capacity l.places;
  same : (t : ℕ) → place_at l.places.items t ≡ place_at l.fn.places.items t;
  count : count_by is_some l.places.items ≡ count_by is_some l.fn.places.items;
}

abbrev pub decreases-loop-places : goal.decreases-loop-places
decreases-loop-places l = 65536 - vec_len l.places
