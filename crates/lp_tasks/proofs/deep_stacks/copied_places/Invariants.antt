use Rattle.std.proofs.Common.{◌≡◌, ◌≤◌, take, vec_capacity}
use Rattle.lp_tasks.proofs.deep_stacks.copied_places.Given as goal

-- the places so far are copied
abbrev pub invariant-loop-place : goal.invariant-loop-place
invariant-loop-place l = record {
  same : l.copied.items ≡ take l.place-index l.places;
  room : 65536 ≤ vec_capacity l.copied;
}
