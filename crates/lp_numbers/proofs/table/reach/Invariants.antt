use Rattle.std.proofs.Common.{◌≡◌, ℕ, ◌≤◌, ◌-◌, length, slice_index_or, vec_len, vec_capacity}
use Rattle.lp_numbers.proofs.table.reach.Given as goal

-- the new places so far are blank
abbrev pub invariant-loop-blank : goal.invariant-loop-blank
invariant-loop-blank g l = record {
  few : length l.places.items ≤ 65536;
  room : 65536 ≤ vec_capacity l.places;
  same : (n : ℕ) → slice_index_or l.places.items n l.blank ≡ slice_index_or l.fn.places.items n l.blank;
}

abbrev pub decreases-loop-blank : goal.decreases-loop-blank
decreases-loop-blank g l = 65536 - vec_len l.places
