use Rattle.std.proofs.Common.{◌≡◌, ◌≤◌, ◌-◌, length, vec_len, vec_capacity}
use Rattle.lp_numbers.specs.inside.Links.{all_links}
use Rattle.lp_numbers.proofs.link_table.reach.Given as goal

-- the new links so far are 0
abbrev pub invariant-loop-links : goal.invariant-loop-links
invariant-loop-links l = record {
  few : length l.links.items ≤ 65536;
  room : vec_capacity l.links ≡ vec_capacity l.fn.links;
  same : all_links l.links.items ≡ all_links l.fn.links.items;
}

abbrev pub decreases-loop-links : goal.decreases-loop-links
decreases-loop-links l = 65536 - vec_len l.links
