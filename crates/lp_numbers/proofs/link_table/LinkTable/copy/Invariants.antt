use Rattle.std.proofs.Common.{◌≡◌, ◌≤◌, take, vec_capacity}
use Rattle.lp_numbers.proofs.link_table.LinkTable.copy.Given as goal

-- the links so far are copied
abbrev pub invariant-loop-link : goal.invariant-loop-link
invariant-loop-link l = record {
  room : 65536 ≤ vec_capacity l.links;
  same : l.links.items ≡ take l.link-index l.link-items;
}
