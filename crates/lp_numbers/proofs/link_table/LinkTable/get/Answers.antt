use Rattle.std.proofs.Common.{sym, ◌∙◌}
use Rattle.lp_numbers.proofs.LinkTables.{all_links-at, all_links-count}
use Rattle.lp_numbers.proofs.link_table.LinkTable.get.Goals as goal

pub returns-clause-link : goal.returns-clause-link
returns-clause-link c = rw (← c.self.view_is) (rw c.as_slice.ensures.value at c.written.ensures ∙ sym (all_links-at c.self.inside.links.items c.args.number))

pub returns-clause-count : goal.returns-clause-count
returns-clause-count c = rw (← c.self.view_is) (all_links-count c.self.inside.links.items c.self.invariant.few)
