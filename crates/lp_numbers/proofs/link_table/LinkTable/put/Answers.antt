use Rattle.std.proofs.Common.{ℕ, List, set, ap, ◌∙◌, arith}
use Rattle.std.proofs.lemmas.List.{length-set}
use Rattle.lp_numbers.proofs.LinkTables.{all_links-set, all_links-count}
use Rattle.lp_numbers.proofs.link_table.LinkTable.put.Goals as goal

pub returns-clause-links : goal.returns-clause-links
returns-clause-links c = rw (← c.self.view_is, ← c.from-at.ensures) (all_links-set c.reach.new.links.items c.from-at.result c.args.link c.reach.ensures.reached ∙ ap (λ (links : List ℕ). set links c.from-at.result c.args.link) c.reach.ensures.same)

pub returns-clause-count : goal.returns-clause-count
returns-clause-count c = all_links-count (set c.reach.new.links.items c.from-at.result c.args.link) (omega (arith, length-set c.reach.new.links.items c.from-at.result c.args.link, c.reach.ensures.few))
