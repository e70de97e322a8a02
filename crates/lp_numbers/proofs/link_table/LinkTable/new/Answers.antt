use Rattle.std.proofs.Common.{◌≡◌, length, ap, arith}
use Rattle.lp_numbers.proofs.LinkTables.{all_links-past, all_links-count}
use Rattle.lp_numbers.proofs.link_table.LinkTable.new.Goals as goal

pub returns-clause-zero : goal.returns-clause-zero
returns-clause-zero c = λ n.
    let links = c.in_ok-with_capacity.field-0.items in
    let none : length links ≡ 0 = ap length c.in_ok-with_capacity.ensures.items in
    all_links-past links n (omega arith)

pub returns-clause-count : goal.returns-clause-count
returns-clause-count c =
    let links = c.in_ok-with_capacity.field-0.items in
    let none : length links ≡ 0 = ap length c.in_ok-with_capacity.ensures.items in
    all_links-count links (omega arith)
