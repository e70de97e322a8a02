use Rattle.lp_checker.proofs.Tables.{blank, kept-blank}
use Rattle.lp_checker.proofs.fold.table.FoldedTable.new.Goals as goal

pub invariant_of-result : goal.invariant_of-result
invariant_of-result c = rw (c.new.ensures.items, c.new-3.ensures.items) (kept-blank c.in_ok-new.field-0 c.in_ok-new.ensures.numbers c.in_ok-new.ensures.empty)

pub returns : goal.returns
returns c = rw c.new.ensures.items (blank c.in_ok-new.field-0 c.in_ok-new.ensures.numbers c.in_ok-new.ensures.empty)
