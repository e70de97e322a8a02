use Rattle.std.proofs.Common.{subst, sym}
use Rattle.lp_log.specs.Journals.{Written}
use Rattle.lp_owned.specs.Owned.{IsKept}
use Rattle.lp_owned.proofs.Kept.{kept_first}
use Rattle.lp_owned.proofs.book.OwnedBook.over.Goals as goal

pub invariant_of-result : goal.invariant_of-result
invariant_of-result g c =
    subst (λ (j : Written). IsKept g.N.DeskName.desk j c.args.keeper) (sym c.requires.fresh)
    (kept_first g.N.DeskName.desk c.args.keeper c.requires.boots c.requires.all c.requires.out)
