use Rattle.std.proofs.Common.{arith}
use Rattle.std.proofs.lemmas.Grind.{common_steps}
use Rattle.lp_desk.proofs.book.Book.apply_scan.Goals as goal

pub take-requires : goal.take-requires
take-requires c = grind (arith, common_steps)
