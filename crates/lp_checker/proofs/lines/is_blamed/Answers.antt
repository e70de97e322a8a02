use Rattle.std.proofs.Common.{arith}
use Rattle.std.proofs.lemmas.Grind.{common_steps}
use Rattle.lp_checker.proofs.lines.is_blamed.Goals as goal

pub blame-blame-requires : goal.blame-blame-requires
blame-blame-requires c = grind (arith, common_steps)
