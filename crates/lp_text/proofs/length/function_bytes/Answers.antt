use Rattle.std.proofs.Common.{arith}
use Rattle.std.proofs.lemmas.Grind.{common_steps}
use Rattle.lp_text.proofs.length.function_bytes.Goals as goal

pub returns-in-Stacked : goal.returns-in-Stacked
returns-in-Stacked c = grind (arith, common_steps)
