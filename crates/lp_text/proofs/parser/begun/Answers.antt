use Rattle.std.proofs.Common.{arith}
use Rattle.std.proofs.lemmas.Grind.{common_steps}
use Rattle.lp_text.specs.Reading.{begun}
use Rattle.lp_text.proofs.parser.begun.Goals as goal

pub returns-then-count-patches : goal.returns-then-count-patches
unfolding begun
returns-then-count-patches c = grind (arith, common_steps)

pub returns-then-count-gt-MOST_PATCHES : goal.returns-then-count-gt-MOST_PATCHES
unfolding begun
returns-then-count-gt-MOST_PATCHES c = grind (arith, common_steps)

pub returns : goal.returns
unfolding begun
returns c = grind (arith, common_steps)
