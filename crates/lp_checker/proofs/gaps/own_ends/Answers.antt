use Rattle.std.proofs.Common.{nat_le, ap, ◌∙◌, arith}
use Rattle.std.proofs.lemmas.Grind.{common_steps}
use Rattle.std.proofs.lemmas.Bool.{lt-leb}
use Rattle.lp_checker.proofs.gaps.own_ends.Goals as goal

pub loop-line-init : goal.loop-line-init
loop-line-init c = record {
  all = omega (arith, c.in_ok-ends.ensures.count);
  ends = λ place moment le lt. ap (nat_le moment) (c.in_ok-ends.ensures.zero place) ∙ lt-leb moment 0 lt;
}

pub loop-line-preserved : goal.loop-line-preserved
loop-line-preserved c = grind (arith, common_steps)

pub loop-line-preserved-in_default : goal.loop-line-preserved-in_default
loop-line-preserved-in_default c = grind (arith, common_steps)

pub returns-clause-ends : goal.returns-clause-ends
returns-clause-ends c = grind (arith, common_steps)
