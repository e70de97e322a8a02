use Rattle.std.proofs.Common.{ap, sym, ◌∙◌, refl, get_or, arith}
use Rattle.std.proofs.lemmas.Grind.{common_steps}
use Rattle.lp_stays.specs.Invariant.{outside, place}
use Rattle.lp_stays.proofs.Stepping.{all_outside, started}
use Rattle.lp_stays.proofs.count.StayCount.new.Goals as goal

pub returns-clause-first : goal.returns-clause-first
returns-clause-first c = λ model run patches tasks events. started model run _ (c.in_ok-patches.ensures ∙ sym patches) tasks events refl refl refl (λ below t. ap (λ xs. get_or xs (place below t) outside) c.in_ok-present.ensures ∙ all_outside _ (place below t))

pub invariant_of-result : goal.invariant_of-result
invariant_of-result c = grind (arith, common_steps)
