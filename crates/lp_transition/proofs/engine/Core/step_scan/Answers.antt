use Rattle.std.proofs.Common.{subst, rules}
use Rattle.lp_transition.specs.Weigh.{HasBlamesAfter}
use Rattle.lp_transition.proofs.engine.Core.step_scan.Goals as goal

pub returns-clause-blames : goal.returns-clause-blames
returns-clause-blames g c =
    subst (λ event. HasBlamesAfter g.M.Consistency.rules c.args.self.now event c.take.new.self) c.in_ok-step.ensures.event
    (record { verdicts = c.in_ok-step.step.verdicts; enough = c.in_ok-step.ensures.weighed.verdicts; blames = c.take.ensures.blames })

pub returns-clause-step : goal.returns-clause-step
returns-clause-step g c = search rules
