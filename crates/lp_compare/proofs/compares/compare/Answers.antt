use Rattle.std.proofs.lemmas.Result.{IfOk-weaker}
use Rattle.lp_compare.proofs.FirstEnable.{leg_is, same_leg}
use Rattle.lp_compare.proofs.NoLater.{hybrid_no_later, immediate_no_later}
use Rattle.lp_compare.proofs.compares.compare.Goals as goal

pub returns-clause-leg : goal.returns-clause-leg
returns-clause-leg c =
    IfOk-weaker c.compared.result _ _ (λ found same. leg_is c.args.trace.now c.compared.ensures.limits found same) c.compared.ensures.comparison

pub returns-clause-same : goal.returns-clause-same
returns-clause-same c =
    IfOk-weaker c.compared.result _ _ (λ found same. same_leg c.args.trace.now c.compared.ensures.limits found same) c.compared.ensures.comparison

pub returns-clause-hybrid : goal.returns-clause-hybrid
returns-clause-hybrid c =
    IfOk-weaker c.compared.result _ _ (λ found same. hybrid_no_later c.args.trace.now c.compared.ensures.limits found same) c.compared.ensures.comparison

pub returns-clause-immediate : goal.returns-clause-immediate
returns-clause-immediate c =
    IfOk-weaker c.compared.result _ _ (λ found same. immediate_no_later c.args.trace.now c.compared.ensures.limits found same) c.compared.ensures.comparison
