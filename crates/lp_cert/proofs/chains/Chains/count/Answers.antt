use Rattle.std.proofs.Common.{ap, length, sym, ◌∙◌}
use Rattle.lp_cert.proofs.chains.Chains.count.Goals as goal

pub returns-in-None-clause-all : goal.returns-in-None-clause-all
returns-in-None-clause-all c = ap length (sym c.in-None.ensures.none.empty)

pub returns-in-Some-clause-all : goal.returns-in-Some-clause-all
returns-in-Some-clause-all c = c.in-Some.ensures.some.linked.count ∙ ap length (sym c.in-Some.ensures.some.list)

pub returns-in-Some-clause-few : goal.returns-in-Some-clause-few
returns-in-Some-clause-few c = c.in-Some.ensures.some.linked.few
