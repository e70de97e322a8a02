use Rattle.std.proofs.Common.{subst, sym}
use Rattle.lp_cert.specs.inside.Chains.{IsLineCount}
use Rattle.lp_cert.proofs.ChainLemmas.{no_lines}
use Rattle.lp_cert.proofs.chains.Chains.lines.Goals as goal

pub returns-in-None-clause-all : goal.returns-in-None-clause-all
returns-in-None-clause-all c = no_lines _ c.in-None.ensures.none.empty

pub returns-in-Some-clause-all : goal.returns-in-Some-clause-all
returns-in-Some-clause-all c = subst (λ list. IsLineCount list c.in-Some.entry.now.lines) (sym c.in-Some.ensures.some.list) c.in-Some.ensures.some.linked.lines
