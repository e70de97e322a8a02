use Rattle.std.proofs.Common.{ap, drop, sym, ◌∙◌, arith}
use Rattle.lp_cert.proofs.chains.Chains.older.Goals as goal

pub returns-in-None-clause-list : goal.returns-in-None-clause-list
returns-in-None-clause-list c = let empty = c.in-None.ensures.none.empty in empty ∙ ap (drop 1) (sym empty)

pub returns-in-Some-clause-before : goal.returns-in-Some-clause-before
returns-in-Some-clause-before c = λ _. c.in-Some.ensures.some.linked.older

pub returns-in-Some-clause-known : goal.returns-in-Some-clause-known
returns-in-Some-clause-known c = omega (arith, c.in-Some.ensures.some.linked.older, c.requires)

pub returns-in-Some-clause-list : goal.returns-in-Some-clause-list
returns-in-Some-clause-list c = ap (drop 1) (sym c.in-Some.ensures.some.list)
