use Rattle.std.proofs.Common.{sym, ◌∙◌}
use Rattle.std.proofs.lemmas.Bool.{eqb-true}
use Rattle.lp_cert.proofs.BareLines.{bare_lines}
use Rattle.lp_cert.proofs.head.Head.is_bare.Goals as goal

pub returns-in-Nothing : goal.returns-in-Nothing
returns-in-Nothing c = λ yes. bare_lines c.args.chains.now.lists c.args.self c.in-Nothing.is (sym c.count.ensures.all ∙ eqb-true c.count.result 0 yes)
