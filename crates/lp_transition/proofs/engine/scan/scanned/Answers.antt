use Rattle.std.proofs.Common.{sym, ◌∙◌}
use Rattle.lp_transition.proofs.ScanAnswers.{still}
use Rattle.lp_transition.proofs.engine.scan.scanned.Goals as goal

pub returns-then-not-any_admits : goal.returns-then-not-any_admits
returns-then-not-any_admits c = still c.args.tasks.now 65536 c.args.verdicts.now (sym c.any_admits.ensures ∙ c.if-not-any_admits.true)
