use Rattle.std.proofs.Common.{sym, ◌∙◌}
use Rattle.lp_checker.proofs.Members.{alone-counts}
use Rattle.lp_checker.proofs.fold.Fold.is_alone.Goals as goal

pub returns : goal.returns
returns c = alone-counts c.args.self.now.tasks c.args.self.now.patches c.members.ensures.wide c.members.ensures.nobody c.args.group.0 c.args.task.0 c.members.result c.in-Some.live.now (sym c.in-Some.ensures.value) (sym c.group.ensures ∙ c.if-group.false) c.members.ensures.value
