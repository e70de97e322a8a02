use Rattle.lp_checker.proofs.Members.{member-counts}
use Rattle.lp_checker.proofs.fold.Fold.has_member.Goals as goal

pub returns : goal.returns
returns c = member-counts c.args.self.now.tasks c.args.self.now.patches c.members.ensures.wide c.members.ensures.nobody c.args.group.0 c.members.result c.members.ensures.value
