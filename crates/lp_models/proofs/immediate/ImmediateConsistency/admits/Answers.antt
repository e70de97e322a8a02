use Rattle.std.proofs.Common.{sym}
use Rattle.lp_stack.specs.TaskView.{seen}
use Rattle.lp_patch.specs.Aimed.{aimed}
use Rattle.lp_models.specs.inside.ModelLaws.{admits_all}
use Rattle.lp_models.proofs.immediate.ImmediateConsistency.admits.Goals as goal

pub returns : goal.returns
returns c = sym (admits_all c.args._kind (seen c.args._view.now) (aimed c.args._aim.now))
