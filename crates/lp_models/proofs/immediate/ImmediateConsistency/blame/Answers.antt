use Rattle.lp_stack.specs.TaskView.{seen}
use Rattle.lp_patch.specs.Aimed.{aimed}
use Rattle.lp_model.specs.inside.RowLaws.{blames_nobody}
use Rattle.lp_models.specs.Models.{immediate}
use Rattle.lp_models.specs.inside.ModelLaws.{admits_all}
use Rattle.lp_models.proofs.immediate.ImmediateConsistency.blame.Goals as goal

pub returns : goal.returns
returns c = let view = seen c.args._view.now in let aim = aimed c.args._aim.now in blames_nobody immediate c.args._kind view aim (admits_all c.args._kind view aim)
