use Rattle.lp_stack.specs.TaskView.{seen}
use Rattle.lp_patch.specs.Aimed.{aimed}
use Rattle.lp_model.specs.inside.RowLaws.{admits_unblamed}
use Rattle.lp_models.proofs.row.admits.Goals as goal

pub returns : goal.returns
returns g c = admits_unblamed g.M.Row.table c.args._kind (seen c.args._view.now) (aimed c.args._aim.now) c.args.blame c.is_none.result c.requires c.is_none.ensures
