use Rattle.lp_stack.specs.TaskView.{seen}
use Rattle.lp_patch.specs.Aimed.{aimed}
use Rattle.lp_model.specs.inside.RowLaws.{admits_unblamed}
use Rattle.lp_process.specs.Models.{process_group}
use Rattle.lp_process.proofs.process_group.ProcessGroupConsistency.admits.Goals as goal

pub returns : goal.returns
returns c = admits_unblamed process_group c.args.kind (seen c.args.view.now) (aimed c.args.aim.now) c.blame.result c.is_none.result c.blame.ensures c.is_none.ensures
