use Rattle.std.proofs.Common.{false, nat_eq, sym, ap, ◌∙◌}
use Rattle.std.specs.List.{list_any}
use Rattle.lp_stack.specs.TaskView.{TaskView}
use Rattle.lp_definitions.specs.Tasks.{Fate, on_live}
use Rattle.lp_definitions.specs.Leg.{LegTask}
use Rattle.lp_tasks.proofs.TableLemmas.{live_from_slot}
use Rattle.lp_checker.proofs.fold.Fold.has_frame.Goals as goal

pub returns : goal.returns
returns c =
    let has = λ (x : LegTask). list_any (λ frame. nat_eq frame.serial c.args.serial) x.frames in
    let live = live_from_slot c.args.self.now.tasks c.args.task.0 c.in-Some.live.now (sym c.in-Some.ensures.value) in
    c.has_serial.ensures
    ∙ ap (λ (v : TaskView). list_any (λ frame. nat_eq frame.serial c.args.serial) v.frames) c.view.ensures
    ∙ sym (ap (λ (fate : Fate LegTask). on_live false has fate) live)
