use Rattle.std.proofs.Common.{◌≡◌, map, take}
use Rattle.std.specs.List.{filter}
use Rattle.lp_stack.specs.TaskView.{seen}
use Rattle.lp_machine.specs.Table.{state_in}
use Rattle.lp_transition.specs.Blames.{is_open}
use Rattle.lp_transition.specs.Scan.{is_asked}
use Rattle.lp_transition.proofs.engine.Core.open_views.Given as goal

-- of the views so far, those of open groups
abbrev pub invariant-loop-view : goal.invariant-loop-view
invariant-loop-view g l = map seen l.kept.items ≡ filter (λ view. is_asked (state_in l.self) (is_open l.self) view.task) (map seen (take l.view-index l.view-items))
