use Rattle.std.proofs.Common.{ap, not}
use Rattle.std.specs.Bool.{one_answer}
use Rattle.lp_machine.specs.Table.{state_in}
use Rattle.lp_machine.specs.Machine.{complete_in}
use Rattle.lp_tasks.proofs.TableLemmas.{slot-zero}
use Rattle.lp_tasks.proofs.MemberLemmas.{on_target}
use Rattle.lp_transition.specs.inside.Invariant.{told_scan}
use Rattle.lp_transition.proofs.engine.Core.in_transition.Goals as goal

pub returns : goal.returns
returns g c =
    let i = c.self.inside in
    let k = c.self.invariant.engine in
    let empty = slot-zero (record { number = i.events; from = i.from.0; target = i.target.0; patches = i.patches; table = i.tasks; blames = i.blames; last_scan = told_scan i.unchanged }) k.sound in
    let on_target = on_target i.tasks i.patches k.wide empty i.waiting i.target.0 k.waits in
    rw (← c.self.view_is) (ap not (one_answer c.is_empty.result (complete_in (state_in (record { number = i.events; from = i.from.0; target = i.target.0; patches = i.patches; table = i.tasks; blames = i.blames; last_scan = told_scan i.unchanged }))) (c.is_empty.ensures.0, c.is_empty.ensures.1) (on_target.1, on_target.0)))
