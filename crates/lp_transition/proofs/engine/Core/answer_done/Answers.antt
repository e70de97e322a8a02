use Rattle.std.proofs.Common.{◌<◌, sym, ◌∙◌, arith}
use Rattle.lp_transition.specs.Weigh.{done_task}
use Rattle.lp_transition.proofs.Weighing.{answer-done}
use Rattle.lp_transition.specs.inside.Invariant.{told_scan}
use Rattle.lp_transition.proofs.engine.Core.answer_done.Goals as goal

pub returns : goal.returns
returns g c =
    let i = c.self.inside in
    let h : done_task c.args.event < 65536 = omega (arith, c.requires.task) in
    rw (← c.self.view_is) (c.done.ensures ∙ sym (answer-done g.M.Consistency.rules g.met.M.Consistency.lawful (record { number = i.events; from = i.from.0; target = i.target.0; patches = i.patches; table = i.tasks; blames = i.blames; last_scan = told_scan i.unchanged }) i.waiting c.self.invariant.engine (rw (← c.self.view_is) at c.requires.room) c.args.event c.requires.is_answered_done h (rw (← c.self.view_is) at c.requires.accepted)))
