use Rattle.std.proofs.Common.{sym}
use Rattle.lp_transition.proofs.Weighing.{answer-die}
use Rattle.lp_transition.specs.inside.Invariant.{told_scan}
use Rattle.lp_transition.proofs.engine.Core.answer_die.Goals as goal

pub returns : goal.returns
returns g c =
    let i = c.self.inside in
    rw (← c.self.view_is) (sym (answer-die g.M.Consistency.rules g.met.M.Consistency.lawful (record { number = i.events; from = i.from.0; target = i.target.0; patches = i.patches; table = i.tasks; blames = i.blames; last_scan = told_scan i.unchanged }) i.waiting c.self.invariant.engine (rw (← c.self.view_is) at c.requires.room) c.args.task c.is_only.result (rw (← c.self.view_is) at c.requires.accepted) c.is_only.ensures))
