use Rattle.std.proofs.Common.{◌<◌, ℕ, false, sym, ap, ◌∙◌, arith}
use Rattle.lp_definitions.specs.declared.reply.Reply.{Reply}
use Rattle.lp_definitions.specs.declared.reply.What.TheVariants.{Ran}
use Rattle.lp_transition.proofs.Weighing.{answer-call}
use Rattle.lp_transition.specs.inside.Invariant.{told_scan}
use Rattle.lp_transition.proofs.engine.Core.answer_call.Goals as goal

pub returns : goal.returns
returns g c =
    let i = c.self.inside in
    let h : c.args.task.0 < 65536 = omega arith in
    let answered = answer-call g.M.Consistency.rules g.met.M.Consistency.lawful (record { number = i.events; from = i.from.0; target = i.target.0; patches = i.patches; table = i.tasks; blames = i.blames; last_scan = told_scan i.unchanged }) i.waiting c.self.invariant.engine (rw (← c.self.view_is) at c.requires.room) c.args.task c.args.func h (rw (← c.self.view_is) at c.requires.accepted) in
    rw (← c.self.view_is) (ap {A = ℕ} {B = Reply} (λ level. record { what = Ran (record { 0 = level }); completed = false }) c.level_of.ensures ∙ sym answered)
