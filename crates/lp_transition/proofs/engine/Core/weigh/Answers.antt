use Rattle.std.proofs.Common.{◌<◌, sym, ap, ◌∙◌, arith}
use Rattle.std.proofs.lemmas.Grind.{common_steps}
use Rattle.lp_transition.specs.Weigh.{Weighed}
use Rattle.lp_machine.specs.Table.{Engine, state_in}
use Rattle.lp_machine.proofs.EngineLemmas.{answer-refused}
use Rattle.lp_transition.proofs.Weighing.{weighed-as}
use Rattle.lp_transition.proofs.Replies.{weighed_reply}
use Rattle.lp_machine_laws.proofs.Runs.{is_reply}
use Rattle.lp_transition.specs.inside.Invariant.{told_scan}
use Rattle.lp_transition.proofs.engine.Core.weigh.Goals as goal

pub returns-in-Some-clause-weighed : goal.returns-in-Some-clause-weighed
returns-in-Some-clause-weighed g c =
    let i = c.self.inside in
    let e : Engine = record { number = i.events; from = i.from.0; target = i.target.0; patches = i.patches; table = i.tasks; blames = i.blames; last_scan = told_scan i.unchanged } in
    let room : e.number < 1000000 = omega (arith, c.if-self-ge-MOST_EVENTS.false) in
    let refused = rw (← c.self.view_is) at (sym c.refusal.ensures ∙ c.in-Some.is) in
    rw (← c.self.view_is)
    (weighed-as g.M.Consistency.rules e c.plain.result c.args.event c.refused.result c.requires room c.plain.ensures (c.refused.ensures ∙ sym (answer-refused g.M.Consistency.rules (state_in e) c.args.event c.in-Some.why refused)))

pub returns-in-Some-clause-reply : goal.returns-in-Some-clause-reply
returns-in-Some-clause-reply g c = weighed_reply g.M.Consistency.rules g.met.M.Consistency.lawful c.args.self.now c.plain.result c.args.event (returns-in-Some-clause-weighed g c) (ap (λ (w : Weighed). w.event) c.plain.ensures)

pub returns-clause-reply : goal.returns-clause-reply
returns-clause-reply g c = is_reply g.M.Consistency.rules g.met.M.Consistency.lawful (state_in c.args.self.now) c.args.event c.plain-2.result.reply (ap (λ (w : Weighed). w.reply) c.plain-2.ensures ∙ c.in_ok-reply.ensures.answer)

pub returns-clause-weighed : goal.returns-clause-weighed
returns-clause-weighed g c = grind (arith, common_steps)
