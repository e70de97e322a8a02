use Rattle.std.proofs.Common.{sym, ◌∙◌}
use Rattle.lp_machine.specs.Table.{state_in}
use Rattle.lp_machine_laws.proofs.Runs.{is_step}
use Rattle.lp_machine.proofs.EngineLemmas.{answer-refused}
use Rattle.lp_transition.proofs.engine.Core.step_plain.Goals as goal

pub returns-in-Some-clause-step : goal.returns-in-Some-clause-step
returns-in-Some-clause-step g c =
    let s = state_in c.args.self.now in
    is_step g.M.Consistency.rules g.met.M.Consistency.lawful s (state_in c.take_refused.new.self) c.args.event c.refused.result (c.refused.ensures ∙ sym (answer-refused g.M.Consistency.rules s c.args.event c.in-Some.why (sym c.refusal.ensures ∙ c.in-Some.is))) c.take_refused.ensures.state

pub returns-clause-step : goal.returns-clause-step
returns-clause-step g c = is_step g.M.Consistency.rules g.met.M.Consistency.lawful (state_in c.args.self.now) (state_in c.take_accepted.new.self) c.args.event c.in_ok-reply.reply c.in_ok-reply.ensures.answer c.take_accepted.ensures.state
