use Rattle.std.proofs.Common.{◌≡◌, is_none, sym, ap, ◌∙◌}
use Rattle.std.proofs.lemmas.Bool.{and_parts}
use Rattle.lp_definitions.specs.Events.{is_control}
use Rattle.lp_definitions.specs.declared.reply.Reply.{Reply}
use Rattle.lp_machine.specs.Machine.{refusal_of}
use Rattle.lp_machine.specs.Table.{state_in}
use Rattle.lp_transition.specs.Weigh.{refusal_in}
use Rattle.lp_transition.proofs.Weighing.{refused-as}
use Rattle.lp_cert.proofs.Making.{none_is}
use Rattle.lp_cert.proofs.maker.opened.Goals as goal

pub new_level-requires-clause-accepted : goal.new_level-requires-clause-accepted
new_level-requires-clause-accepted g c =
    let model = g.M.Consistency.rules in
    let s = state_in c.args.core.now in
    let step = c.args.step.now in
    let both = and_parts (is_control step.event) (is_none (refusal_in step.reply.what)) c.requires.opens in
    let told : refusal_in step.reply.what ≡ refusal_of model s step.event = ap (λ (r : Reply). refusal_in r.what) c.requires.weighed.reply ∙ refused-as model s step.event in
    ap (refusal_of model s) c.event.ensures ∙ (sym told ∙ none_is (refusal_in step.reply.what) both.1)
