use Rattle.std.proofs.Common.{◌≡◌, false, [], sym, ap, subst, ◌∙◌}
use Rattle.lp_definitions.specs.Events.{is_scan}
use Rattle.lp_transition.specs.Blames.{AreBlamesAfter}
use Rattle.lp_transition.specs.LastScan.{IsLastScanAfter}
use Rattle.lp_transition.proofs.BlamedScans.{no_verdicts}
use Rattle.lp_definitions.specs.declared.reply.Reply.{Reply}
use Rattle.lp_machine.specs.Table.{state_in}
use Rattle.lp_transition.specs.Weigh.{refusal_in}
use Rattle.lp_machine.specs.Machine.{next}
use Rattle.lp_machine_laws.proofs.Runs.{is_step}
use Rattle.lp_transition.proofs.Weighing.{refused-as}
use Rattle.lp_transition.proofs.engine.Core.take.Goals as goal

pub returns-then-is_scan-clause-step : goal.returns-then-is_scan-clause-step
returns-then-is_scan-clause-step g c =
    is_step g.M.Consistency.rules g.met.M.Consistency.lawful (state_in c.args.self.now) (state_in c.take_scan.new.self) c.args.step.event c.into_reply.result (c.into_reply.ensures ∙ c.requires.reply) c.take_scan.ensures.state

pub take_refused-requires-clause-refused : goal.take_refused-requires-clause-refused
take_refused-requires-clause-refused g c =
    rw c.event-event.ensures
    (sym (refused-as g.M.Consistency.rules (state_in c.args.self.now) c.args.step.event)
    ∙ sym (ap (λ (r : Reply). refusal_in r.what) (c.into_reply-reply.ensures ∙ c.requires.reply))
    ∙ sym c.refusal_in.ensures ∙ c.in-Some.is)

pub take_accepted-requires-clause-accepted : goal.take_accepted-requires-clause-accepted
take_accepted-requires-clause-accepted g c =
    rw c.event-event.ensures
    (sym (refused-as g.M.Consistency.rules (state_in c.args.self.now) c.args.step.event)
    ∙ sym (ap (λ (r : Reply). refusal_in r.what) (c.into_reply-reply.ensures ∙ c.requires.reply))
    ∙ sym c.refusal_in.ensures ∙ c.in-None.is)

pub returns-in-Some-clause-step : goal.returns-in-Some-clause-step
returns-in-Some-clause-step g c =
    let went = c.take_refused.ensures.state ∙ ap (next g.M.Consistency.rules (state_in c.args.self.now)) c.event-event.ensures in
    is_step g.M.Consistency.rules g.met.M.Consistency.lawful (state_in c.args.self.now) (state_in c.take_refused.new.self) c.args.step.event c.into_reply-reply.result (c.into_reply-reply.ensures ∙ c.requires.reply) went

pub returns-in-Some-clause-blames : goal.returns-in-Some-clause-blames
returns-in-Some-clause-blames g c =
    let rules = g.M.Consistency.rules in
    let old = c.args.self.now in
    let plain : is_scan c.args.step.event ≡ false = ap is_scan (sym c.event-event.ensures) ∙ (sym c.is_scan.ensures ∙ c.if-is_scan.false) in
    let none : c.args.step.verdicts ≡ [] = no_verdicts rules (state_in old) c.args.step.event c.args.step.verdicts plain c.requires.verdicts in
    let went = subst (λ event. AreBlamesAfter rules old event [] c.take_refused.new.self) c.event-event.ensures c.take_refused.ensures.blames in
    subst (λ vs. AreBlamesAfter rules old c.args.step.event vs c.take_refused.new.self) (sym none) went

pub returns-in-Some-clause-last_scan : goal.returns-in-Some-clause-last_scan
returns-in-Some-clause-last_scan g c =
    subst (λ event. IsLastScanAfter g.M.Consistency.rules c.args.self.now event c.take_refused.new.self) c.event-event.ensures c.take_refused.ensures.last_scan

pub returns-in-None-clause-step : goal.returns-in-None-clause-step
returns-in-None-clause-step g c =
    let went = c.take_accepted.ensures.state ∙ ap (next g.M.Consistency.rules (state_in c.args.self.now)) c.event-event.ensures in
    is_step g.M.Consistency.rules g.met.M.Consistency.lawful (state_in c.args.self.now) (state_in c.take_accepted.new.self) c.args.step.event c.into_reply-reply.result (c.into_reply-reply.ensures ∙ c.requires.reply) went

pub returns-in-None-clause-blames : goal.returns-in-None-clause-blames
returns-in-None-clause-blames g c =
    let rules = g.M.Consistency.rules in
    let old = c.args.self.now in
    let plain : is_scan c.args.step.event ≡ false = ap is_scan (sym c.event-event.ensures) ∙ (sym c.is_scan.ensures ∙ c.if-is_scan.false) in
    let none : c.args.step.verdicts ≡ [] = no_verdicts rules (state_in old) c.args.step.event c.args.step.verdicts plain c.requires.verdicts in
    let went = subst (λ event. AreBlamesAfter rules old event [] c.take_accepted.new.self) c.event-event.ensures c.take_accepted.ensures.blames in
    subst (λ vs. AreBlamesAfter rules old c.args.step.event vs c.take_accepted.new.self) (sym none) went

pub returns-in-None-clause-last_scan : goal.returns-in-None-clause-last_scan
returns-in-None-clause-last_scan g c =
    subst (λ event. IsLastScanAfter g.M.Consistency.rules c.args.self.now event c.take_accepted.new.self) c.event-event.ensures c.take_accepted.ensures.last_scan
