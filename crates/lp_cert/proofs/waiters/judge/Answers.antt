use Rattle.std.proofs.Common.{◌≡◌, ◌<◌, subst, sym, ◌∙◌, arith}
use Rattle.std.proofs.lemmas.Grind.{common_steps}
use Rattle.lp_cert.specs.declared.head.Head.{Head}
use Rattle.lp_cert.specs.inside.Heads.{HasFrameAs}
use Rattle.lp_transition.specs.Blames.{has_frame_in}
use Rattle.lp_machine.specs.Table.{state_in}
use Rattle.lp_cert.specs.inside.Waiters.{is_left}
use Rattle.lp_cert.proofs.HeadLemmas.{frame_as}
use Rattle.lp_cert.proofs.WaiterLemmas.{grouped, judges, not_left, others_left, blameless_judged, other_judged}
use Rattle.lp_cert.proofs.waiters.judge.Goals as goal

pub returns : goal.returns
returns g c =
    let group = c.in-Some-group_of.group in
    let s = state_in c.args.core.now in
    let mine = grouped c.args.core.now.table c.args.verdict.now.task.0 group c.in-Some-group_of.ensures in
    let left : is_left c.args.waiting.now c.args.refused.now group.0 ≡ c.is_left.result = sym c.is_left.ensures in
    let waits = left ∙ c.if-not-is_left.false in
    let few : group.0 < 65536 = omega arith in
    judges s c.args.at c.args.verdict.now c.in-Some.blame group c.is_held.result (is_left c.args.waiting.now c.args.refused.now) (is_left c.args.waiting.now c.insert.new.self) c.args.reasons.now c.refuse.new.self
    mine c.in-Some.is waits (subst (λ (h : Head). HasFrameAs (has_frame_in s) h.ongoing c.is_held.result) c.head.ensures (frame_as (has_frame_in s) _ c.is_held.result c.is_held.ensures)) c.refuse.ensures.refused c.refuse.ensures.others c.refuse.ensures.scans c.refuse.ensures.room c.refuse.ensures.scan_room
    (not_left c.args.waiting.now c.args.refused.now c.insert.new.self group.0 c.insert.ensures.after c.insert.ensures.numbers few) (others_left c.args.waiting.now c.args.refused.now c.insert.new.self group.0 c.insert.ensures.after)

pub refuse-requires-clause-head : goal.refuse-requires-clause-head
refuse-requires-clause-head g c = grind (arith, common_steps)

pub refuse-requires-clause-used : goal.refuse-requires-clause-used
refuse-requires-clause-used g c = grind (arith, common_steps)

pub returns-then-not-is_left : goal.returns-then-not-is_left
returns-then-not-is_left g c =
    let group = c.in-Some-group_of.group in
    let left : is_left c.args.waiting.now c.args.refused.now group.0 ≡ c.is_left.result = sym c.is_left.ensures in
    other_judged (state_in c.args.core.now) c.args.at c.args.verdict.now (is_left c.args.waiting.now c.args.refused.now) c.args.reasons.now c.in-Some.blame group
    (grouped c.args.core.now.table c.args.verdict.now.task.0 group c.in-Some-group_of.ensures) c.in-Some.is (left ∙ c.if-not-is_left.true)

pub returns-in_default : goal.returns-in_default
returns-in_default g c = blameless_judged (state_in c.args.core.now) c.args.at c.args.verdict.now (is_left c.args.waiting.now c.args.refused.now) c.args.reasons.now c.in_default.is
