use Rattle.std.proofs.Common.{◌≡◌, ℕ, IsSome, is_some, sym, ap, subst, ◌∙◌}
use Rattle.std.proofs.lemmas.Bool.{false≢true}
use Rattle.lp_definitions.specs.declared.reply.Reply.{Reply}
use Rattle.lp_transition.specs.Weigh.{refusal_in}
use Rattle.lp_transition.specs.inside.ScanSteps.{groups_of}
use Rattle.lp_cert.specs.inside.OwnEffects.{HasEffectRoom, IsTold, after_effect}
use Rattle.lp_cert.specs.inside.Waiters.{after_switch, lines_at, own_lines}
use Rattle.lp_cert.proofs.LegSteps.{gone_stepped, over_stepped}
use Rattle.lp_cert.proofs.OwnEffects.{left_accepted, left_refused}
use Rattle.lp_cert.proofs.maker.plain.affect_leg.Goals as goal

pub returns-then-is_over : goal.returns-then-is_over
returns-then-is_over c = λ model e step has_frame none lines told few is.
    over_stepped model e step _ _ _ _ _ (ap (λ (r : Reply). r.completed) is) _ (sym c.is_over.ensures.over ∙ c.if-is_over.true) c.is_over.ensures.complete c.is_over.ensures.completes

pub returns-then-is_refused : goal.returns-then-is_refused
returns-then-is_refused c = λ model e step has_frame none lines told few is.
    let refused = sym (c.is_refused.ensures ∙ ap (λ (r : Reply). is_some (refusal_in r.what)) is) ∙ c.if-is_refused.true in
    gone_stepped model e step _ _ _ _ _ (ap (λ (r : Reply). r.completed) is) c.is_over.new.waiters _ (sym c.is_over.ensures.over ∙ c.if-is_over.false) (c.is_over.ensures.goes_on c.if-is_over.false)
    (λ group. left_refused model e step c.is_over.new.waiters group refused)
    (λ accepted. few) (λ used accepted. absurd (false≢true (subst IsSome none used)))

pub returns : goal.returns
returns c = λ model e step has_frame none lines told few is.
    let same = sym (c.is_over.ensures.goes_on c.if-is_over.false).1 in
    let told_still = subst (IsTold has_frame c.args.effect.now) same told in
    let lines_still = subst (λ w. (group : ℕ) → own_lines model e step.event step.verdicts (lines_at w) group ≡ after_effect has_frame c.args.effect.now (lines_at w) group) same lines in
    let accepted = sym (c.is_refused.ensures ∙ ap (λ (r : Reply). is_some (refusal_in r.what)) is) ∙ c.if-is_refused.false in
    gone_stepped model e step _ _ _ _ _ (ap (λ (r : Reply). r.completed) is) c.is_over.new.waiters _ (sym c.is_over.ensures.over ∙ c.if-is_over.false) (c.is_over.ensures.goes_on c.if-is_over.false)
    (λ group.
    c.switch.ensures group
    ∙ (ap (λ (r : Reply). after_switch (groups_of r.what) (lines_at c.have_effect.new.self) group) is
    ∙ left_accepted model e step none c.is_over.new.waiters group (lines_at c.have_effect.new.self group) (lines_still group ∙ sym (c.have_effect.ensures has_frame told_still group)) accepted))
    (λ accepted. few) (λ used accepted. absurd (false≢true (subst IsSome none used)))

pub have_effect-requires : goal.have_effect-requires
have_effect-requires c = subst (HasEffectRoom c.args.effect.now) (sym (c.is_over.ensures.goes_on c.if-is_over.false).1) c.requires
