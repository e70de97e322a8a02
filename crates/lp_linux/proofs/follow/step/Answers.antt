use Rattle.std.proofs.Common.{◌≡◌, ◌&&◌, if◌then◌else◌, Bool, true, false, not, refl, sym, ap, ◌∙◌}
use Rattle.lp_definitions.specs.Leg.{State}
use Rattle.lp_machine.specs.Machine.{complete_in}
use Rattle.lp_machine.specs.Table.{state_in}
use Rattle.lp_linux.specs.Reading.{heard_late}
use Rattle.lp_linux.specs.Followed.{is_moving, patch_state_of, is_walk, target_state_after}
use Rattle.lp_linux.proofs.Following.{kernel_steps, walk_not}
use Rattle.lp_linux.proofs.follow.step.Goals as goal
use Rattle.lp_linux.proofs.follow.step.Goals.{in-Walk, in_default}

not_not : (b : Bool) → not (not b) ≡ b
not_not true = refl
not_not false = refl

pub returns-clause-step : goal.returns-clause-step
returns-clause-step c =
    let target = c.args.target.now in
    let event = c.args.event in
    let s : State = state_in c.args.core.now in
    let s' : State = state_in c.step.new.self in
    let walk_is : c.match-matches.matches ≡ is_walk event = elim c.match-matches.branch [ in-Walk w ↦ w.matches-is ∙ ap is_walk (sym w.in-Walk.is) | in_default w ↦ w.matches-is ∙ sym (walk_not event w.in_default.not-Walk) ] in
    λ release r of is.
    kernel_steps release r target c.next_target.result s s' event c.heard-told.result c.in_ok-reply.reply c.match-matches.matches
    (c.heard-told.ensures ∙ ap (λ b. if is_moving target && b then heard_late (patch_state_of target) event else event) (ap not c.in_transition.ensures ∙ not_not (complete_in s)))
    c.in_ok-reply.ensures.step
    walk_is
    (c.next_target.ensures
    ∙ (ap (λ n. target_state_after target c.match-matches.matches n c.target-after.result.0 (not c.in_transition-2.result)) c.target-before.ensures
    ∙ (ap (λ n. target_state_after target c.match-matches.matches s.target n (not c.in_transition-2.result)) c.target-after.ensures
    ∙ ap (λ b. target_state_after target c.match-matches.matches s.target s'.target b) (ap not c.in_transition-2.ensures ∙ not_not (complete_in s')))))
    of
    is
