use Rattle.std.proofs.Common.{ℕ, ◌-◌, pred, Option, ap, ◌∙◌}
use Rattle.std.specs.Option.{option_map}
use Rattle.lp_definitions.specs.declared.event.Event.{Event}
use Rattle.lp_definitions.specs.Leg.{accepted, after}
use Rattle.lp_checker.specs.inside.Births.{group_in, group_or_0, is_own_fork, group_now}
use Rattle.lp_checker.specs.inside.Cursors.{leg_in}
use Rattle.lp_checker.proofs.BirthLines.{own_as, pred_is}
use Rattle.lp_checker.proofs.births.is_birth.Goals as goal

pub returns-clause-birth : goal.returns-clause-birth
returns-clause-birth g c =
    let model = g.M.Consistency.rules in
    let leg = leg_in c.args.cursor.now.range in
    let birth = c.args.birth in
    let own = c.group_of-own.result in
    let place : ℕ = birth.moment - 1 in
    let fate = after model leg place birth.parent.0 in
    let its_own = rw (c.go_to.ensures.range, c.in_ok-go_to.ensures.moment) at c.group_of-own.ensures in
    let event = rw (c.go_to-2.ensures.range, c.go_to.ensures.range, c.in_ok-go_to-2.ensures.moment) at c.event.ensures in
    let asked = λ (k : ℕ). is_own_fork model (accepted model leg (pred birth.moment)) (group_in (after model leg k birth.parent.0)) (group_now c.args.from (group_or_0 (after model leg k birth.parent.0))) birth.group.0 birth.parent.0 in
    c.is_own_fork.ensures
    ∙ ap (λ (o : Option Event). is_own_fork model o (option_map (λ g. g.0) own) (group_now c.args.from (group_now own 0)) birth.group.0 birth.parent.0) event
    ∙ ap (λ (o : Option ℕ). is_own_fork model (accepted model leg (pred birth.moment)) o (group_now c.args.from (group_now own 0)) birth.group.0 birth.parent.0) its_own
    ∙ ap (λ (n : ℕ). is_own_fork model (accepted model leg (pred birth.moment)) (group_in fate) (group_now c.args.from n) birth.group.0 birth.parent.0) (own_as own fate its_own)
    ∙ ap asked (pred_is birth.moment)
