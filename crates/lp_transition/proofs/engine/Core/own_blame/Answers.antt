use Rattle.std.proofs.Common.{◌≡◌, ℕ, [], true, false, Option, Some, None, if◌then◌else◌, refl, sym, ap, ap₂, subst, ◌∙◌}
use Rattle.lp_model.specs.declared.check.Blame.{Blame}
use Rattle.lp_model.specs.declared.check.CheckKind.{CheckKind}
use Rattle.lp_model.specs.declared.check.CheckKind.TheVariants as kind
use Rattle.lp_machine.specs.declared.standing_blame.StandingBlame.{StandingBlame}
use Rattle.lp_stack.specs.TaskView.{TaskView, seen}
use Rattle.lp_patch.specs.Aimed.{aimed}
use Rattle.lp_patch.specs.Patches.{Aim}
use Rattle.lp_definitions.specs.Leg.{LegTask}
use Rattle.lp_machine.specs.Machine.{view_of}
use Rattle.lp_machine.specs.Table.{Engine, slot, state_in}
use Rattle.lp_tasks.specs.inside.OwnChecks.{own_check_event}
use Rattle.lp_tasks.specs.inside.Table.{is_in}
use Rattle.lp_transition.specs.Blames.{refused_first, frame_blame}
use Rattle.lp_transition.proofs.OwnBlames.{told_alone, found_as, unasked_on, asked_as}
use Rattle.lp_transition.specs.inside.Invariant.{told_scan}
use Rattle.lp_transition.proofs.engine.Core.own_blame.Goals as goal

pub returns-then-not-contains : goal.returns-then-not-contains
returns-then-not-contains g c =
    let i = c.self.inside in
    let e : Engine = record { number = i.events; from = i.from.0; target = i.target.0; patches = i.patches; table = i.tasks; blames = i.blames; last_scan = told_scan i.unchanged } in
    let rules = g.M.Consistency.rules in
    let told = told_alone rules e c.args.task None (λ x there. (false, unasked_on e i.waiting c.self.invariant.engine c.args.task.0 x there (sym c.if-not-contains.ensures.member), refl)) in
    subst (λ (on : CheckKind). (group : ℕ) → frame_blame (refused_first rules (state_in c.args.self.now) (own_check_event on c.args.task) [] group) ≡ (if is_in group (slot c.args.self.now.table c.args.task.0) then None else None)) (sym c.in-Resched.is)
    (subst (λ (o : Engine). (group : ℕ) → frame_blame (refused_first rules (state_in o) (own_check_event kind.Resched c.args.task) [] group) ≡ (if is_in group (slot o.table c.args.task.0) then None else None)) c.self.view_is told)

pub returns-then-not-lone : goal.returns-then-not-lone
returns-then-not-lone g c =
    let i = c.self.inside in
    let e : Engine = record { number = i.events; from = i.from.0; target = i.target.0; patches = i.patches; table = i.tasks; blames = i.blames; last_scan = told_scan i.unchanged } in
    let rules = g.M.Consistency.rules in
    let told = told_alone rules e c.args.task None (λ y at.
    let is : c.in_ok-live.live ≡ y = let both = c.in_ok-live.ensures.value ∙ at in cc in
    let group : c.group.result.0 ≡ y.group = c.group.ensures ∙ ap (λ (z : LegTask). z.group) is in
    let alone = rw (group, c.if-not-lone.true) at c.is_alone-lone.ensures in
    (false, asked_as e i.waiting c.self.invariant.engine c.args.task.0 y at (sym c.if-not-contains.ensures.member) false alone.0 alone.1, refl)) in
    subst (λ (on : CheckKind). (group : ℕ) → frame_blame (refused_first rules (state_in c.args.self.now) (own_check_event on c.args.task) [] group) ≡ (if is_in group (slot c.args.self.now.table c.args.task.0) then None else None)) (sym c.in-Resched.is)
    (subst (λ (o : Engine). (group : ℕ) → frame_blame (refused_first rules (state_in o) (own_check_event kind.Resched c.args.task) [] group) ≡ (if is_in group (slot o.table c.args.task.0) then None else None)) c.self.view_is told)

pub returns : goal.returns
returns g c =
    let i = c.self.inside in
    let e : Engine = record { number = i.events; from = i.from.0; target = i.target.0; patches = i.patches; table = i.tasks; blames = i.blames; last_scan = told_scan i.unchanged } in
    let rules = g.M.Consistency.rules in
    let found : Option StandingBlame = Some (record { task = c.args.task; serial = c.in-Frame.serial }) in
    let told = told_alone rules e c.args.task found (λ y at.
    let is : c.in_ok-live.live ≡ y = let both = c.in_ok-live.ensures.value ∙ at in cc in
    let group : c.group.result.0 ≡ y.group = c.group.ensures ∙ ap (λ (z : LegTask). z.group) is in
    let alone = rw (group, c.if-not-lone.false) at c.is_alone-lone.ensures in
    let seen_as : seen c.view.result ≡ view_of c.args.task.0 y = c.view.ensures ∙ ap (view_of c.args.task.0) is in
    let bound = c.aim-aim.ensures ∙ ap (λ (o : Engine). let aim : Aim = record { patches = o.patches; target = o.target } in aim) (sym c.self.view_is) in
    let why : rules.blame kind.Resched (view_of c.args.task.0 y) (state_in e).aim ≡ Some c.in_ok-why.why =
    ap₂ (λ (v : TaskView) (a : Aim). rules.blame kind.Resched v a) (sym seen_as) (sym bound)
    ∙ ap (λ (on : CheckKind). rules.blame on (seen c.view.result) (aimed c.aim-aim.result)) (sym c.in-Resched.is) ∙ sym c.blame.ensures ∙ c.in_ok-why.was in
    (true, asked_as e i.waiting c.self.invariant.engine c.args.task.0 y at (sym c.if-not-contains.ensures.member) true alone.0 alone.1, found_as rules e c.args.task y at (ap rules.uses (sym c.in-Resched.is) ∙ sym c.uses.ensures ∙ c.if-not-uses.false) (Some c.in_ok-why.why) why ∙ ap (λ (w : Blame). frame_blame (Some (c.args.task.0, w))) c.in-Frame.is)) in
    subst (λ (on : CheckKind). (group : ℕ) → frame_blame (refused_first rules (state_in c.args.self.now) (own_check_event on c.args.task) [] group) ≡ (if is_in group (slot c.args.self.now.table c.args.task.0) then Some (record { task = c.args.task; serial = c.in-Frame.serial }) else None)) (sym c.in-Resched.is)
    (subst (λ (o : Engine). (group : ℕ) → frame_blame (refused_first rules (state_in o) (own_check_event kind.Resched c.args.task) [] group) ≡ (if is_in group (slot o.table c.args.task.0) then Some (record { task = c.args.task; serial = c.in-Frame.serial }) else None)) c.self.view_is told)
