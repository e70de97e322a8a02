use Rattle.std.proofs.Common.{◌≡◌, ◌<◌, Some, true, false, sym, ap, ap₂, ◌∙◌, arith}
use Rattle.std.proofs.lemmas.Bool.{false≢true}
use Rattle.lp_stack.specs.declared.view.Mode.{Mode}
use Rattle.lp_stack.specs.TaskView.{TaskView, seen}
use Rattle.lp_patch.specs.Aimed.{aimed}
use Rattle.lp_patch.specs.Patches.{Aim}
use Rattle.lp_definitions.specs.Leg.{LegTask}
use Rattle.lp_machine.specs.Machine.{view_of}
use Rattle.lp_machine.specs.Table.{Engine, slot}
use Rattle.lp_transition.proofs.LoneChecks.{asks}
use Rattle.lp_tasks.specs.inside.OwnChecks.{own_check_event, own_check_mode, at_own_check}
use Rattle.lp_transition.proofs.OwnChecks.{own_check-level, own_check-group, own_check-checks, own_check-own}
use Rattle.lp_transition.specs.inside.Invariant.{told_scan}
use Rattle.lp_transition.proofs.engine.Core.own_check_switches.Goals as goal

pub returns-then-not-contains : goal.returns-then-not-contains
returns-then-not-contains g c = λ x there.
    let i = c.self.inside in
    let h : c.args.task.0 < 65536 = omega arith in
    let at : slot i.tasks c.args.task.0 ≡ Some x = ap (λ e. slot e.table c.args.task.0) c.self.view_is ∙ there in
    asks g.M.Consistency.rules g.met.M.Consistency.lawful (record { number = i.events; from = i.from.0; target = i.target.0; patches = i.patches; table = i.tasks; blames = i.blames; last_scan = told_scan i.unchanged }) i.waiting c.self.invariant.engine (own_check_event c.args.kind c.args.task) c.args.kind c.args.task.0 h (at_own_check c.args.kind) (own_check-level c.args.kind) (own_check-group c.args.kind) x at (own_check-checks _ _ c.args.kind c.args.task c.requires.own_check) c.args.self.now c.self.view_is (own_check-own _ _ c.args.kind c.args.task _) false (sym c.if-not-contains.ensures.member) true (λ waits. absurd (false≢true waits))

pub returns-then-not-alone : goal.returns-then-not-alone
returns-then-not-alone g c = λ x there.
    let i = c.self.inside in
    let h : c.args.task.0 < 65536 = omega arith in
    let at : slot i.tasks c.args.task.0 ≡ Some x = ap (λ e. slot e.table c.args.task.0) c.self.view_is ∙ there in
    let is : c.in-Some.live ≡ x = let both = c.in-Some.ensures.value ∙ at in cc in
    let group : c.group.result.0 ≡ x.group = c.group.ensures ∙ ap (λ (y : LegTask). y.group) is in
    asks g.M.Consistency.rules g.met.M.Consistency.lawful (record { number = i.events; from = i.from.0; target = i.target.0; patches = i.patches; table = i.tasks; blames = i.blames; last_scan = told_scan i.unchanged }) i.waiting c.self.invariant.engine (own_check_event c.args.kind c.args.task) c.args.kind c.args.task.0 h (at_own_check c.args.kind) (own_check-level c.args.kind) (own_check-group c.args.kind) x at (own_check-checks _ _ c.args.kind c.args.task c.requires.own_check) c.args.self.now c.self.view_is (own_check-own _ _ c.args.kind c.args.task _) true (sym c.if-not-contains.ensures.member) false (λ _. rw (group, c.if-not-alone.true) at c.is_alone-alone.ensures)

pub returns : goal.returns
returns g c = λ x there.
    let i = c.self.inside in
    let h : c.args.task.0 < 65536 = omega arith in
    let at : slot i.tasks c.args.task.0 ≡ Some x = ap (λ e. slot e.table c.args.task.0) c.self.view_is ∙ there in
    let is : c.in-Some.live ≡ x = let both = c.in-Some.ensures.value ∙ at in cc in
    let group : c.group.result.0 ≡ x.group = c.group.ensures ∙ ap (λ (y : LegTask). y.group) is in
    let seen_as = c.view-view.ensures ∙ ap (view_of c.args.task.0) is in
    let bound = c.aim-aim.ensures ∙ ap (λ (o : Engine). let aim : Aim = record { patches = o.patches; target = o.target } in aim) (sym c.self.view_is) in
    c.admits.ensures
    ∙ ap (λ (mode : Mode). g.M.Consistency.rules.admits c.args.kind (record (seen c.view-view.result) { task = c.args.task.0; mode = mode }) (aimed c.aim-aim.result)) c.own_check_mode.ensures
    ∙ ap₂ (λ (s : TaskView) (aim : Aim). g.M.Consistency.rules.admits c.args.kind (record s { task = c.args.task.0; mode = own_check_mode c.args.kind s.mode }) aim) seen_as bound
    ∙ asks g.M.Consistency.rules g.met.M.Consistency.lawful (record { number = i.events; from = i.from.0; target = i.target.0; patches = i.patches; table = i.tasks; blames = i.blames; last_scan = told_scan i.unchanged }) i.waiting c.self.invariant.engine (own_check_event c.args.kind c.args.task) c.args.kind c.args.task.0 h (at_own_check c.args.kind) (own_check-level c.args.kind) (own_check-group c.args.kind) x at (own_check-checks _ _ c.args.kind c.args.task c.requires.own_check) c.args.self.now c.self.view_is (own_check-own _ _ c.args.kind c.args.task _) true (sym c.if-not-contains.ensures.member) true (λ _. rw (group, c.if-not-alone.false) at c.is_alone-alone.ensures)
