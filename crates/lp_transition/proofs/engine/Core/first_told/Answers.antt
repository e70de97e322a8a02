use Rattle.std.proofs.Common.{◌≡◌, ◌||◌, true, List, Result, Ok, Err, IfOk, subst}
use Rattle.lp_numbers.specs.Numbers.{has}
use Rattle.lp_model.specs.declared.verdict.Verdict.{Verdict}
use Rattle.lp_transition.specs.Scan.{verdicts_at, is_asked}
use Rattle.lp_machine.specs.Table.{Engine, state_in}
use Rattle.lp_transition.specs.inside.FirstRefusals.{AdmitsOthers, HasAsked, AreTold}
use Rattle.lp_transition.specs.inside.ScanSteps.{is_judged}
use Rattle.lp_transition.proofs.WholeGroups.{told-refused, told-whole}
use Rattle.lp_transition.specs.inside.Invariant.{told_scan}
use Rattle.lp_transition.proofs.engine.Core.first_told.Goals as goal

pub returns-then-is_empty : goal.returns-then-is_empty
returns-then-is_empty g c =
    let i = c.self.inside in
    let e : Engine = record { number = i.events; from = i.from.0; target = i.target.0; patches = i.patches; table = i.tasks; blames = i.blames; last_scan = told_scan i.unchanged } in
    let model = g.M.Consistency.rules in
    let asked = has c.args.groups.now in
    let left = has c.ask_members.new.unrefused in
    let vs = c.in_ok-found.found.items in
    let h = rw c.in_ok-unrefused.ensures.same at c.in_ok-found.ensures in
    subst (λ (o : Engine). HasAsked model c.args.kind o (λ t. true) (has c.args.may_refuse.now) asked 65536 vs left → AdmitsOthers model c.args.kind (state_in o) (has c.args.may_refuse.now) → AreTold model c.args.kind (state_in o) asked vs) c.self.view_is
    (λ asked_of sure. told-refused e i.waiting c.self.invariant.engine model c.args.kind (has c.args.may_refuse.now) asked vs left sure asked_of (c.is_empty.ensures.0 c.if-is_empty.true))
    h c.requires

pub returns : goal.returns
returns g c =
    let i = c.self.inside in
    let e : Engine = record { number = i.events; from = i.from.0; target = i.target.0; patches = i.patches; table = i.tasks; blames = i.blames; last_scan = told_scan i.unchanged } in
    let model = g.M.Consistency.rules in
    let asked = has c.args.groups.now in
    let left = has c.ask_members.new.unrefused in
    let vs = c.in_ok-found.found.items in
    let h = rw c.in_ok-unrefused.ensures.same at c.in_ok-found.ensures in
    let told =
    subst (λ (o : Engine). HasAsked model c.args.kind o (λ t. true) (has c.args.may_refuse.now) asked 65536 vs left → AdmitsOthers model c.args.kind (state_in o) (has c.args.may_refuse.now) → (ws : List Verdict) → ws ≡ verdicts_at model c.args.kind (state_in o) (λ t. is_asked (state_in o) left t || is_judged vs t) → AreTold model c.args.kind (state_in o) asked ws) c.self.view_is
    (λ asked_of sure ws found. told-whole e i.waiting c.self.invariant.engine model c.args.kind (has c.args.may_refuse.now) asked vs left sure asked_of ws found)
    h c.requires in
    ok_map c.with_unrefused.result (rw c.as_slice.ensures.value at c.with_unrefused.ensures) (λ all found. told all.items found)
  where
    ok_map : {A E : Type 0} {P Q : A → Type 0} (r : Result A E) → IfOk r P → ((a : A) → P a → Q a) → IfOk r Q
    ok_map (Ok a) told more = more a told
    ok_map (Err e) told more = tt
