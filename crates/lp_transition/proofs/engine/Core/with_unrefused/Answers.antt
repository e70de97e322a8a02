use Rattle.std.proofs.Common.{Result, Ok, Err, IfOk, ◌≡◌, ◌||◌, List, Vec, subst, ◌∙◌}
use Rattle.std.specs.Global.{Global}
use Rattle.lp_numbers.specs.Numbers.{has}
use Rattle.lp_model.specs.declared.verdict.Verdict.{Verdict}
use Rattle.lp_transition.specs.Scan.{verdicts_at, is_asked}
use Rattle.lp_machine.specs.Table.{Engine, state_in}
use Rattle.lp_transition.specs.inside.ScanSteps.{is_judged}
use Rattle.lp_transition.proofs.WholeGroups.{members-judged}
use Rattle.lp_transition.specs.inside.Invariant.{told_scan}
use Rattle.lp_transition.proofs.engine.Core.with_unrefused.Goals as goal

pub returns : goal.returns
returns g c =
    let i = c.self.inside in
    let e : Engine = record { number = i.events; from = i.from.0; target = i.target.0; patches = i.patches; table = i.tasks; blames = i.blames; last_scan = told_scan i.unchanged } in
    let model = g.M.Consistency.rules in
    let same =
    subst (λ (o : Engine). verdicts_at model c.args.kind (state_in o) (has c.add_judged.new.tasks) ≡ verdicts_at model c.args.kind (state_in o) (λ t. is_asked (state_in o) (has c.args.unrefused.now) t || is_judged c.args.found.now t)) c.self.view_is
    (members-judged e i.waiting c.self.invariant.engine model c.args.kind c.args.unrefused.now c.in_ok-tasks.tasks c.add_judged.new.tasks c.args.found.now c.in_ok-tasks.ensures c.add_judged.ensures) in
    ok_map c.verdicts_in.result c.verdicts_in.ensures same
  where
    ok_map : {E : Type 0} {vs ws : List Verdict} (r : Result (Vec Verdict Global) E) → IfOk r (λ all. all.items ≡ vs) → vs ≡ ws → IfOk r (λ all. all.items ≡ ws)
    ok_map (Ok all) told same = told ∙ same
    ok_map (Err e) told same = tt
