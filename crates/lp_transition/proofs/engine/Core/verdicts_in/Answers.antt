use Rattle.std.proofs.Common.{Result, Ok, Err, IfOk, ◌≡◌, List, Vec, ap, sym, ◌∙◌, map}
use Rattle.std.specs.Global.{Global}
use Rattle.std.specs.List.{filter_map}
use Rattle.std.specs.Option.{option_map}
use Rattle.lp_numbers.specs.Numbers.{has}
use Rattle.lp_model.specs.declared.verdict.Verdict.{Verdict}
use Rattle.lp_transition.specs.Scan.{verdict_of, verdicts_at}
use Rattle.lp_tasks.specs.Passing.{passing}
use Rattle.lp_machine.specs.Machine.{view_of}
use Rattle.lp_transition.specs.inside.ScanSteps.{waiting_slot}
use Rattle.lp_machine.specs.Table.{Engine, state_in}
use Rattle.lp_transition.proofs.AskedScans.{among_views}
use Rattle.lp_transition.proofs.ScanLemmas.{views-asked}
use Rattle.lp_transition.specs.inside.Invariant.{told_scan}
use Rattle.lp_transition.proofs.engine.Core.verdicts_in.Goals as goal

pub returns : goal.returns
returns g c =
    let i = c.self.inside in
    let e : Engine = record { number = i.events; from = i.from.0; target = i.target.0; patches = i.patches; table = i.tasks; blames = i.blames; last_scan = told_scan i.unchanged } in
    let model = g.M.Consistency.rules in
    let looked = has c.args.tasks.now in
    let aim = c.aim-aim.ensures ∙ ap (λ (o : Engine). (state_in o).aim) (sym c.self.view_is) in
    let listed = views-asked e i.waiting c.self.invariant.engine looked in
    let same = ap (map (verdict_of model c.args.kind (state_in e).aim)) listed ∙ sym (among_views model c.args.kind (state_in e) looked) in
    let here = ap (λ (o : Engine). verdicts_at model c.args.kind (state_in o) looked) c.self.view_is in
    ok_map c.found_in.result c.found_in.ensures (ap (λ aim. map (verdict_of model c.args.kind aim) (filter_map (λ t. option_map (view_of t) (waiting_slot i.tasks i.waiting t)) (passing 0 65536 looked))) aim ∙ same ∙ here)
  where
    ok_map : {E : Type 0} {vs ws : List Verdict} (r : Result (Vec Verdict Global) E) → IfOk r (λ all. all.items ≡ vs) → vs ≡ ws → IfOk r (λ all. all.items ≡ ws)
    ok_map (Ok all) told same = told ∙ same
    ok_map (Err e) told same = tt
