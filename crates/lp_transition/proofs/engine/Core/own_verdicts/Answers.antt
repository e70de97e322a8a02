use Rattle.std.proofs.Common.{◌≡◌, List, Vec, Option, Some, None, Result, Ok, Err, IfOk, IfSome, map, ap, sym, ◌∙◌}
use Rattle.std.specs.Global.{Global}
use Rattle.std.specs.List.{filter_map}
use Rattle.std.specs.Option.{option_map}
use Rattle.lp_numbers.specs.Numbers.{has}
use Rattle.lp_model.specs.declared.verdict.Verdict.{Verdict}
use Rattle.lp_transition.specs.Scan.{verdict_of, verdicts_among}
use Rattle.lp_tasks.specs.Passing.{passing}
use Rattle.lp_machine.specs.Machine.{view_of}
use Rattle.lp_transition.specs.inside.ScanSteps.{waiting_slot}
use Rattle.lp_machine.specs.Table.{Engine, state_in}
use Rattle.lp_transition.proofs.AskedScans.{among_views}
use Rattle.lp_transition.proofs.ScanLemmas.{views-asked}
use Rattle.lp_transition.proofs.WholeGroups.{own-listed}
use Rattle.lp_transition.specs.inside.Invariant.{told_scan}
use Rattle.lp_transition.proofs.engine.Core.own_verdicts.Goals as goal

pub returns : goal.returns
returns g c =
    let i = c.self.inside in
    let e : Engine = record { number = i.events; from = i.from.0; target = i.target.0; patches = i.patches; table = i.tasks; blames = i.blames; last_scan = told_scan i.unchanged } in
    let model = g.M.Consistency.rules in
    let looked = has c.args.groups.now in
    let aim = c.aim-aim.ensures ∙ ap (λ (o : Engine). (state_in o).aim) (sym c.self.view_is) in
    let same = ap (map (verdict_of model c.args.kind (state_in e).aim)) (views-asked e i.waiting c.self.invariant.engine looked) ∙ sym (among_views model c.args.kind (state_in e) looked) in
    let here = ap (λ (o : Engine). verdicts_among model c.args.kind (state_in o) looked) c.self.view_is in
    some_own c.own_found.result c.own_found.ensures.own c.own_found.ensures.found
    (λ own. ap (λ aim. map (verdict_of model c.args.kind aim) (filter_map (λ t. option_map (view_of t) (waiting_slot i.tasks i.waiting t)) (passing 0 65536 looked))) aim ∙ (same ∙ (own-listed e i.waiting c.self.invariant.engine model c.args.kind c.args.groups.now own ∙ here)))
  where
    some_own : {E Own : Type 0} {vs ws : List Verdict} (r : Result (Option (Vec Verdict Global)) E) → IfOk r (λ told. IfSome told (λ found. Own)) → IfOk r (λ told. IfSome told (λ found. found.items ≡ vs)) → (Own → vs ≡ ws) → IfOk r (λ told. IfSome told (λ found. found.items ≡ ws))
    some_own (Ok (Some found)) own told same = told ∙ same own
    some_own (Ok None) own told same = tt
    some_own (Err e) own told same = tt
