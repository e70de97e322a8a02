use Rattle.std.proofs.Common.{◌≡◌, List, [], ◌∷◌, ◌++◌, map, take, get_or, Option, sym, ap, ap₂, ◌∙◌, arith}
use Rattle.std.proofs.lemmas.Grind.{common_steps}
use Rattle.std.proofs.lemmas.List.{map-append, map_more}
use Rattle.lp_stack.specs.declared.number.TaskId.{TaskId}
use Rattle.lp_stack.specs.TaskView.{seen}
use Rattle.lp_patch.specs.Aimed.{aimed}
use Rattle.lp_model.specs.declared.check.Blame.{Blame}
use Rattle.lp_model.specs.declared.verdict.Verdict.{Verdict}
use Rattle.lp_transition.specs.Scan.{verdict_of}
use Rattle.lp_scan.proofs.plain.scan_plain.Goals as goal

pub loop-view-preserved : goal.loop-view-preserved
loop-view-preserved g c =
    let i = c.loop-view.view-index in
    let views = c.args.views.now in
    let view = c.view-item.result in
    let told = verdict_of g.M.Consistency.rules c.args.kind (aimed c.args.aim.now) in
    let made : c.of.result ≡ told (seen view) = ap₂ (λ (t : TaskId) (b : Option Blame). let v : Verdict = record { task = t; blame = b } in v) c.of.ensures.task c.of.ensures.blame in
    c.in_ok-push.ensures.items
    ∙ ap₂ (λ (xs : List Verdict) (v : Verdict). xs ++ v ∷ []) c.loop-view.invariant (made ∙ ap (λ v. told (seen v)) c.view-item.is)
    ∙ sym (ap (map told) (map_more seen views i view c.loop-view-test.true) ∙ map-append told (map seen (take i views)) (seen (get_or views i view) ∷ []))

pub returns : goal.returns
returns g c = grind (arith, common_steps)
