use Rattle.std.proofs.Common.{◌+◌, [], ◌∷◌, take, nat_eq, ap, ◌∙◌}
use Rattle.std.proofs.lemmas.List.{map_more}
use Rattle.std.proofs.lemmas.List.Folds.{list_any-append}
use Rattle.std.specs.List.{list_any}
use Rattle.lp_model.specs.declared.verdict.Verdict.{Verdict}
use Rattle.lp_transition.specs.inside.ScanSteps.{tasks_of, is_judged, is_unrefused}
use Rattle.lp_transition.proofs.ScanSwitches.{moving_more}
use Rattle.lp_transition.proofs.engine.switches.switch_tasks.Goals as goal

pub loop-verdict-preserved : goal.loop-verdict-preserved
loop-verdict-preserved c =
    let i = c.loop-verdict.verdict-index in
    let vs = c.args.verdicts.now in
    moving_more (is_judged (take i vs)) (is_judged (take (i + 1) vs)) (is_unrefused c.args.refused.now) c.args.target.0 _ c.args.tasks.now c.loop-verdict.tasks c.switch_task.new.tasks c.args.waiting.now c.loop-verdict.waiting c.switch_task.new.waiting c.loop-verdict.invariant c.switch_task.ensures
    (λ t. ap (list_any (nat_eq t)) (map_more (λ (v : Verdict). v.task.0) vs i _ c.loop-verdict-test.true) ∙ list_any-append (nat_eq t) (tasks_of (take i vs)) (_ ∷ []))
