use Rattle.std.proofs.Common.{◌++◌, ◌||◌, not, is_some, refl, sym, ap, ap₂, take, ◌∙◌, arith}
use Rattle.std.proofs.lemmas.Grind.{common_steps}
use Rattle.std.proofs.lemmas.Bool.{false≢true, and_from, and_parts, not-true}
use Rattle.std.proofs.lemmas.List.{take_all}
use Rattle.std.proofs.lemmas.List.Folds.{list_any_at, list_any_more}
use Rattle.std.specs.List.{list_any}
use Rattle.lp_model.specs.declared.verdict.Verdict.{Verdict}
use Rattle.lp_transition.specs.inside.ScanSteps.{tasks_of}
use Rattle.lp_tasks.proofs.AscendingLemmas.{members-passing, next_differs, none_left}
use Rattle.lp_transition.proofs.AskedScans.{task-at}
use Rattle.lp_transition.proofs.engine.scan.completes.Goals as goal

pub loop-verdict-init : goal.loop-verdict-init
loop-verdict-init c = record { admitted = refl; tasks = c.iter-tasks.ensures ∙ members-passing c.args.waiting.now }

pub returns-then-ne : goal.returns-then-ne
returns-then-ne c =
    let i = c.loop-verdict.verdict-index in
    let here = task-at c.args.verdicts.now i _ c.loop-verdict-test.true in
    let other = not-true _ (sym c.ne.ensures ∙ c.if-ne.true) in
    (λ h. absurd (cc), λ both. absurd (next_differs c.loop-verdict.tasks c.next.result c.next.new.self c.next.ensures.steps (tasks_of (take i c.args.verdicts.now)) here.0 _ other (sym here.1 ∙ both.1 ∙ sym c.loop-verdict.invariant.tasks)))

pub returns-then-is_some : goal.returns-then-is_some
returns-then-is_some c =
    let refused = list_any_at (λ (v : Verdict). is_some v.blame) c.args.verdicts.now c.loop-verdict.verdict-index _ c.loop-verdict-test.true (sym c.is_some.ensures ∙ c.if-is_some.true) in
    (λ h. absurd (cc), λ both. absurd (false≢true (sym (not-true _ (and_parts _ _ both.0).1) ∙ refused)))

pub returns-then-not-is_empty : goal.returns-then-not-is_empty
returns-then-not-is_empty c =
    let vs = c.args.verdicts.now in
    let whole = take_all c.loop-verdict.verdict-index vs c.loop-verdict-test.false in
    let ends = none_left c.loop-verdict.tasks c.next-then-not-is_empty.result c.next-then-not-is_empty.new.self c.next-then-not-is_empty.ensures.steps (tasks_of vs) _ c.is_none.result c.is_none.ensures (ap (λ ws. tasks_of ws ++ c.loop-verdict.tasks) (sym whole) ∙ c.loop-verdict.invariant.tasks) in
    let some = ap not (sym c.is_empty.ensures ∙ c.if-not-is_empty.true) in
    let admitted = ap not (ap (list_any (λ (v : Verdict). is_some v.blame)) (sym whole) ∙ c.loop-verdict.invariant.admitted) in
    (λ none. (and_from _ _ some admitted, ends.0 none), λ both. ends.1 both.1)

pub loop-verdict-preserved : goal.loop-verdict-preserved
loop-verdict-preserved c = record {
  admitted = list_any_more (λ (v : Verdict). is_some v.blame) c.args.verdicts.now c.loop-verdict.verdict-index _ c.loop-verdict-test.true ∙ ap₂ (λ a b. a || b) c.loop-verdict.invariant.admitted (sym c.is_some.ensures ∙ c.if-is_some.false);
  tasks = grind (arith, common_steps);
}
