use Rattle.std.proofs.Common.{rules, ◌≡◌, ℕ, List, [], ◌∷◌, ◌++◌, map, Option, Some, append_assoc, sym, ap, ap₂, refl, ◌∙◌}
use Rattle.std.specs.List.{filter_map}
use Rattle.std.specs.Option.{option_map}
use Rattle.lp_stack.specs.declared.number.TaskId.{TaskId}
use Rattle.lp_patch.specs.Aimed.{aimed}
use Rattle.lp_model.specs.declared.check.Blame.{Blame}
use Rattle.lp_model.specs.declared.verdict.Verdict.{Verdict}
use Rattle.lp_machine.specs.Machine.{view_of}
use Rattle.lp_transition.specs.Scan.{verdict_of}
use Rattle.lp_transition.specs.inside.ScanSteps.{waiting_slot}
use Rattle.lp_tasks.proofs.AscendingLemmas.{in_order, members-any}
use Rattle.lp_transition.proofs.engine.open_scan.own_found.Goals as goal

pub loop-number-init : goal.loop-number-init
loop-number-init g c = (
  λ group few there out. let listed = members-any c.args.groups.now _ c.into_iter-number-iterator.ensures.into_iter_gives group few in absurd (cc),
  search (rules, in_order),
)

-- one verdict more
more : {A B : Type 0} (v : A → B) (f : ℕ → Option A) (found pushed all : List B) (n : ℕ) (left now : List ℕ) (view : A) (one : B) → pushed ≡ found ++ one ∷ [] → now ≡ n ∷ left → f n ≡ Some view → one ≡ v view → found ++ map v (filter_map f now) ≡ all → pushed ++ map v (filter_map f left) ≡ all
more v f found pushed all n left now view one is steps some judged told =
    ap (λ vs. vs ++ map v (filter_map f left)) is
    ∙ (append_assoc found (one ∷ []) (map v (filter_map f left))
    ∙ (ap (λ vs. found ++ vs) (ap (λ w. w ∷ map v (filter_map f left)) judged ∙ sym (ap (λ ns. map v (filter_map f ns)) steps ∙ first)) ∙ told))
  where
    first : map v (filter_map f (n ∷ left)) ≡ v view ∷ map v (filter_map f left)
    first = rw some refl

pub loop-number-preserved-in-Continue-1 : goal.loop-number-preserved-in-Continue-1
loop-number-preserved-in-Continue-1 g c = (
  search rules,
  let model = g.M.Consistency.rules in
      let n = c.in-Some.number in
      let aim = aimed c.args.aim.now in
      let blame = c.of.ensures.blame ∙ ap (λ view. model.blame c.args.kind view aim) c.view.ensures in
      let judged = ap₂ (λ (t : TaskId) (why : Option Blame). let v : Verdict = record { task = t; blame = why } in v) (c.of.ensures.task ∙ ap (λ view. let t : TaskId = record { 0 = view.task } in t) c.view.ensures) blame in
      more (verdict_of model c.args.kind aim) (λ t. option_map (view_of t) (waiting_slot c.args.tasks.now c.args.waiting.now t)) c.loop-number.found.items c.push.new.self.items _ n c.next.new.self c.loop-number.number-iterator (view_of n c.in-Some-waiting_task.live) c.of.result
      c.in_ok-push.ensures.items c.in-Some.ensures.steps (ap (option_map (view_of n)) (sym c.waiting_task.ensures ∙ c.in-Some-waiting_task.is)) judged c.loop-number.invariant.1,
)
