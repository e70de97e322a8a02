use Rattle.std.proofs.Common.{◌≡◌, ◌+◌, ◌<◌, Option, sym, ap, ap₂, subst, ◌∙◌, arith}
use Rattle.std.proofs.lemmas.Grind.{common_steps}
use Rattle.lp_stack.specs.declared.number.TaskId.{TaskId}
use Rattle.lp_numbers.specs.Numbers.{has}
use Rattle.lp_model.specs.declared.check.Blame.{Blame}
use Rattle.lp_model.specs.declared.verdict.Verdict.{Verdict}
use Rattle.lp_machine.specs.Machine.{view_of}
use Rattle.lp_transition.specs.Scan.{verdict_of}
use Rattle.lp_machine.specs.Table.{Engine, state_in}
use Rattle.lp_transition.specs.inside.FirstRefusals.{HasAsked}
use Rattle.lp_tasks.specs.Passing.{place_of}
use Rattle.lp_tasks.proofs.AscendingLemmas.{members-rest}
use Rattle.lp_transition.proofs.InTurn.{turn-begins, turn-ends, turn-over, turn-asks}
use Rattle.lp_transition.specs.inside.Invariant.{told_scan}
use Rattle.lp_transition.proofs.engine.Core.ask_in_turn.Goals as goal

pub loop-number-init : goal.loop-number-init
loop-number-init g c =
    let i = c.self.inside in
    let e : Engine = record { number = i.events; from = i.from.0; target = i.target.0; patches = i.patches; table = i.tasks; blames = i.blames; last_scan = told_scan i.unchanged } in
    let left = c.into_iter-number-iterator.result in
    record {
      asked =
          subst (λ (o : Engine). HasAsked g.M.Consistency.rules c.args.kind o (has c.args.candidates.now) (has c.args.may_refuse.now) (has c.args.unrefused.now) (place_of left) c.new-found.result.items (has c.args.unrefused.now)) c.self.view_is
          (turn-begins e i.waiting c.self.invariant.engine g.M.Consistency.rules c.args.kind c.args.candidates.now c.args.may_refuse.now (has c.args.unrefused.now) left c.new-found.result.items c.new-found.ensures.items c.into_iter-number-iterator.ensures.into_iter_gives);
      from = 0;
      rest = c.into_iter-number-iterator.ensures.into_iter_gives;
    }

pub returns-then-is_empty : goal.returns-then-is_empty
returns-then-is_empty g c =
    let i = c.self.inside in
    let e : Engine = record { number = i.events; from = i.from.0; target = i.target.0; patches = i.patches; table = i.tasks; blames = i.blames; last_scan = told_scan i.unchanged } in
    let n = c.in-Some.number in
    let few : n < 65536 = omega arith in
    let groups = has c.args.unrefused.now in
    let now = c.loop-number.number-iterator in
    let before = subst (λ (o : Engine). HasAsked g.M.Consistency.rules c.args.kind o (has c.args.candidates.now) (has c.args.may_refuse.now) groups (place_of now) c.loop-number.found.items (has c.loop-number.unrefused)) (sym c.self.view_is) c.loop-number.invariant.asked in
    subst (λ (o : Engine). HasAsked g.M.Consistency.rules c.args.kind o (has c.args.candidates.now) (has c.args.may_refuse.now) groups 65536 c.loop-number.found.items (has c.loop-number.unrefused)) c.self.view_is
    (turn-ends e i.waiting c.self.invariant.engine g.M.Consistency.rules c.args.kind c.args.candidates.now c.args.may_refuse.now groups now n c.next.new.self c.loop-number.found.items c.loop-number.unrefused c.in-Some.ensures.steps few before (c.is_empty.ensures.0 c.if-is_empty.true))

pub loop-number-preserved-in-Continue-1 : goal.loop-number-preserved-in-Continue-1
loop-number-preserved-in-Continue-1 g c =
    let i = c.self.inside in
    let e : Engine = record { number = i.events; from = i.from.0; target = i.target.0; patches = i.patches; table = i.tasks; blames = i.blames; last_scan = told_scan i.unchanged } in
    let n = c.in-Some.number in
    let few : n < 65536 = omega arith in
    let model = g.M.Consistency.rules in
    let candidates = c.args.candidates.now in
    let may_refuse = c.args.may_refuse.now in
    let groups = has c.args.unrefused.now in
    let now = c.loop-number.number-iterator in
    let left = c.next.new.self in
    let rest = members-rest candidates c.loop-number.invariant.from n left (sym c.in-Some.ensures.steps ∙ c.loop-number.invariant.rest) in
    let before = subst (λ (o : Engine). HasAsked model c.args.kind o (has candidates) (has may_refuse) groups (place_of now) c.loop-number.found.items (has c.loop-number.unrefused)) (sym c.self.view_is) c.loop-number.invariant.asked in
    let some = sym c.asked_task.ensures ∙ c.in-Some-asked_task.is in
    let aim = c.aim-aim.ensures ∙ ap (λ (o : Engine). (state_in o).aim) (sym c.self.view_is) in
    let blame = c.of-verdict.ensures.blame ∙ ap₂ (λ view goal. model.blame c.args.kind view goal) c.view.ensures aim in
    let told : c.of-verdict.result ≡ verdict_of model c.args.kind (state_in e).aim (view_of n c.in-Some-asked_task.live) =
    ap₂ (λ (t : TaskId) (why : Option Blame). let v : Verdict = record { task = t; blame = why } in v) (c.of-verdict.ensures.task ∙ ap (λ view. let t : TaskId = record { 0 = view.task } in t) c.view.ensures) blame in
    record {
      asked =
          subst (λ (o : Engine). HasAsked model c.args.kind o (has candidates) (has may_refuse) groups (place_of left) c.push.new.self.items (has c.remove_refused.new.groups)) c.self.view_is
          (turn-asks e i.waiting c.self.invariant.engine model c.args.kind candidates may_refuse groups now n left c.loop-number.found.items c.loop-number.unrefused c.in-Some.ensures.steps few before rest
          c.in-Some-asked_task.live c.of-verdict.result c.push.new.self.items _ some told c.in_ok-push.ensures.items c.remove_refused.ensures);
      from = n + 1;
      rest = rest;
    }

pub loop-number-preserved : goal.loop-number-preserved
loop-number-preserved g c =
    let i = c.self.inside in
    let e : Engine = record { number = i.events; from = i.from.0; target = i.target.0; patches = i.patches; table = i.tasks; blames = i.blames; last_scan = told_scan i.unchanged } in
    let n = c.in-Some.number in
    let few : n < 65536 = omega arith in
    let model = g.M.Consistency.rules in
    let candidates = c.args.candidates.now in
    let may_refuse = c.args.may_refuse.now in
    let groups = has c.args.unrefused.now in
    let now = c.loop-number.number-iterator in
    let left = c.next.new.self in
    let rest = members-rest candidates c.loop-number.invariant.from n left (sym c.in-Some.ensures.steps ∙ c.loop-number.invariant.rest) in
    let before = subst (λ (o : Engine). HasAsked model c.args.kind o (has candidates) (has may_refuse) groups (place_of now) c.loop-number.found.items (has c.loop-number.unrefused)) (sym c.self.view_is) c.loop-number.invariant.asked in
    let none = sym c.asked_task.ensures ∙ c.in_default.is in
    record {
      asked =
          subst (λ (o : Engine). HasAsked model c.args.kind o (has candidates) (has may_refuse) groups (place_of left) c.loop-number.found.items (has c.loop-number.unrefused)) c.self.view_is
          (turn-over e i.waiting c.self.invariant.engine model c.args.kind candidates may_refuse groups now n left c.loop-number.found.items c.loop-number.unrefused c.in-Some.ensures.steps few before rest none);
      from = n + 1;
      rest = rest;
    }

pub returns : goal.returns
returns g c = grind (arith, common_steps)
