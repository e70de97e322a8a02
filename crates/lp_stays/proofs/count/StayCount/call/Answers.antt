use Rattle.std.proofs.Common.{◌+◌, ◌≤◌, length, ap, sym, ◌∙◌, subst, arith}
use Rattle.lp_patch.specs.Patches.{patch_has}
use Rattle.lp_definitions.specs.declared.event.Event.TheVariants.{Call}
use Rattle.lp_definitions.specs.Run.{plus}
use Rattle.lp_stays.specs.Invariant.{IsKept}
use Rattle.lp_stays.specs.inside.Calls.{one_more}
use Rattle.lp_stays.specs.Counts.{Counts}
use Rattle.lp_stays.proofs.Keeping.{call_start, call_same, call_few, call_then}
use Rattle.lp_stays.proofs.Holding.{call_to, call_end, holder_within, holder_has}
use Rattle.lp_stays.proofs.Stepping.{call_counted}
use Rattle.lp_stays.proofs.count.StayCount.call.Goals as goal

pub loop-below-init : goal.loop-below-init
loop-below-init c = record {
  kept = ap one_more c.self.view_is ∙ sym (call_start c.args.task.0 c.args.func.0 c.args.level.0 (one_more c.args.self.now));
  within = omega arith;
  few = omega arith;
}

pub call_in-requires-clause-patch : goal.call_in-requires-clause-patch
call_in-requires-clause-patch c =
    let within = holder_within c.args.self.now.patches c.args.func.0 c.holders-holders.result c.in-Some.below c.holders-holders.ensures c.in-Some.ensures.next.passes in
    let same = ap (λ s. length s.patches) c.loop-below.invariant.kept ∙ ap length (call_same c.args.task.0 c.args.func.0 c.args.level.0 (one_more c.args.self.now) c.loop-below.from).patches in
    omega (arith, within, same)

pub call_in-requires-clause-stays : goal.call_in-requires-clause-stays
call_in-requires-clause-stays c =
    let here = call_to c.args.task.0 c.args.func.0 c.holders-holders.result (one_more c.args.self.now) c.holders-holders.ensures c.args.level.0 c.loop-below.from c.in-Some.below c.loop-below.self c.loop-below.invariant.kept c.in-Some.ensures.next in
    let kept : IsKept c.args.self.now = subst IsKept c.self.view_is c.self.invariant.kept in
    let few = (call_few c.args.task.0 c.args.func.0 c.args.level.0 (one_more c.args.self.now) c.in-Some.below).stays in
    let number = ap (λ s. s.calls) here ∙ (call_same c.args.task.0 c.args.func.0 c.args.level.0 (one_more c.args.self.now) c.in-Some.below).calls in
    let stays : c.loop-below.self.stays ≤ c.args.self.now.stays + c.in-Some.below = subst (λ s. s.stays ≤ c.args.self.now.stays + c.in-Some.below) (sym here) few in
    omega (arith, number, kept.stays, stays, c.in-Some.ensures.below)

pub call_in-requires-clause-mixed : goal.call_in-requires-clause-mixed
call_in-requires-clause-mixed c =
    let here = call_to c.args.task.0 c.args.func.0 c.holders-holders.result (one_more c.args.self.now) c.holders-holders.ensures c.args.level.0 c.loop-below.from c.in-Some.below c.loop-below.self c.loop-below.invariant.kept c.in-Some.ensures.next in
    let kept : IsKept c.args.self.now = subst IsKept c.self.view_is c.self.invariant.kept in
    let few = (call_few c.args.task.0 c.args.func.0 c.args.level.0 (one_more c.args.self.now) c.in-Some.below).mixed in
    let number = ap (λ s. s.calls) here ∙ (call_same c.args.task.0 c.args.func.0 c.args.level.0 (one_more c.args.self.now) c.in-Some.below).calls in
    let mixed : c.loop-below.self.mixed ≤ c.args.self.now.mixed + c.in-Some.below = subst (λ s. s.mixed ≤ c.args.self.now.mixed + c.in-Some.below) (sym here) few in
    omega (arith, number, kept.mixed, mixed, c.in-Some.ensures.below)

pub loop-below-preserved : goal.loop-below-preserved
loop-below-preserved c =
    let here = call_to c.args.task.0 c.args.func.0 c.holders-holders.result (one_more c.args.self.now) c.holders-holders.ensures c.args.level.0 c.loop-below.from c.in-Some.below c.loop-below.self c.loop-below.invariant.kept c.in-Some.ensures.next in
    let within = holder_within c.args.self.now.patches c.args.func.0 c.holders-holders.result c.in-Some.below c.holders-holders.ensures c.in-Some.ensures.next.passes in
    let same = ap (λ s. s.patches) here ∙ (call_same c.args.task.0 c.args.func.0 c.args.level.0 (one_more c.args.self.now) c.in-Some.below).patches in
    let has = ap (λ patches. patch_has patches (c.in-Some.below + 1) c.args.func.0) same ∙ holder_has c.args.self.now.patches c.args.func.0 c.holders-holders.result c.in-Some.below c.holders-holders.ensures c.in-Some.ensures.next.passes in
    record {
      kept = call_then c.args.task.0 c.args.func.0 c.args.level.0 (one_more c.args.self.now) c.in-Some.below c.loop-below.self _ _ here has c.has_patch.ensures c.call_in.ensures;
      within = omega (arith, within);
      few = omega (arith, c.in-Some.ensures.below);
    }

pub returns-clause-counts : goal.returns-clause-counts
returns-clause-counts c = λ model lawful run counts comes.
    let kept : IsKept c.args.self.now = subst IsKept c.self.view_is c.self.invariant.kept in
    let here = call_end c.args.task.0 c.args.func.0 c.holders-holders.result (one_more c.args.self.now) c.holders-holders.ensures c.args.level.0 c.loop-below.from c.loop-below.self c.loop-below.invariant.kept c.loop-below.invariant.within c.in_default.ensures.next in
    subst (Counts model (plus run (Call c.args.task c.args.func))) (sym here) (call_counted model lawful run c.args.self.now counts kept.wide c.args.task c.args.func c.args.level comes)

pub returns-clause-calls : goal.returns-clause-calls
returns-clause-calls c =
    ap (λ s. s.calls) c.loop-below.invariant.kept ∙ (call_same c.args.task.0 c.args.func.0 c.args.level.0 (one_more c.args.self.now) c.loop-below.from).calls
