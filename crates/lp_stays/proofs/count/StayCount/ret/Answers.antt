use Rattle.std.proofs.Common.{◌+◌, length, ap, sym, ◌∙◌, subst, arith}
use Rattle.lp_patch.specs.Patches.{patch_has}
use Rattle.lp_definitions.specs.declared.event.Event.TheVariants.{Ret}
use Rattle.lp_definitions.specs.Run.{plus}
use Rattle.lp_stays.specs.Invariant.{IsKept}
use Rattle.lp_stays.specs.Counts.{Counts}
use Rattle.lp_stays.proofs.Keeping.{return_start, return_same, return_then}
use Rattle.lp_stays.proofs.Holding.{return_to, return_end, holder_within, holder_has}
use Rattle.lp_stays.proofs.Stepping.{return_counted}
use Rattle.lp_stays.proofs.count.StayCount.ret.Goals as goal

pub loop-below-init : goal.loop-below-init
loop-below-init c = record {
  kept = sym (return_start c.args.task.0 c.args.func.0 c.args.self.now);
  within = omega arith;
  few = omega arith;
}

pub return_in-requires : goal.return_in-requires
return_in-requires c =
    let within = holder_within c.args.self.now.patches c.args.func.0 c.holders-holders.result c.in-Some.below c.holders-holders.ensures c.in-Some.ensures.next.passes in
    let same = ap (λ s. length s.patches) c.loop-below.invariant.kept ∙ ap length (return_same c.args.task.0 c.args.func.0 c.args.self.now c.loop-below.from).patches in
    omega (arith, within, same)

pub loop-below-preserved : goal.loop-below-preserved
loop-below-preserved c =
    let here = return_to c.args.task.0 c.args.func.0 c.holders-holders.result c.args.self.now c.holders-holders.ensures c.loop-below.from c.in-Some.below c.loop-below.self c.loop-below.invariant.kept c.in-Some.ensures.next in
    let within = holder_within c.args.self.now.patches c.args.func.0 c.holders-holders.result c.in-Some.below c.holders-holders.ensures c.in-Some.ensures.next.passes in
    let same = ap (λ s. s.patches) here ∙ (return_same c.args.task.0 c.args.func.0 c.args.self.now c.in-Some.below).patches in
    let has = ap (λ patches. patch_has patches (c.in-Some.below + 1) c.args.func.0) same ∙ holder_has c.args.self.now.patches c.args.func.0 c.holders-holders.result c.in-Some.below c.holders-holders.ensures c.in-Some.ensures.next.passes in
    record {
      kept = return_then c.args.task.0 c.args.func.0 c.args.self.now c.in-Some.below c.loop-below.self _ here has c.return_in.ensures;
      within = omega (arith, within);
      few = omega (arith, c.in-Some.ensures.below);
    }

pub returns-clause-counts : goal.returns-clause-counts
returns-clause-counts c = λ what moved model lawful run top counts comes.
    let kept : IsKept c.args.self.now = subst IsKept c.self.view_is c.self.invariant.kept in
    let here = return_end c.args.task.0 c.args.func.0 c.holders-holders.result c.args.self.now c.holders-holders.ensures c.loop-below.from c.loop-below.self c.loop-below.invariant.kept c.loop-below.invariant.within c.in_default.ensures.next in
    subst (Counts model (plus run (Ret c.args.task))) (sym here) (return_counted model lawful run c.args.self.now counts kept.wide c.args.task c.args.func what moved top comes)

pub returns-clause-calls : goal.returns-clause-calls
returns-clause-calls c =
    ap (λ s. s.calls) c.loop-below.invariant.kept ∙ (return_same c.args.task.0 c.args.func.0 c.args.self.now c.loop-below.from).calls
