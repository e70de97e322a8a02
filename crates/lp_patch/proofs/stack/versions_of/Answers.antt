use Rattle.std.proofs.Common.{◌≡◌, ◌-◌, refl, sym, ◌∙◌, arith}
use Rattle.std.proofs.Math.ListN.{length-set}
use Rattle.lp_patch.proofs.StackLemmas.{version-zero, version-next, IsRow-set}
use Rattle.lp_patch.proofs.stack.versions_of.Goals.{then-patch_has, else-patch_has}
use Rattle.lp_patch.proofs.stack.versions_of.Goals as goal

pub loop-level-init : goal.loop-level-init
loop-level-init c = record {
  wide = refl;
  right = λ k h. let at : k ≡ 0 = omega arith in rw at (sym (version-zero c.args.sets.now c.args.func));
}

pub loop-level-preserved : goal.loop-level-preserved
loop-level-preserved c =
    let next = version-next c.args.sets.now c.args.func c.loop-level.level (omega arith) in
    let below = c.loop-level.invariant.right (c.loop-level.level - 1) (omega arith) in
    let wide = c.loop-level.invariant.wide in
    record {
      wide = length-set c.loop-level.row c.loop-level.level c.if-patch_has.row ∙ wide;
      right = IsRow-set c.args.sets.now c.args.func c.loop-level.level c.if-patch_has.row c.loop-level.row (omega (arith, wide)) c.loop-level.invariant.right
          (elim c.if-patch_has.branch [
            | then-patch_has w ↦ w.row-is ∙ sym (rw (← w.if-patch_has.ensures) at next)
            | else-patch_has w ↦ w.row-is ∙ below ∙ sym (rw (← w.if-patch_has.ensures) at next)
          ]);
    }
