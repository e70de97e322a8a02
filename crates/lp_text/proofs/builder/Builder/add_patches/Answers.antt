use Rattle.std.proofs.Common.{◌+◌, arith, refl, sym}
use Rattle.std.proofs.lemmas.Grind.{common_steps}
use Rattle.lp_text.proofs.Goes.{passed_on, asked_each, no_patch_asked, patches_first, patches_count, patches_few, patches_on, patches_err, patches_end}
use Rattle.lp_text.proofs.builder.Builder.add_patches.Goals as goal

pub returns-then-is_empty-clause-gives : goal.returns-then-is_empty-clause-gives
returns-then-is_empty-clause-gives c = no_patch_asked c.args.self.now.parser c.args.self.now.place c.args.self.now.size c.args.symbols.now c.args.patches.now c.requires.built c.requires.early.1 c.requires.early.2 c.requires.symbols (sym c.if-is_empty.ensures)

pub loop-i-init : goal.loop-i-init
loop-i-init c = patches_first c.args.symbols.now c.args.self.now.place c.args.self.now.parser c.args.patches.now c.args.self.now.size c.requires.built c.requires.early.0

pub overflow_cast-i : goal.overflow_cast-i
overflow_cast-i c = omega (arith, patches_count c.args.symbols.now c.args.self.now.place c.args.self.now.parser c.args.patches.now c.loop-i.self.place c.loop-i.self.size c.loop-i.self.parser c.loop-i.i c.loop-i.invariant (omega (arith, c.loop-i-test.true)), patches_few c.args.symbols.now c.args.self.now.place c.args.self.now.parser c.args.patches.now c.loop-i.self.place c.loop-i.self.size c.loop-i.self.parser c.loop-i.i c.loop-i.invariant)

pub overflow_add-i : goal.overflow_add-i
overflow_add-i c = omega (arith, patches_count c.args.symbols.now c.args.self.now.place c.args.self.now.parser c.args.patches.now c.loop-i.self.place c.loop-i.self.size c.loop-i.self.parser c.loop-i.i c.loop-i.invariant (omega (arith, c.loop-i-test.true)), patches_few c.args.symbols.now c.args.self.now.place c.args.self.now.parser c.args.patches.now c.loop-i.self.place c.loop-i.self.size c.loop-i.self.parser c.loop-i.i c.loop-i.invariant)

pub returns-in_err-add_patch-clause-gives : goal.returns-in_err-add_patch-clause-gives
returns-in_err-add_patch-clause-gives c =
    rw (asked_each _ c.args.patches.now (sym c.if-is_empty.ensures)) (passed_on _ c.from_residual.result c.in_err-add_patch.field-0.0 _ c.from_residual.ensures.1 (patches_err c.args.symbols.now c.args.self.now.place c.args.self.now.parser c.args.patches.now c.loop-i.self.place c.loop-i.self.size c.loop-i.self.parser c.loop-i.i c.loop-i.invariant (c.loop-i.i + 1) _ _ c.loop-i-test.true refl refl c.in_err-add_patch.field-0.0 c.in_err-add_patch.ensures.gives))

pub loop-i-preserved : goal.loop-i-preserved
loop-i-preserved c =
    patches_on c.args.symbols.now c.args.self.now.place c.args.self.now.parser c.args.patches.now c.loop-i.self.place c.loop-i.self.size c.loop-i.self.parser c.loop-i.i c.loop-i.invariant (c.loop-i.i + 1) _ _ c.loop-i-test.true refl refl c.add_patch.new.self.place c.add_patch.new.self.size c.add_patch.new.self.parser c.in_ok-add_patch.ensures.built c.in_ok-add_patch.ensures.gives c.in_ok-add_patch.ensures.added

pub returns-clause-gives : goal.returns-clause-gives
returns-clause-gives c = rw (asked_each _ c.args.patches.now (sym c.if-is_empty.ensures)) (patches_end c.args.symbols.now c.args.self.now.place c.args.self.now.parser c.args.patches.now c.loop-i.self.place c.loop-i.self.size c.loop-i.self.parser c.loop-i.i c.loop-i.invariant c.loop-i-test.false)

pub add_patch-requires-clause-next : goal.add_patch-requires-clause-next
add_patch-requires-clause-next c = grind (arith, common_steps)

pub returns-clause-added : goal.returns-clause-added
returns-clause-added c = grind (arith, common_steps)
