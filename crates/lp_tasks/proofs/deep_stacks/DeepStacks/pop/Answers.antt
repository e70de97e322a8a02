use Rattle.std.proofs.Common.{◌≡◌, None, Some, nat_eq, sym, ap, ◌∙◌, arith}
use Rattle.std.proofs.lemmas.Grind.{common_steps}
use Rattle.lp_tasks.specs.inside.Deep.{place_at, deep_at, deep_of, popped}
use Rattle.lp_tasks.proofs.DeepLemmas.{deep-write, deep-here, not_deep, still_deep, changed_twice}
use Rattle.lp_tasks.proofs.deep_stacks.DeepStacks.pop.Goals as goal

pub returns-then-left-le-OWN_FRAMES-clause-popped : goal.returns-then-left-le-OWN_FRAMES-clause-popped
returns-then-left-le-OWN_FRAMES-clause-popped c = λ t.
    let i = c.self.inside in
    let owned : place_at i.places.items c.args.task.0 ≡ Some c.from.result = ap (λ places. place_at places c.args.task.0) (sym c.as_slice.ensures.value) ∙ sym c.place_of.ensures ∙ c.in-Some.is ∙ ap Some (sym c.from.ensures) in
    let within = c.self.invariant.within c.args.task.0 c.from.result owned in
    let here = deep-here i.places.items i.stacks.items c.args.task.0 c.from.result c.index_mut.result.now owned within c.index_mut.ensures.value in
    let none : popped (deep_at (deep_of i.places.items i.stacks.items) c.args.task.0) ≡ None = ap popped here ∙ rw (← c.pop-left.ensures.rest) (not_deep c.pop-left.new.self c.pop-left.result c.pop-left.ensures.left c.if-left-le-OWN_FRAMES.true) in
    rw (← c.self.view_is, none) (c.remove.ensures t ∙ changed_twice (nat_eq t c.args.task.0) (Some c.pop-left.new.self) None _ _ (deep-write i.places.items i.stacks.items i.free _ _ c.self.invariant c.args.task.0 c.from.result c.pop-left.new.self owned t))

pub returns-else-left-le-OWN_FRAMES-clause-popped : goal.returns-else-left-le-OWN_FRAMES-clause-popped
returns-else-left-le-OWN_FRAMES-clause-popped c = λ t.
    let i = c.self.inside in
    let owned : place_at i.places.items c.args.task.0 ≡ Some c.from.result = ap (λ places. place_at places c.args.task.0) (sym c.as_slice.ensures.value) ∙ sym c.place_of.ensures ∙ c.in-Some.is ∙ ap Some (sym c.from.ensures) in
    let within = c.self.invariant.within c.args.task.0 c.from.result owned in
    let here = deep-here i.places.items i.stacks.items c.args.task.0 c.from.result c.index_mut.result.now owned within c.index_mut.ensures.value in
    let some : popped (deep_at (deep_of i.places.items i.stacks.items) c.args.task.0) ≡ Some c.pop-left.new.self = ap popped here ∙ rw (← c.pop-left.ensures.rest) (still_deep c.pop-left.new.self c.pop-left.result c.pop-left.ensures.left c.if-left-le-OWN_FRAMES.false) in
    rw (← c.self.view_is, some) (deep-write i.places.items i.stacks.items i.free _ _ c.self.invariant c.args.task.0 c.from.result c.pop-left.new.self owned t)

pub returns-then-left-le-OWN_FRAMES-clause-deep : goal.returns-then-left-le-OWN_FRAMES-clause-deep
returns-then-left-le-OWN_FRAMES-clause-deep c = grind (arith, common_steps)

pub returns-else-left-le-OWN_FRAMES-clause-deep : goal.returns-else-left-le-OWN_FRAMES-clause-deep
returns-else-left-le-OWN_FRAMES-clause-deep c = grind (arith, common_steps)

pub returns-in_default-clause-deep : goal.returns-in_default-clause-deep
returns-in_default-clause-deep c = grind (arith, common_steps)

pub returns-in_default-clause-popped : goal.returns-in_default-clause-popped
returns-in_default-clause-popped c = grind (arith, common_steps)
