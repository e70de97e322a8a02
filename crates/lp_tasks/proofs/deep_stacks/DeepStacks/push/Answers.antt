use Rattle.std.proofs.Common.{◌≡◌, ◌++◌, ◌∷◌, [], Some, sym, ap, ◌∙◌, arith}
use Rattle.std.proofs.lemmas.Grind.{common_steps}
use Rattle.lp_tasks.specs.inside.Deep.{place_at}
use Rattle.lp_tasks.proofs.DeepLemmas.{deep-write, deep-here}
use Rattle.lp_tasks.proofs.deep_stacks.DeepStacks.push.Goals as goal

pub returns-in-Some : goal.returns-in-Some
returns-in-Some c = λ t.
    let i = c.self.inside in
    let owned : place_at i.places.items c.args.task.0 ≡ Some c.from.result = ap (λ places. place_at places c.args.task.0) (sym c.as_slice.ensures.value) ∙ sym c.place_of.ensures ∙ c.in-Some.is ∙ ap Some (sym c.from.ensures) in
    let within = c.self.invariant.within c.args.task.0 c.from.result owned in
    let here = deep-here i.places.items i.stacks.items c.args.task.0 c.from.result c.index_mut.result.now owned within c.index_mut.ensures.value in
    rw (← c.self.view_is, here, c.push.ensures) (deep-write i.places.items i.stacks.items i.free _ _ c.self.invariant c.args.task.0 c.from.result (c.index_mut.result.now ++ c.args.frame ∷ []) owned t)

pub push-requires : goal.push-requires
push-requires c = grind (arith, common_steps)

pub open-requires-clause-none : goal.open-requires-clause-none
open-requires-clause-none c = grind (arith, common_steps)

pub open-requires-clause-few : goal.open-requires-clause-few
open-requires-clause-few c = grind (arith, common_steps)

pub returns-in-None : goal.returns-in-None
returns-in-None c = grind (arith, common_steps)
