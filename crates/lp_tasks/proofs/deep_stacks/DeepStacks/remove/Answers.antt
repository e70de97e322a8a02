use Rattle.std.proofs.Common.{◌≡◌, Some, sym, ap₂, ◌∙◌, arith}
use Rattle.std.proofs.lemmas.Grind.{common_steps}
use Rattle.lp_tasks.specs.inside.Deep.{place_at}
use Rattle.lp_tasks.proofs.DeepLemmas.{store-close, deep-close}
use Rattle.lp_tasks.proofs.deep_stacks.DeepStacks.remove.Goals as goal

pub invariant_of-self : goal.invariant_of-self
invariant_of-self c =
    let i = c.self.inside in
    let owned : place_at i.places.items c.from.result ≡ Some c.in-Some.place = ap₂ place_at (sym c.as_slice.ensures.value) c.from.ensures ∙ sym c.place_of.ensures ∙ c.in-Some.is in
    rw c.insert.ensures.after (store-close i.places.items i.stacks.items i.free _ _ c.self.invariant c.from.result c.in-Some.place owned (rw (← c.insert.ensures.after) c.insert.ensures.numbers))

pub returns-in-Some : goal.returns-in-Some
returns-in-Some c = λ t.
    let i = c.self.inside in
    let owned : place_at i.places.items c.from.result ≡ Some c.in-Some.place = ap₂ place_at (sym c.as_slice.ensures.value) c.from.ensures ∙ sym c.place_of.ensures ∙ c.in-Some.is in
    rw (← c.self.view_is, ← c.from.ensures) (deep-close i.places.items i.stacks.items i.free _ _ c.self.invariant c.from.result c.in-Some.place owned t)

pub index_mut-requires : goal.index_mut-requires
index_mut-requires c = grind (arith, common_steps)
