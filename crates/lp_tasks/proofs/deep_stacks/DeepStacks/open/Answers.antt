use Rattle.std.proofs.Common.{◌≡◌, ◌++◌, ◌∷◌, [], None, Some, set, sym, ap, ◌∙◌, arith}
use Rattle.std.proofs.lemmas.List.{get_or-set_same, get_or-set_other}
use Rattle.lp_tasks.specs.inside.Deep.{place_at}
use Rattle.lp_tasks.proofs.DeepLemmas.{unplaced, more-room, room-open, store-open, store-write, deep-open}
use Rattle.lp_tasks.proofs.deep_stacks.DeepStacks.open.Goals as goal

pub take_array-place-requires-clause-fewer : goal.take_array-place-requires-clause-fewer
take_array-place-requires-clause-fewer c =
    let i = c.self.inside in
    let none = unplaced i.places.items i.stacks.items c.from-at.result (rw (c.self.view_is, c.from-at.ensures) c.requires.none) in
    room-open i.places.items i.stacks.items i.free _ _ c.self.invariant c.reach.new.places.items c.from-at.result c.reach.ensures.same c.reach.ensures.count c.reach.ensures.few c.reach.ensures.reached none

pub invariant_of-self : goal.invariant_of-self
invariant_of-self c =
    let i = c.self.inside in
    let none = unplaced i.places.items i.stacks.items c.from-at.result (rw (c.self.view_is, c.from-at.ensures) c.requires.none) in
    let taken = c.take_array-place in
    let opened = store-open i.places.items i.stacks.items i.free _ _ c.self.invariant c.reach.new.places.items c.from-at.result c.reach.ensures.same c.reach.ensures.count c.reach.ensures.few c.reach.ensures.reached none taken.new.stacks.items taken.new.free taken.result taken.ensures.within taken.ensures.unowned taken.ensures.more taken.ensures.few taken.ensures.counted taken.ensures.left taken.ensures.wide in
    more-room (set c.reach.new.places.items c.from-at.result (Some taken.result)) (set taken.new.stacks.items c.from.result c.start.new.self) taken.new.free _ _ _ _ (store-write _ _ _ _ _ opened c.from.result c.start.new.self) c.reach.ensures.room (omega (arith, taken.ensures.room, c.self.invariant.stacks_room))

pub returns : goal.returns
returns c = λ t.
    let i = c.self.inside in
    let none = unplaced i.places.items i.stacks.items c.from-at.result (rw (c.self.view_is, c.from-at.ensures) c.requires.none) in
    let taken = c.take_array-place in
    let opened = store-open i.places.items i.stacks.items i.free _ _ c.self.invariant c.reach.new.places.items c.from-at.result c.reach.ensures.same c.reach.ensures.count c.reach.ensures.few c.reach.ensures.reached none taken.new.stacks.items taken.new.free taken.result taken.ensures.within taken.ensures.unowned taken.ensures.more taken.ensures.few taken.ensures.counted taken.ensures.left taken.ensures.wide in
    let owned : place_at (set c.reach.new.places.items c.from-at.result (Some taken.result)) c.from-at.result ≡ Some c.from.result = get_or-set_same c.reach.new.places.items c.from-at.result (Some taken.result) None c.reach.ensures.reached ∙ ap Some (sym c.from.ensures) in
    rw (← c.self.view_is, ← c.from-at.ensures, c.start.ensures) (deep-open _ i.places.items taken.new.stacks.items i.stacks.items taken.new.free _ _ opened c.from-at.result c.from.result (c.args.lower.now ++ c.args.frame ∷ []) owned (λ u ne. get_or-set_other c.reach.new.places.items c.from-at.result u (Some taken.result) None ne ∙ c.reach.ensures.same u) taken.ensures.same t)
