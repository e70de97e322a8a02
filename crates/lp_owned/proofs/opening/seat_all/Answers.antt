use Rattle.std.proofs.Common.{◌≡◌, ◌∷◌, ◌++◌, [], List, ℕ, Some, true, length, ap, arith, rules, subst, sym, ◌∙◌, append_assoc, append-nil}
use Rattle.std.specs.Vec.Iter.{into_iter_items}
use Rattle.lp_log.specs.Seats.{Seated}
use Rattle.lp_parts.specs.Parts.{Among}
use Rattle.lp_owned.proofs.Back.{nothing_left}
use Rattle.lp_owned.proofs.Seating.{AreSeated, counts, has_seat, is_free, one_seated}
use Rattle.lp_owned.proofs.opening.seat_all.Goals as goal

pub give-part-requires-clause-free : goal.give-part-requires-clause-free
give-part-requires-clause-free g c =
    let at = c.loop-seat in
    let x : Seated = c.in-Some.seat in
    let steps : into_iter_items at.seat-iterator ≡ x ∷ into_iter_items c.next.new.self = c.in-Some.ensures.steps.0 in
    let parts : at.yielded ++ x ∷ into_iter_items c.next.new.self ≡ c.args.seats.items = ap (λ (l : List Seated). at.yielded ++ l) (sym steps) ∙ at.invariant.0 ∙ c.into_iter-seat-iterator.ensures.into_iter_gives.0 in
    λ there. is_free c.args.seats.items at.yielded (into_iter_items c.next.new.self) at.owned.items at.keeper x c.requires.new parts at.invariant.1
    (subst (λ (t : ℕ). Among (Some t) at.keeper.out) c.task.ensures there)

pub loop-seat-preserved : goal.loop-seat-preserved
loop-seat-preserved g c =
    let at = c.loop-seat in
    let x : Seated = c.in-Some.seat in
    let steps : into_iter_items at.seat-iterator ≡ x ∷ into_iter_items c.next.new.self = c.in-Some.ensures.steps.0 in
    let items : c.push.new.self.items ≡ at.owned.items ++ x ∷ [] = search rules in
    let out : c.give-part.new.self.out ≡ Some x.task ∷ at.keeper.out = c.give-part.ensures.out ∙ ap (λ (t : ℕ). Some t ∷ at.keeper.out) c.task.ensures in (
      append_assoc at.yielded (x ∷ []) (into_iter_items c.next.new.self) ∙ ap (λ (l : List Seated). at.yielded ++ l) (sym steps) ∙ at.invariant.0,
      subst (λ (l : List Seated). AreSeated (at.yielded ++ x ∷ []) l c.give-part.new.self) (sym items)
          (one_seated at.yielded at.owned.items at.keeper c.give-part.new.self x at.invariant.1 c.give-part.ensures.all out),
      let was = at.invariant.2 in
          let fewer = c.in-Some.ensures.steps.1 in
          let short = ap length steps in
          omega arith,
    )

pub returns-clause-out : goal.returns-clause-out
returns-clause-out g c =
    let at = c.loop-seat in
    let empty : into_iter_items at.seat-iterator ≡ [] = nothing_left (into_iter_items at.seat-iterator) (sym at.invariant.2 ∙ c.in-None.ensures.steps.0) in
    let all : at.yielded ≡ c.args.seats.items = sym (append-nil at.yielded) ∙ ap (λ (l : List Seated). at.yielded ++ l) (sym empty) ∙ at.invariant.0 ∙ c.into_iter-seat-iterator.ensures.into_iter_gives.0 in
    λ t there. counts c.args.seats.items t (subst (λ (l : List Seated). has_seat t l ≡ true) all (at.invariant.1.out t there))
