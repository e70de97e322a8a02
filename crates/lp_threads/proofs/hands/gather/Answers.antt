use Rattle.std.proofs.Common.{◌≡◌, ◌∷◌, ◌++◌, [], All, List, ap, arith, length, subst, sym, ◌∙◌, append_assoc, append-nil}
use Rattle.std.specs.Option.{option_or}
use Rattle.std.specs.Vec.Iter.{into_iter_items}
use Rattle.lp_owned.proofs.Back.{nothing_left}
use Rattle.lp_log.specs.Seats.{Seated}
use Rattle.lp_threads.proofs.Players.{AreGathered, IsIn, one_gathered}
use Rattle.lp_threads.proofs.hands.gather.Goals as goal

pub loop-hand-preserved : goal.loop-hand-preserved
loop-hand-preserved g c =
    let at = c.loop-hand in
    let x = c.in-Some.hand in
    let steps : into_iter_items at.hand-iterator ≡ x ∷ into_iter_items c.next.new.self = c.in-Some.ensures.steps.0 in
    let played = c.in_ok-seats.field-0 in
    let done = one_gathered (λ h. h.promise.hand.value.items) g.S.TraceName.events at.yielded x at.all.items played.seats.items at.full played.full at.invariant.1 c.in_ok-seats.ensures in
    let all = subst (λ (l : List Seated). AreGathered (λ h. h.promise.hand.value.items) g.S.TraceName.events (at.yielded ++ x ∷ []) l (option_or at.full played.full)) (sym c.in_ok-append.ensures.items) done in (
      append_assoc at.yielded (x ∷ []) (into_iter_items c.next.new.self) ∙ ap (λ l. at.yielded ++ l) (sym steps) ∙ at.invariant.0,
      subst (λ full. AreGathered (λ h. h.promise.hand.value.items) g.S.TraceName.events (at.yielded ++ x ∷ []) c.append.new.self.items full) (sym c.or-full.ensures) all,
      let was = at.invariant.2 in
          let fewer = c.in-Some.ensures.steps.1 in
          let short = ap length steps in
          omega arith,
    )

pub returns-clause-given : goal.returns-clause-given
returns-clause-given g c =
    let at = c.loop-hand in
    let empty : into_iter_items at.hand-iterator ≡ [] = nothing_left (into_iter_items at.hand-iterator) (sym at.invariant.2 ∙ c.in-None.ensures.steps.0) in
    let all : at.yielded ≡ c.args.hands.items = sym (append-nil at.yielded) ∙ ap (λ l. at.yielded ++ l) (sym empty) ∙ at.invariant.0 ∙ c.into_iter-hand-iterator.ensures.into_iter_gives.0 in
    λ k d within. subst (λ l. All (IsIn (λ h. h.promise.hand.value.items) at.all.items) l) all at.invariant.1.given k d within
