use Rattle.std.proofs.Common.{◌≡◌, ◌≤◌, ◌<◌, ◌∷◌, ◌++◌, [], List, ℕ, Option, Some, length, ap, arith, subst, sym, ◌∙◌, append_assoc, append-nil}
use Rattle.std.specs.Vec.Iter.{into_iter_items}
use Rattle.lp_log.specs.Audits.{seats_of}
use Rattle.lp_log.specs.Seats.{Seated}
use Rattle.lp_parts.specs.Parts.{Among, part_for, without}
use Rattle.lp_owned.specs.Owned.{key_of}
use Rattle.lp_owned.proofs.Back.{AreBack, nothing_left, one_back}
use Rattle.lp_owned.proofs.closing.take_all_back.Goals as goal

pub loop-seat-preserved : goal.loop-seat-preserved
loop-seat-preserved g c =
    let at = c.loop-seat in
    let x : Seated = c.in-Some.seat in
    let steps : into_iter_items at.seat-iterator ≡ x ∷ into_iter_items c.next.new.self = c.in-Some.ensures.steps.0 in
    let mine : Seated = c.seat.inside.seat in
    let of : c.seat.inside.part.of ≡ Some mine.task = c.seat.invariant.0 in
    let there : Among (Some mine.task) at.keeper.out = subst (λ (k : Option ℕ). Among k at.keeper.out) of c.take_back.ensures.among in
    let part : mine.entries ≡ part_for key_of (Some mine.task) c.args.keeper.now.all =
    sym c.seat.invariant.1 ∙ c.take_back.ensures.was ∙ ap (λ (k : Option ℕ). part_for key_of k at.keeper.all) of ∙ ap (part_for key_of (Some mine.task)) at.invariant.1 in
    let done = one_back c.args.keeper.now.all c.args.keeper.now.out at.yielded at.keeper.out mine at.invariant.2 there part in
    let left : c.take_back.new.self.out ≡ without (Some mine.task) at.keeper.out = c.take_back.ensures.out ∙ ap (λ (k : Option ℕ). without k at.keeper.out) of in (
      append_assoc at.yielded (x ∷ []) (into_iter_items c.next.new.self) ∙ ap (λ (l : List Seated). at.yielded ++ l) (sym steps) ∙ at.invariant.0,
      c.take_back.ensures.all ∙ at.invariant.1,
      subst (λ (s : Seated). AreBack c.args.keeper.now.all c.args.keeper.now.out (at.yielded ++ s ∷ []) c.take_back.new.self.out) c.seat.view_is
          (subst (λ (o : List (Option ℕ)). AreBack c.args.keeper.now.all c.args.keeper.now.out (at.yielded ++ mine ∷ []) o) (sym left) done),
      let was = at.invariant.3 in
          let fewer = c.in-Some.ensures.steps.1 in
          let short = ap length steps in
          omega arith,
    )

pub returns-clause-few : goal.returns-clause-few
returns-clause-few g c =
    let at = c.loop-seat in
    let empty : into_iter_items at.seat-iterator ≡ [] = nothing_left (into_iter_items at.seat-iterator) (sym at.invariant.3 ∙ c.in-None.ensures.steps.0) in
    let all : at.yielded ≡ c.args.seats.items = sym (append-nil at.yielded) ∙ ap (λ (l : List Seated). at.yielded ++ l) (sym empty) ∙ at.invariant.0 ∙ c.into_iter-seat-iterator.ensures.into_iter_gives.0 in
    λ t. subst (λ (l : List Seated). seats_of l t ≤ 1) all (at.invariant.2.few t)

pub returns-clause-among : goal.returns-clause-among
returns-clause-among g c =
    let at = c.loop-seat in
    let empty : into_iter_items at.seat-iterator ≡ [] = nothing_left (into_iter_items at.seat-iterator) (sym at.invariant.3 ∙ c.in-None.ensures.steps.0) in
    let all : at.yielded ≡ c.args.seats.items = sym (append-nil at.yielded) ∙ ap (λ (l : List Seated). at.yielded ++ l) (sym empty) ∙ at.invariant.0 ∙ c.into_iter-seat-iterator.ensures.into_iter_gives.0 in
    λ t some. at.invariant.2.owned t (subst (λ (l : List Seated). 0 < seats_of l t) (sym all) some)
