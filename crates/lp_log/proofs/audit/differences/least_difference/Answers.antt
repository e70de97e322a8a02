use Rattle.std.proofs.Common.{◌≡◌, ◌+◌, ◌++◌, ◌∷◌, ◌∙◌, [], List, subst, sym, ap, arith, take, get_or, false}
use Rattle.std.proofs.lemmas.List.{get_or_default, take_more, take_all}
use Rattle.lp_log.specs.Audits.{part_of}
use Rattle.lp_log.specs.Seats.{Seated, new_seat}
use Rattle.lp_log.specs.inside.Cursors.{Follows, IsLeastDifference, cursor_at, seat_at}
use Rattle.lp_log.proofs.audit.differences.least_difference.Goals as goal

pub loop-place-preserved : goal.loop-place-preserved
loop-place-preserved c = λ entries all.
    let seats = c.args.seats.now in
    let place = c.loop-place.place in
    let seat : c.index-seats-place.result ≡ seat_at seats place = c.index-seats-place.is ∙ get_or_default seats place c.index-seats-place.result (new_seat 0) c.loop-place-test.true in
    let follows = subst (λ (s : Seated). Follows s.entries (part_of s.task entries) (get_or c.args.cursors.now place (cursor_at 0 false))) (sym seat) (all.each place c.loop-place-test.true (cursor_at 0 false)) in
    let more : take (place + 1) seats ≡ take place seats ++ c.index-seats-place.result ∷ [] = take_more seats place c.index-seats-place.result c.loop-place-test.true ∙ ap (λ (s : Seated). take place seats ++ s ∷ []) (sym c.index-seats-place.is) in
    subst (λ (ss : List Seated). IsLeastDifference entries ss c.with_seat-least.result) (sym more) (c.with_seat-least.ensures entries (take place seats) follows (c.loop-place.invariant entries all))

pub returns : goal.returns
returns c = λ entries all.
    subst (λ (ss : List Seated). IsLeastDifference entries ss c.loop-place.least) (take_all c.loop-place.place c.args.seats.now (omega arith)) (c.loop-place.invariant entries all)
