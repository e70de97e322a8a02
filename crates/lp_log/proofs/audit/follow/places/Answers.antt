use Rattle.std.proofs.Common.{◌≡◌, ◌∙◌, ℕ, ap, arith, length, subst}
use Rattle.std.proofs.lemmas.List.{get_or_default}
use Rattle.lp_log.specs.Seats.{Seated, new_seat}
use Rattle.lp_log.specs.inside.Cursors.{ArePlaces, seat_at}
use Rattle.lp_log.proofs.Places.{no_places, places_more}
use Rattle.lp_log.proofs.audit.follow.places.Goals as goal

pub loop-place-init : goal.loop-place-init
loop-place-init c = no_places c.args.seats.now c.in_ok-places.places.items c.in_ok-places.ensures.wide c.in_ok-places.ensures.none

pub loop-place-preserved : goal.loop-place-preserved
loop-place-preserved c =
    let seats = c.args.seats.now in
    let place = c.loop-place.place in
    let seat : c.index-seats-place.result ≡ seat_at seats place = c.index-seats-place.is ∙ get_or_default seats place c.index-seats-place.result (new_seat 0) c.loop-place-test.true in
    let task : c.from.result ≡ (seat_at seats place).task = c.from.ensures ∙ c.task.ensures ∙ ap (λ (s : Seated). s.task) seat in
    places_more seats place c.loop-place.places.items c.from.result c.requires c.loop-place-test.true (omega arith) task c.loop-place.invariant

pub returns : goal.returns
returns c =
    let all : c.loop-place.place ≡ length c.args.seats.now = omega arith in
    subst (λ (count : ℕ). ArePlaces c.args.seats.now count c.loop-place.places.items) all c.loop-place.invariant
