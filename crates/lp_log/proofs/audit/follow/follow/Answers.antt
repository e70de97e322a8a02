use Rattle.std.proofs.Common.{◌≡◌, ◌∙◌, ◌<◌, ap, arith, length, sym}
use Rattle.std.proofs.lemmas.Grind.{common_steps}
use Rattle.std.proofs.lemmas.List.{get_or_default}
use Rattle.lp_log.specs.Seats.{Seated, new_seat, owner}
use Rattle.lp_log.specs.inside.Cursors.{seat_at}
use Rattle.lp_log.proofs.Places.{place_within, all_follow_at}
use Rattle.lp_log.proofs.audit.follow.follow.Goals as goal

pub offset_bounds-cursors-place : goal.offset_bounds-cursors-place
offset_bounds-cursors-place c =
    let within = place_within c.args.seats.now (length c.args.seats.now) c.args.places.now (owner c.args.entry.now.event) c.in-Some.place c.requires.places (sym c.in-Some.ensures) in
    omega (arith, within, c.requires.count)

pub slice_copy_out-cursor : goal.slice_copy_out-cursor
slice_copy_out-cursor c =
    let within = place_within c.args.seats.now (length c.args.seats.now) c.args.places.now (owner c.args.entry.now.event) c.in-Some.place c.requires.places (sym c.in-Some.ensures) in
    omega (arith, within, c.requires.count)

pub offset_bounds-seats-place : goal.offset_bounds-seats-place
offset_bounds-seats-place c =
    let within = place_within c.args.seats.now (length c.args.seats.now) c.args.places.now (owner c.args.entry.now.event) c.in-Some.place c.requires.places (sym c.in-Some.ensures) in
    omega (arith, within)

pub bounds-seats-place : goal.bounds-seats-place
bounds-seats-place c = place_within c.args.seats.now (length c.args.seats.now) c.args.places.now (owner c.args.entry.now.event) c.in-Some.place c.requires.places (sym c.in-Some.ensures)

pub returns-in-Some : goal.returns-in-Some
returns-in-Some c = λ before all.
    let seats = c.args.seats.now in
    let place = c.in-Some.place in
    let within : place < length seats = place_within seats (length seats) c.args.places.now (owner c.args.entry.now.event) place c.requires.places (sym c.in-Some.ensures) in
    let seat : c.index-seats-place.result ≡ seat_at seats place = c.index-seats-place.is ∙ get_or_default seats place c.index-seats-place.result (new_seat 0) within in
    let sent : c.entries.result.now ≡ (seat_at seats place).entries = c.entries.ensures ∙ ap (λ (s : Seated). s.entries) seat in
    all_follow_at before c.args.entry.now seats c.args.places.now c.args.cursors.now place c.entries.result.now _ c.after.result c.requires.places (sym c.in-Some.ensures) sent (get_or_default c.args.cursors.now place _ _ (omega (arith, within, c.requires.count))) c.after.ensures all

pub returns-in_default : goal.returns-in_default
returns-in_default c = grind (arith, common_steps)
