use Rattle.std.proofs.Common.{◌≡◌, ◌<◌, List, None, ap, subst, sym, ◌∙◌}
use Rattle.lp_transition.specs.Boot.{boot_refusal}
use Rattle.lp_board.specs.Names.{Name}
use Rattle.lp_log.specs.Audits.{seats_of}
use Rattle.lp_log.specs.Seats.{Seated}
use Rattle.lp_owned.specs.Owned.{EachNew, is_boot}
use Rattle.lp_owned.proofs.Seating.{boot_of}
use Rattle.lp_owned.proofs.Turns.{each_new, or_none}
use Rattle.lp_owned.proofs.book.OwnedBook.open.Goals as goal

pub seat_all-requires-clause-new : goal.seat_all-requires-clause-new
seat_all-requires-clause-new g c =
    let boots = g.N.DeskName.desk.boots in
    let free : boot_refusal boots ≡ None = ap boot_refusal (sym (ap (λ (n : Name). n.boots) c.requires.name)) ∙ c.into_parts-blank.ensures.boots in
    subst (λ (l : List Seated). EachNew l) (sym c.in-Ok.ensures.seats) (each_new boots free)

pub over-requires-clause-out : goal.over-requires-clause-out
over-requires-clause-out g c =
    let boots = g.N.DeskName.desk.boots in
    λ t there. or_none (is_boot boots t)
    ∙ boot_of boots t (subst (λ (l : List Seated). 0 < seats_of l t) c.in-Ok.ensures.seats (c.in-Ok-seat_all.ensures.out t (c.with_part-control.ensures.out t there)))
