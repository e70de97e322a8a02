use Rattle.std.proofs.Common.{rules}
use denote.Param.Always.{Once-at_one}
use Rattle.lp_threads.proofs.Players.{all_in}
use Rattle.lp_threads.proofs.playing.played.Goals as goal

pub scoped-started-requires : goal.scoped-started-requires
scoped-started-requires g c = Once-at_one _ _ (λ s. (c.requires.new, (c.requires.control, search rules)))

pub returns-clause-all_in : goal.returns-clause-all_in
returns-clause-all_in g c =
    all_in (λ h. h.promise.hand.value.items) g.S.TraceName.events g.N.DeskName.desk.boots c.args.seats.items c.in_ok-control.field-0.hands.items c.in_ok-seats.field-0.seats.items
    c.requires.seats c.in_ok-control.ensures.1.0 c.in_ok-seats.ensures.given c.in_ok-seats.ensures.children
