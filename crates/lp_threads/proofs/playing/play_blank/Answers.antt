use Rattle.std.proofs.Common.{◌≡◌, [], refl}
use Rattle.std.proofs.lemmas.List.Elements.{All-map, All-same}
use Rattle.lp_stack.specs.declared.number.TaskId.{TaskId}
use Rattle.lp_stack.specs.declared.view.Class.{Class}
use Rattle.lp_log.specs.Seats.{Seated, new_seat}
use Rattle.lp_threads.proofs.playing.play_blank.Goals as goal

pub play_launched-requires-clause-new : goal.play_launched-requires-clause-new
play_launched-requires-clause-new g c κs within =
    All-same (λ (seat : Seated). seat.entries ≡ []) _ _ c.in-Ok.ensures.seats
    (All-map (λ (seat : Seated). seat.entries ≡ []) (λ (boot : TaskId × Class). new_seat boot.0.0) g.N.DeskName.desk.boots (λ k d inside. refl))
