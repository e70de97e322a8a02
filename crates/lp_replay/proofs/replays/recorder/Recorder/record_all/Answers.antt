use Rattle.std.proofs.Common.{arith, List, subst, ◌++◌}
use Rattle.std.proofs.lemmas.List.{take_all}
use Rattle.lp_definitions.specs.declared.event.Event.{Event}
use Rattle.lp_replay.specs.inside.Recording.{IsRecorded}
use Rattle.lp_replay.proofs.Recording.{recorded_first, recorded_more, room_left}
use Rattle.lp_replay.proofs.replays.recorder.Recorder.record_all.Goals as goal

pub loop-event-init : goal.loop-event-init
loop-event-init g c = λ run is. recorded_first g.M.Consistency.rules run c.args.self.now is

pub step-requires : goal.step-requires
step-requires g c =
    let h = c.requires in
    let here = c.loop-event.invariant h.0 h.1 in
    let room = room_left g.M.Consistency.rules h.0 c.args.events.now c.loop-event.event-index c.loop-event.self (omega arith) h.2 here in
    record { numbered = room.0; counted = room.1 }

pub loop-event-preserved : goal.loop-event-preserved
loop-event-preserved g c = λ run is.
    recorded_more g.M.Consistency.rules run c.args.events.now c.loop-event.event-index _ c.step.new.self (omega arith) (c.in_ok-step.ensures _ (c.loop-event.invariant run is))

pub returns : goal.returns
returns g c = λ run is.
    subst (λ (es : List Event). IsRecorded g.M.Consistency.rules (record run { events = run.events ++ es }) c.loop-event.self) (take_all c.loop-event.event-index c.args.events.now (omega arith)) (c.loop-event.invariant run is)
