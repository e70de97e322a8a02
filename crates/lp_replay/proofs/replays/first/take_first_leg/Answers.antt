use Rattle.std.proofs.Common.{arith, subst, sym, length, List, ◌+◌, ◌<◌, ◌∙◌}
use Rattle.lp_definitions.specs.Ends.{LegEnd}
use Rattle.lp_cert.specs.Ends.{ends_left}
use Rattle.lp_cert.specs.Explained.{made_in}
use Rattle.lp_replay.proofs.FirstEnd.{complete_early, ended_early, ended_last, explained_more, explained_none, some_there}
use Rattle.lp_replay.proofs.Legs.{numbered}
use Rattle.lp_replay.proofs.replays.first.take_first_leg.Goals as goal

pub loop-event-init : goal.loop-event-init
loop-event-init g c = λ run is. explained_none g.M.Consistency.rules run c.args.events.now c.args.explained.now is

pub step-requires : goal.step-requires
step-requires g c =
    let h = c.requires in
    let here = c.loop-event.invariant h.0 h.1 in
    record { room = numbered g.M.Consistency.rules h.0 c.args.events.now c.loop-event.event-index c.loop-event.explained.core (omega arith) h.2 here.stands }

pub loop-event-preserved-then-is_quiet : goal.loop-event-preserved-then-is_quiet
loop-event-preserved-then-is_quiet g c = λ run is.
    explained_more g.M.Consistency.rules run c.args.events.now c.loop-event.event-index _ c.step.new.self (omega arith) (c.in_ok-step.ensures.explained _ (c.loop-event.invariant run is))

pub loop-event-preserved : goal.loop-event-preserved
loop-event-preserved g c = λ run is.
    explained_more g.M.Consistency.rules run c.args.events.now c.loop-event.event-index _ c.step.new.self (omega arith) (c.in_ok-step.ensures.explained _ (c.loop-event.invariant run is))

pub returns : goal.returns
returns g c = λ run is.
    ended_last g.M.Consistency.rules run c.args.events.now c.loop-event.event-index (made_in c.loop-event.explained) (omega arith) (c.loop-event.invariant run is).made.of_run

pub returns-then-not-is_empty : goal.returns-then-not-is_empty
returns-then-not-is_empty g c = λ run is.
    let now = explained_more g.M.Consistency.rules run c.args.events.now c.loop-event.event-index _ c.step.new.self (omega arith) (c.in_ok-step.ensures.explained _ (c.loop-event.invariant run is)) in
    ended_early g.M.Consistency.rules run c.args.events.now (c.loop-event.event-index + 1) (made_in c.step.new.self) now.made.of_run (subst (λ (l : List LegEnd). 0 < length l) c.ended.ensures (some_there (ends_left c.ended.result) c.is_empty.result c.is_empty.ensures c.if-not-is_empty.true))

pub returns-then-is_complete : goal.returns-then-is_complete
returns-then-is_complete g c = λ run is.
    let now = explained_more g.M.Consistency.rules run c.args.events.now c.loop-event.event-index _ c.step.new.self (omega arith) (c.in_ok-step.ensures.explained _ (c.loop-event.invariant run is)) in
    complete_early g.M.Consistency.rules run c.args.events.now (c.loop-event.event-index + 1) (made_in c.step.new.self) now.made.of_run (sym c.is_complete.ensures ∙ c.if-is_complete.true)
