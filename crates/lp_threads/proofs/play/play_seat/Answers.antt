use Rattle.std.proofs.Common.{◌≡◌, Some, None, arith, refl}
use Rattle.std.proofs.lemmas.Grind.{common_steps}
use Rattle.std.proofs.lemmas.List.Elements.{All-same}
use Rattle.lp_definitions.specs.declared.event.Event.{Event}
use Rattle.lp_log.specs.Seats.{owner}
use Rattle.lp_threads.specs.Plays.{events_of}
use Rattle.lp_threads.proofs.Dealt.{owned}
use Rattle.lp_threads.proofs.Players.{ends_midway, goes_midway, starts_midway, when_none, when_some}
use Rattle.lp_threads.proofs.play.play_seat.Goals as goal

pub loop-event-init : goal.loop-event-init
loop-event-init g c = starts_midway g.S.TraceName.events c.of-script.result.now c.args.seat c.args.waiting.now.items c.requires.new (grind (arith, common_steps))

pub send-requires : goal.send-requires
send-requires g c =
    let task = c.loop-event.seat.task in
    let script = events_of task g.S.TraceName.events in
    let all = All-same (λ (event : Event). owner event ≡ Some task) c.of-script.result.now script c.loop-event.invariant.its (owned task g.S.TraceName.events) in
    record { own = all _ _ c.loop-event-test.true }

pub loop-event-preserved : goal.loop-event-preserved
loop-event-preserved g c =
    goes_midway g.S.TraceName.events c.of-script.result.now c.loop-event.event-index _ c.args.seat c.loop-event.seat c.in_ok-back.back c.args.waiting.now.items c.loop-event.waiting.items c.send.new.waiting.items
    c.loop-event-test.true c.loop-event.invariant (when_none _ _ _ c.in_default.is c.in_ok-back.ensures.sent)

pub returns-in-Some-clause-played : goal.returns-in-Some-clause-played
returns-in-Some-clause-played g c =
    let turned = when_some _ _ _ _ c.in-Some.is c.in_ok-back.ensures.sent in
    ends_midway g.S.TraceName.events c.of-script.result.now c.loop-event.event-index c.args.seat c.loop-event.seat c.in_ok-back.back (Some c.in-Some.told) c.args.waiting.now.items c.loop-event.waiting.items c.send.new.waiting.items
    c.loop-event.invariant turned.0 turned.1 (λ none. cc)

pub returns-clause-played : goal.returns-clause-played
returns-clause-played g c =
    ends_midway g.S.TraceName.events c.of-script.result.now c.loop-event.event-index c.args.seat c.loop-event.seat c.loop-event.seat None c.args.waiting.now.items c.loop-event.waiting.items c.loop-event.waiting.items
    c.loop-event.invariant refl refl (λ _. grind (arith, common_steps))
