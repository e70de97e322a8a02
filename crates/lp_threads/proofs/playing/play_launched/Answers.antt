use Rattle.std.proofs.Common.{rules, ◌≡◌, ◌≤◌, List, length, subst, sym}
use Rattle.lp_definitions.specs.declared.event.Event.{Event}
use Rattle.lp_threads.specs.Plays.{AreSent}
use Rattle.lp_threads.proofs.Sent.{sent_in}
use Rattle.lp_threads.proofs.playing.play_launched.Goals as goal

pub returns-clause-play : goal.returns-clause-play
returns-clause-play g c =
    let events = c.args.trace.now.events in
    let its : events ≡ g.S.TraceName.events = c.requires.events in
    let few : length g.S.TraceName.events ≤ 1000000 = subst (λ (es : List Event). length es ≤ 1000000) its c.events.ensures.limits.events_few in
    let sent = sent_in g.S.TraceName.events c.in-Ok.closed.journal c.in_ok-hand.hand.seats.items c.in_ok-hand.control c.in_ok-hand.hand.full c.in-Ok.closed.told c.in-Ok.ensures.closed c.in_ok-hand.ensures.sent c.in-Ok.ensures.told (c.is_told.ensures c.if-not-is_told.false) few in
    record {
      journal = c.in-Ok.closed.journal;
      seats = c.in_ok-hand.hand.seats.items;
      control = c.in_ok-hand.control;
      patches = search rules;
      boots = search rules;
      sent = subst (λ (es : List Event). AreSent es c.in_ok-hand.hand.seats.items c.in_ok-hand.control) (sym its) sent;
      replayed = c.in-Ok.ensures.replayed;
      closed = c.in-Ok.ensures.closed;
      given = search rules;
      entries = search rules;
      others = search rules;
    }
