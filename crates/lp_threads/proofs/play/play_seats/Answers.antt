use Rattle.std.proofs.Common.{List, Option, rules, subst, sym}
use Rattle.lp_definitions.specs.declared.event.Event.{Event}
use Rattle.lp_threads.proofs.Players.{IsPlaying, first_waits, has_played, is_playing, still_playing}
use Rattle.lp_threads.proofs.play.play_seats.Goals as goal

pub loop-init : goal.loop-init
loop-init g c = is_playing g.S.TraceName.events c.args.hand.items _ _ c.requires (search rules) (search rules)

pub returns-in_default : goal.returns-in_default
returns-in_default g c = has_played g.S.TraceName.events c.args.hand.items c.loop.seats.items c.loop.waiting.items c.loop.full c.loop.invariant (search rules)

pub play_seat-requires : goal.play_seat-requires
play_seat-requires g c =
    record { new = first_waits g.S.TraceName.events c.args.hand.items c.loop.seats.items c.loop.waiting.items c.in-Some-pop_front.seat c.pop_front.new.self.items c.loop.full c.loop.invariant (search rules) }

pub loop-preserved : goal.loop-preserved
loop-preserved g c =
    let more = c.push.new.self.items in
    let after = c.play_seat.new.waiting.items in
    subst (λ (full : Option (List Event)). IsPlaying g.S.TraceName.events c.args.hand.items more after full) (sym c.or-full.ensures)
    (still_playing g.S.TraceName.events c.args.hand.items c.loop.seats.items c.loop.waiting.items c.in-Some-pop_front.seat c.in_ok-back.back c.pop_front.new.self.items after more c.loop.full c.in_ok-back.stopped
    c.loop.invariant (search rules) c.in_ok-back.ensures.played c.in_ok-back.ensures.full (search rules))
