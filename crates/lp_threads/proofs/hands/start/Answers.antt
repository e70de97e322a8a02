use Rattle.std.proofs.Common.{◌≡◌, [], arith, rules}
use Rattle.std.proofs.lemmas.Grind.{common_steps}
use Rattle.std.proofs.lemmas.List.Elements.{All-drop, All-same}
use Rattle.lp_log.specs.Seats.{Seated}
use Rattle.lp_threads.proofs.Players.{all_started, is_starting, split_parts, still_starting}
use Rattle.lp_threads.proofs.hands.start.Goals as goal

pub loop-init : goal.loop-init
loop-init g c = is_starting (λ h. h.promise.hand.value.items) c.args.seats.items _ _ c.requires.seats (search rules) (search rules)

pub returns-then-is_empty-clause-covered : goal.returns-then-is_empty-clause-covered
returns-then-is_empty-clause-covered g c = all_started (λ h. h.promise.hand.value.items) c.args.seats.items c.loop.left.items c.loop.hands.items c.loop.invariant (grind (arith, common_steps))

pub start_player-requires-after_bounds : goal.start_player-requires-after_bounds
start_player-requires-after_bounds g c κs within =
    All-same (λ (seat : Seated). seat.entries ≡ []) _ _ c.in_ok-hand.ensures.tail (All-drop (λ (seat : Seated). seat.entries ≡ []) _ c.loop.left.items c.loop.invariant.new)

pub loop-preserved : goal.loop-preserved
loop-preserved g c =
    still_starting (λ h. h.promise.hand.value.items) c.args.seats.items c.loop.left.items c.split_off.new.self.items c.in_ok-hand.hand.items c.loop.hands.items c.push.new.self.items c.in_ok-player.player c.loop.invariant
    (split_parts _ _ _ _ c.in_ok-hand.ensures.items c.in_ok-hand.ensures.tail) c.in_ok-player.ensures.promised (search rules)
