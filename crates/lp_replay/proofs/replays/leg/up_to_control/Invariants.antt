use Rattle.std.proofs.Common.{◌≡◌, ◌≤◌, ◌<◌, ℕ, false, length, get_or}
use Rattle.lp_definitions.specs.declared.event.Event.{Event}
use Rattle.lp_definitions.specs.Events.{is_control}
use Rattle.lp_replay.proofs.replays.leg.up_to_control.Given as goal

-- no event from here on is a control event
abbrev pub invariant-loop-count : goal.invariant-loop-count
invariant-loop-count l =
    (l.count ≤ length l.events) × ((place : ℕ) (d : Event) → l.count ≤ place → place < length l.events → is_control (get_or l.events place d) ≡ false)

abbrev pub decreases-loop-count : goal.decreases-loop-count
decreases-loop-count l = l.count
