-- The legs of a trace.
use Rattle.std.specs.Prelude.{ℕ, zero, suc, List, [], ◌∷◌, take, drop, Option, Some, None, if◌then◌else◌}
use Rattle.lp_model.specs.Rules.{Rules}
use Rattle.lp_definitions.specs.declared.event.Event.{Event}
use Rattle.lp_definitions.specs.Leg.{Leg}
use Rattle.lp_definitions.specs.Run.{and_then, first_leg, leg_after, next_leg, opens}
use Rattle.lp_text.specs.Traces.{TraceValue}
use Rattle.lp_replay.specs.Outcome.{run_of}

module _ (model : Rules) where
  -- a leg with those of these events that come before the next that opens one
  unfoldable pub to_end : Leg → List Event → Leg
  to_end leg [] = leg
  to_end leg (event ∷ events) = if opens model leg event then leg else to_end (and_then leg event) events

  -- the leg that the first of these events opens, to its end
  abbrev pub opened_by : Leg → List Event → Option Leg
  opened_by leg [] = None
  opened_by leg (event ∷ events) = if opens model leg event then Some (to_end (next_leg model leg event) events) else None

  -- the leg of a trace that the event of a number opens, to its end, if that event opens one
  unfoldable pub leg_numbered : TraceValue → ℕ → Option Leg
  leg_numbered trace zero = None
  leg_numbered trace (suc place) =
      opened_by (leg_after model (first_leg model (run_of trace)) (take place trace.events)) (drop place trace.events)
