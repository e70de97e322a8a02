-- Who waits once a control event has opened a transition.
use Rattle.std.specs.Prelude.{Bool, not, if◌then◌else◌}
use Rattle.lp_definitions.specs.declared.event.Event.{Event}
use Rattle.lp_definitions.specs.declared.event.Event.TheVariants.{Reverse}

-- at a reversal the live tasks that didn't wait before, else all live ones
abbrev pub waits_turned : Event → (is_live waited : Bool) → Bool
waits_turned Reverse is_live waited = if is_live then not waited else waited
waits_turned _ is_live waited = is_live
