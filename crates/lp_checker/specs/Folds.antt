-- The leg that a certificate is checked against.
use Rattle.std.specs.Prelude.{List}
use Rattle.lp_definitions.specs.declared.event.Event.{Event}
use Rattle.lp_definitions.specs.Leg.{Leg}
use Rattle.lp_machine.specs.Table.{Engine, state_in}

-- the leg with this opening and these events
abbrev pub leg_with : Engine → List Event → Leg
leg_with opening events = record { opening = state_in opening; events = events }
