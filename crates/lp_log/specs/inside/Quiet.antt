-- Events that switch nobody, whoever they are of. Only private clauses cite this file.
use Rattle.std.specs.Prelude.{Bool, ◌&&◌, ◌||◌}
use Rattle.lp_definitions.specs.declared.event.Event.{Event}
use Rattle.lp_definitions.specs.TaskEvents.{is_quiet, is_own_check}
use Rattle.lp_definitions.specs.Leg.{State}
use Rattle.lp_machine.specs.Machine.{complete_in}

-- the event switches no group and wants no memory: it is no check, or there is nobody left to switch
abbrev pub is_quiet_now : State → Event → Bool
is_quiet_now s event = is_quiet event || (is_own_check event && complete_in s)
