-- The child that a fork brings.
use Rattle.std.specs.Prelude.{ℕ, Option, Some, None}
use Rattle.lp_model.specs.Rules.{Rules}
use Rattle.lp_definitions.specs.declared.event.Event.{Event}
use Rattle.lp_definitions.specs.declared.event.Event.TheVariants.{Fork}
use Rattle.lp_definitions.specs.declared.refusal.Refusal.{Refusal}
use Rattle.lp_definitions.specs.Tasks.{Fate, Live, Grouping}
use Rattle.lp_definitions.specs.Leg.{LegTask, State}
use Rattle.lp_machine.specs.Machine.{bearing, refusal_of}

-- the child that a fork brings, if its parent lives
abbrev pub child_of : Grouping → ℕ → Event → Fate LegTask → Option LegTask
child_of grouping c (Fork p _ how) (Live x) = Some (bearing grouping c how x)
child_of grouping c _ _ = None

-- the child that an accepted fork brings
abbrev pub born_by : Grouping → Option Refusal → Event → (ℕ → Fate LegTask) → Option LegTask
born_by grouping None (Fork p c how) now = child_of grouping c.0 (Fork p c how) (now p.0)
born_by grouping _ event now = None

-- the child that an event brings in a state; none where it is refused
abbrev pub born_of : Rules → State → Event → Option LegTask
born_of model s event = born_by model.child_group (refusal_of model s event) event s.tasks
