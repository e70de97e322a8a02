-- What an event changes on the board, by the answer to it.
use Rattle.std.specs.Prelude.{ℕ, pred, Bool, not, ◌&&◌, List, [], ◌∷◌, Option, Some, None, if◌then◌else◌, nat_eq}
use Rattle.std.specs.List.{list_any, filter_map}
use Rattle.lp_stack.specs.declared.number.Level.{Level}
use Rattle.lp_stack.specs.declared.number.TaskId.{TaskId}
use Rattle.lp_model.specs.declared.verdict.Verdict.{Verdict}
use Rattle.lp_definitions.specs.declared.event.Event.{Event}
use Rattle.lp_definitions.specs.declared.event.Event.TheVariants.{Exit, Idle, Resched, Fork, Die, Enable, Disable, Reverse}
use Rattle.lp_definitions.specs.declared.reply.What.{What}
use Rattle.lp_definitions.specs.declared.reply.What.TheVariants.{Done, Switched, Refused}
use Rattle.lp_definitions.specs.declared.reply.Reply.{Reply}
use Rattle.lp_machine.specs.Table.{Engine, leg_tasks, slot}
use Rattle.lp_transition.specs.inside.ScanSteps.{task_switches}
use Rattle.lp_board.specs.declared.sheet.Heading.{Heading}
use Rattle.lp_board.specs.Pages.{level_of}

-- the new level of a task that was looked at, where its group switched
abbrev pub target_if : Engine → (ℕ → Bool) → Verdict → Option (TaskId × Option Level)
target_if e switches verdict =
    if task_switches switches (slot e.table verdict.task.0) then Some (verdict.task, Some (record { 0 = e.target })) else None

-- the target, for each task that was looked at and whose group switched
abbrev pub target_among : Engine → List ℕ → List Verdict → List (TaskId × Option Level)
target_among e groups verdicts = filter_map (target_if e (λ n. list_any (nat_eq n) groups)) verdicts

-- the levels that change by an event that switched groups
abbrev pub levels_switched : Engine → Event → List ℕ → List Verdict → List (TaskId × Option Level)
levels_switched e (Exit t) groups verdicts = (t, Some (record { 0 = e.target })) ∷ []
levels_switched e (Idle t) groups verdicts = (t, Some (record { 0 = e.target })) ∷ []
levels_switched e (Resched t) groups verdicts = (t, Some (record { 0 = e.target })) ∷ []
levels_switched e _ groups verdicts = target_among e groups verdicts

-- those that change by an event that switched none
abbrev pub levels_done : Engine → Event → List (TaskId × Option Level)
levels_done e (Fork p c how) = (c, level_of (leg_tasks e.table p.0)) ∷ []
levels_done e (Die t) = (t, None) ∷ []
levels_done e _ = []

abbrev pub levels_by : Engine → Event → What → List Verdict → List (TaskId × Option Level)
levels_by e event (Switched groups) verdicts = levels_switched e event groups verdicts
levels_by e event Done verdicts = levels_done e event
levels_by e event _ verdicts = []

-- the heading after an accepted event
abbrev pub heading_on : Level → Event → Bool → Heading → Heading
heading_on target Enable in_transition heading = record { in_transition = in_transition; lower = target }
heading_on target Disable in_transition heading = record { in_transition = in_transition; lower = record { 0 = pred target.0 } }
heading_on target Reverse in_transition heading = record { in_transition = in_transition; lower = heading.lower }
heading_on target _ in_transition heading = record { in_transition = heading.in_transition && in_transition; lower = heading.lower }

abbrev pub heading_unless : Level → Event → What → Bool → Heading → Heading
heading_unless target event (Refused why) in_transition heading = heading
heading_unless target event _ in_transition heading = heading_on target event in_transition heading

abbrev pub heading_by : Level → Event → Reply → Heading → Heading
heading_by target event reply heading = heading_unless target event reply.what (not reply.completed) heading
