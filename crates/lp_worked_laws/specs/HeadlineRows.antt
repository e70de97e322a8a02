-- Worked rows of the headline: short runs, each with its answer and with one that a wrong engine would give.
use Rattle.std.specs.Prelude.{ℕ, List, [], ◌∷◌, Some, None}
use Rattle.lp_model.specs.Rules.{Rules}
use Rattle.lp_model.specs.declared.check.ForkKind.TheVariants.{Own}
use Rattle.lp_definitions.specs.declared.event.Event.{Event}
use Rattle.lp_definitions.specs.declared.event.Event.TheVariants.{Walk, Enable}
use Rattle.lp_definitions.specs.declared.reply.Reply.{Reply}
use Rattle.lp_definitions.specs.Events.{fork}
use Rattle.lp_definitions.specs.Run.{Run}
use Rattle.lp_worked_laws.specs.Rows.{a, c, task, normal, call, sleep, enter, exit, die, done, ran, over, complete, patch_a}
use Rattle.lp_definitions.specs.declared.line.Line.{Line}
use Rattle.lp_definitions.specs.declared.line.Line.TheVariants.{Hold, Born}
use Rattle.lp_definitions.specs.declared.cert.Claim.{Claim}
use Rattle.lp_definitions.specs.declared.cert.Claim.TheVariants.{Waiting, Floor}
use Rattle.lp_definitions.specs.declared.cert.Cert.{Cert}
use Rattle.lp_definitions.specs.Ends.{LegEnd}
use Rattle.lp_definitions.specs.Certificates.{group_id}
use Rattle.lp_definitions.specs.Outcome.{Outcome}
use Rattle.lp_definitions.specs.Headline.{Headline}

-- ---- Words of the rows

-- task 1 is there from the start, and one patch, of function a
abbrev pub of_task_1 : List Event → Run
of_task_1 events = patch_a (normal 1 ∷ []) events

abbrev pub cert : Claim → (leg group upto : ℕ) → List Line → Cert
cert claim leg group upto lines = record { claim = claim; leg = leg; group = group_id group; upto = upto; lines = lines }

-- the leg that an event opened was complete at an event, and just before group 1 waited, which nothing had refused
abbrev pub completed : (opened before at : ℕ) → LegEnd
completed opened before at =
    record {
      opened = opened;
      target = record { 0 = 1 };
      completed = Some at;
      certs = cert Floor opened 1 before [] ∷ [];
    }

-- the same leg, said to take the tasks to another level
abbrev pub bound_for : ℕ → LegEnd → LegEnd
bound_for level end = record end { target = record { 0 = level } }

-- it wasn't complete by the last event, as this group waited, for these reasons
abbrev pub incomplete : (opened group last : ℕ) → List Line → LegEnd
incomplete opened group last lines =
    record {
      opened = opened;
      target = record { 0 = 1 };
      completed = None;
      certs = cert Waiting opened group last lines ∷ [];
    }

-- these replies, one leg, so many stays, and none of them mixed
abbrev pub answer : List Reply → LegEnd → ℕ → Outcome
answer replies leg stays = record { replies = replies; legs = leg ∷ []; stays = stays; mixed = 0 }

-- the headline holds of a run with one answer, and refuses it with the other
pub record TellsApart (model : Rules) (run : Run) (right wrong : Outcome) : Type 0 where
  pub holds : Headline model run right
  pub refuses : Headline model run wrong → ⊥

-- ---- Runs

-- a task leaves the kernel twice, with an empty stack
abbrev pub leaves_twice : Run
leaves_twice = of_task_1 (Enable ∷ enter 1 ∷ exit 1 ∷ enter 1 ∷ exit 1 ∷ [])

-- a task sleeps during a walk, in another function that a changed one called
abbrev pub sleeps_above_a_changed_function : Run
sleeps_above_a_changed_function = of_task_1 (enter 1 ∷ call 1 a ∷ call 1 c ∷ sleep 1 ∷ Enable ∷ Walk ∷ [])

-- a task that waits forks, and switches; its child doesn't
abbrev pub forks_and_leaves : Run
forks_and_leaves = of_task_1 (enter 1 ∷ Enable ∷ fork 1 2 Own ∷ exit 1 ∷ [])

-- the last task that waits dies, and a walk comes
abbrev pub dies_before_a_walk : Run
dies_before_a_walk = of_task_1 (enter 1 ∷ Enable ∷ die 1 ∷ Walk ∷ [])

-- a task that waits calls a function that changes
abbrev pub calls_and_waits : Run
calls_and_waits = of_task_1 (Enable ∷ enter 1 ∷ call 1 a ∷ [])

-- a task has left the kernel, and calls the function
abbrev pub calls_and_has_switched : Run
calls_and_has_switched = of_task_1 (Enable ∷ enter 1 ∷ exit 1 ∷ enter 1 ∷ call 1 a ∷ [])

-- ---- What they come to, and what wrong engines would answer

-- under the one model that the rows speak of
pub record HeadlineRefuses (hybrid : Rules) : Type 0 where
  -- the group switches at its first check, event 3, and not at its second
  pub second_allowed_check :
      TellsApart hybrid leaves_twice
      (answer (done ∷ done ∷ complete (over 1) ∷ done ∷ done ∷ []) (completed 1 2 3) 0)
      (answer (done ∷ done ∷ done ∷ done ∷ complete (over 1) ∷ []) (completed 1 4 5) 0)
  -- the frame of a keeps it back, which isn't its top frame
  pub only_the_top_frame :
      TellsApart hybrid sleeps_above_a_changed_function
      (answer (done ∷ ran 0 ∷ ran 0 ∷ done ∷ done ∷ done ∷ []) (incomplete 5 1 6 (Hold (group_id 1) (task 1) 2 6 6 ∷ [])) 1)
      (answer (done ∷ ran 0 ∷ ran 0 ∷ done ∷ done ∷ complete (over 1) ∷ []) (completed 5 5 6) 1)
  -- the child is born unpatched and waits, so the leg isn't complete when its parent switches
  pub child_born_on_target :
      TellsApart hybrid forks_and_leaves
      (answer (done ∷ done ∷ done ∷ over 1 ∷ []) (incomplete 2 2 4 (Born (group_id 2) (task 1) 3 ∷ [])) 0)
      (answer (done ∷ done ∷ done ∷ complete (over 1) ∷ []) (completed 2 3 4) 0)
  -- the leg is complete at the death, and not only at the walk
  pub completes_only_at_checks :
      TellsApart hybrid dies_before_a_walk
      (answer (done ∷ done ∷ complete done ∷ done ∷ []) (completed 2 2 3) 0)
      (answer (done ∷ done ∷ done ∷ complete done ∷ []) (completed 2 3 4) 0)
  -- until its group switches, a task runs the old version, whatever is enabled
  pub new_version_too_early :
      TellsApart hybrid calls_and_waits
      (answer (done ∷ done ∷ ran 0 ∷ []) (incomplete 1 1 3 []) 1)
      (answer (done ∷ done ∷ ran 1 ∷ []) (incomplete 1 1 3 []) 1)
  -- and from then on the new one
  pub old_version_too_long :
      TellsApart hybrid calls_and_has_switched
      (answer (done ∷ done ∷ complete (over 1) ∷ done ∷ ran 1 ∷ []) (completed 1 2 3) 1)
      (answer (done ∷ done ∷ complete (over 1) ∷ done ∷ ran 0 ∷ []) (completed 1 2 3) 1)
  -- a leg that `enable` opened is bound for the patch, and is named by that event
  pub wrong_target :
      TellsApart hybrid calls_and_waits
      (answer (done ∷ done ∷ ran 0 ∷ []) (incomplete 1 1 3 []) 1)
      (answer (done ∷ done ∷ ran 0 ∷ []) (bound_for 0 (incomplete 1 1 3 [])) 1)
  pub wrong_opening :
      TellsApart hybrid calls_and_waits
      (answer (done ∷ done ∷ ran 0 ∷ []) (incomplete 1 1 3 []) 1)
      (answer (done ∷ done ∷ ran 0 ∷ []) (record (incomplete 1 1 3 []) { opened = 2 }) 1)
