-- The engine as a machine: a state, and what an event makes of it. Up to its last section it knows no run, no leg and no
-- schedule, and a law ties it to the definitions that do.
use Rattle.std.specs.Prelude.{ℕ, suc, pred, ◌+◌, Bool, false, not, ◌&&◌, ◌||◌, List, [], ◌∷◌, ◌++◌, length, take, filter, Option, Some, None, if◌then◌else◌, nat_eq}
use Rattle.std.specs.List.{range_with_len}
use Rattle.lp_stack.specs.declared.view.Class.TheVariants.{Normal}
use Rattle.lp_stack.specs.declared.view.Mode.{Mode}
use Rattle.lp_stack.specs.declared.view.Mode.TheVariants.{User, Kernel, Asleep}
use Rattle.lp_model.specs.declared.check.CheckKind.{CheckKind}
use Rattle.lp_model.specs.declared.check.ForkKind.{ForkKind}
use Rattle.lp_stack.specs.TaskView.{TaskView}
use Rattle.lp_model.specs.Rules.{Rules}
use Rattle.lp_stack.specs.declared.frame.Frame.{Frame}
use Rattle.lp_definitions.specs.declared.event.Event.{Event}
use Rattle.lp_definitions.specs.declared.event.Event.TheVariants.{Call, Ret, Sleep, Wake, Enter, Exit, Idle, Resched, Fork, Die, Walk, Stop, Enable, Disable, Reverse}
use Rattle.lp_definitions.specs.declared.refusal.Refusal.{Refusal}
use Rattle.lp_definitions.specs.Tasks.{Fate, Dead, on_live, map_live, first_of, Outline, Outlines, tests, change, Grouping}
use Rattle.lp_definitions.specs.Leg.{LegTask, State, Leg, each_live, some_live, check_by, if_used}
use Rattle.lp_definitions.specs.declared.reply.What.{What}
use Rattle.lp_definitions.specs.declared.reply.What.TheVariants.{Ran, Done, Refused}
use Rattle.lp_definitions.specs.declared.reply.Reply.{Reply}
use Rattle.lp_definitions.specs.Run.{switched, control_tests, new_target, shown}
use Rattle.lp_symbols.specs.declared.sym_id.SymId.{SymId}
use Rattle.lp_definitions.specs.Events.{is_control}

-- each task number's fate, with the levels of live tasks
abbrev pub LegTasks : Type 0
LegTasks = ℕ → Fate LegTask

-- a live task without its level and its frames, and the same of all tasks
abbrev pub outline_of : LegTask → Outline
outline_of x = record { class = x.class; mode = x.mode; group = x.group; depth = length x.frames }

abbrev pub outlines_of : LegTasks → Outlines
outlines_of now t = map_live outline_of (now t)

-- what a check sees of a task
abbrev pub view_of : ℕ → LegTask → TaskView
view_of t x = record { task = t; class = x.class; mode = x.mode; frames = x.frames }

-- ---- An event's own effect

-- it sleeps, wakes up or enters the kernel; it calls; it returns; a child of it is born
abbrev pub put_in : Mode → LegTask → LegTask
put_in mode x = record x { mode = mode }

abbrev pub calling : ℕ → SymId → LegTask → LegTask
calling serial func x =
    let frame : Frame = record { func = func; level = record { 0 = x.level }; serial = serial } in
    record x { frames = x.frames ++ frame ∷ [] }

abbrev pub returning : LegTask → LegTask
returning x = record x { frames = take (pred (length x.frames)) x.frames }

abbrev pub bearing : Grouping → ℕ → ForkKind → LegTask → LegTask
bearing grouping c how x =
    record { class = Normal; mode = Kernel; group = grouping x.group c how; level = x.level; frames = [] }

-- what an accepted event with this number does to the tasks
abbrev pub own_effect : Grouping → ℕ → Event → LegTasks → LegTasks
own_effect grouping number (Call t f) now = change t.0 (calling number f) now
own_effect grouping number (Ret t) now = change t.0 returning now
own_effect grouping number (Sleep t) now = change t.0 (put_in Asleep) now
own_effect grouping number (Wake t) now = change t.0 (put_in Kernel) now
own_effect grouping number (Enter t) now = change t.0 (put_in Kernel) now
own_effect grouping number (Exit t) now = change t.0 (put_in User) now
own_effect grouping number (Idle t) now = now
own_effect grouping number (Resched t) now = now
own_effect grouping number (Fork p c how) now =
    λ x. if nat_eq x c.0 then map_live (bearing grouping c.0 how) (now p.0) else now x
own_effect grouping number (Die t) now = λ x. if nat_eq x t.0 then Dead else now x
own_effect grouping number Walk now = now
own_effect grouping number Stop now = now
own_effect grouping number Enable now = now
own_effect grouping number Disable now = now
own_effect grouping number Reverse now = now

-- ---- Who waits, and who switches

-- no live task is off the target
abbrev pub complete_in : State → Bool
complete_in s = each_live s.bounds s.tasks (λ t x. nat_eq x.level s.target)

-- the group has a live member that is off the target
abbrev pub waits_in : State → ℕ → Bool
waits_in s group = some_live s.bounds s.tasks (λ t x. nat_eq x.group group && not (nat_eq x.level s.target))

module _ (model : Rules) where
  -- at this kind of check each live member is admitted
  abbrev pub admits_all : State → Option CheckKind → ℕ → Bool
  admits_all s None group = false
  admits_all s (Some kind) group =
      each_live s.bounds s.tasks (λ t x. not (nat_eq x.group group) || model.admits kind (view_of t x) s.aim)

  -- the group switches at this event, whose own effect is there already
  unfoldable pub switches_at : State → Event → ℕ → Bool
  switches_at s event group =
      waits_in s group
      && admits_all s (if_used model.uses (check_by s.bounds (outlines_of s.tasks) (Some event) group)) group

  -- the groups that switch, in increasing order
  unfoldable pub switched_groups : State → Event → List ℕ
  switched_groups s event = filter (switches_at s event) (range_with_len 0 (suc s.bounds.tasks))

  -- a task after the switching
  abbrev pub switched_task : State → Event → LegTask → LegTask
  switched_task s event x = if switches_at s event x.group then record x { level = s.target } else x

  -- ---- One event

  -- why the event is refused; None where it is accepted
  unfoldable pub refusal_of : State → Event → Option Refusal
  refusal_of s event = first_of (tests s.bounds (outlines_of s.tasks) event ++ control_tests s (complete_in s) event)

  -- a refused event takes a number
  abbrev pub counted : State → State
  counted s = record s { number = suc s.number }

  -- after the event's own effect
  abbrev pub affected : State → Event → State
  affected s event =
      record s { number = suc s.number; tasks = own_effect model.child_group (suc s.number) event s.tasks }

  -- after the groups switched too
  abbrev pub with_switches : State → Event → State
  with_switches s event =
      let now = affected s event in
      record now { tasks = λ t. map_live (switched_task now event) (now.tasks t) }

  -- after a control event
  abbrev pub turned : State → Event → State
  turned s event =
      record {
        number = suc s.number;
        bounds = s.bounds;
        from = s.target;
        aim = record { patches = s.patches; target = new_target s event };
        tasks = s.tasks;
      }

  -- the state after an event that was refused so, or accepted
  abbrev pub next_by : State → Event → Option Refusal → State
  next_by s event (Some why) = counted s
  next_by s event None = if is_control event then turned s event else with_switches s event

  -- the state after the event
  unfoldable pub next : State → Event → State
  next s event = next_by s event (refusal_of s event)

  -- the level of a task
  abbrev pub level_of : State → ℕ → ℕ
  level_of s t = on_live 0 (λ x. x.level) (s.tasks t)

  -- what an accepted event that is no control event did
  abbrev pub told : State → Event → What
  told s (Call t f) = Ran (record { 0 = level_of s t.0 })
  told s event = switched (switched_groups (affected s event) event)

  -- the answer to an event that is refused so, or accepted
  abbrev pub answer_by : State → Event → Option Refusal → Reply
  answer_by s event (Some why) = record { what = Refused why; completed = false }
  answer_by s event None =
      if is_control event then record { what = Done; completed = complete_in (turned s event) }
      else record { what = told s event; completed = complete_in (with_switches s event) && not (complete_in s) }

  -- the answer to the event
  unfoldable pub answer : State → Event → Reply
  answer s event = answer_by s event (refusal_of s event)

  -- the answers to these events, one each
  unfoldable pub answers : State → List Event → List Reply
  answers s [] = []
  answers s (event ∷ events) = answer s event ∷ answers (next s event) events

  -- ---- The state after a run

  -- the state that the definitions give for where a run stands
  abbrev pub state_of : Leg → State
  state_of leg =
      record {
        number = leg.number + length leg.events;
        bounds = leg.bounds;
        from = leg.from;
        aim = leg.aim;
        tasks = shown model leg;
      }
