-- What the readers of an engine tell, for one model.
use Rattle.std.specs.Prelude.{◌≡◌, ℕ, false, length, Some, None, if◌then◌else◌, nat_eq}
use Rattle.std.specs.List.{filter_map, range_with_len}
use Rattle.lp_model.specs.Rules.{Rules}
use Rattle.lp_definitions.specs.declared.event.Event.{Event}
use Rattle.lp_definitions.specs.Tasks.{Life, on_live, is_unused, outlines}
use Rattle.lp_definitions.specs.Leg.{Leg, is_alone, after}
use Rattle.lp_definitions.specs.Schedule.{Schedule, level, view, leg_task, waits, complete, first_check}
use Rattle.lp_definitions.specs.Sound.{IsSound}
use Rattle.lp_definitions.specs.Run.{new_target, refused_by, shown, next_leg, reply}
use Rattle.lp_machine.specs.Machine.{outlines_of, view_of, complete_in, waits_in, refusal_of, affected, answer, next, state_of}
use Rattle.lp_definitions.specs.Events.{is_control}
use Rattle.lp_transition.specs.Scan.{views_of}
use Rattle.lp_machine.specs.Table.{Engine, slot, leg_tasks, state_in}
use Rattle.lp_transition.specs.Blames.{has_frame_in}

module _ (model : Rules) (leg : Leg) where
  -- how many events there are so far, and the first-check schedule
  abbrev count : ℕ
  count = length leg.events

  abbrev first : Schedule
  first = first_check model leg

  -- the words in which an engine's readers speak say of where the leg stands what the definitions say there
  pub record TellsLeg : Type 0 where
    pub complete : complete_in (state_of model leg) ≡ complete model leg first count
    pub waits : (group : ℕ) → waits_in (state_of model leg) group ≡ waits model leg first count group
    pub alone :
        (group t : ℕ) →
        is_alone leg.bounds (outlines_of (shown model leg)) group t
        ≡ is_alone leg.bounds (outlines (after model leg count)) group t
    -- what a check sees of a live task
    pub seen : (t : ℕ) (x : Life) → view_of t (leg_task leg first count x) ≡ view leg first t x
    -- a scan looks at the live tasks off the target, by increasing number
    pub views :
        let waiting_view = λ (t : ℕ) (x : Life).
        if nat_eq (level leg first count x) leg.target then None else Some (view leg first t x) in
        views_of (state_of model leg)
        ≡ filter_map (λ t. on_live None (waiting_view t) (after model leg count t)) (range_with_len 1 leg.bounds.tasks)
    -- why an event is refused, and where a control event takes the tasks
    pub refused : (event : Event) → refusal_of model (state_of model leg) event ≡ refused_by model leg event
    pub turns : (event : Event) → new_target (state_of model leg) event ≡ new_target leg.opening event
    -- the answer to an event, and where the leg stands then
    pub answers :
        IsSound leg.opening → (event : Event) → answer model (state_of model leg) event ≡ reply model leg event
    pub steps :
        IsSound leg.opening → (event : Event) → next model (state_of model leg) event ≡ state_of model (next_leg model leg event)
    -- the frames that an accepted event, if it is no control event, leaves on the stacks
    pub frames :
        IsSound leg.opening → (event : Event) → refused_by model leg event ≡ None → is_control event ≡ false →
        (t serial : ℕ) →
        has_frame_in (affected model (state_of model leg) event) t serial
        ≡ has_frame_in (state_of model (next_leg model leg event)) t serial

  -- an engine that stands there has each live task in its slot, with its class, mode, group, level and frames
  pub record TellsTask (e : Engine) (t : ℕ) : Type 0 where
    pub live : slot e.table t ≡ on_live None (λ x. Some (leg_task leg first count x)) (after model leg count t)
    pub used : is_unused (leg_tasks e.table t) ≡ is_unused (after model leg count t)

-- what the readers of an engine tell of where it stands, in words of the machine, is what the definitions say there
pub record StatesTell (model : Rules) : Type 0 where
  pub leg : (leg : Leg) → TellsLeg model leg
  pub task : (leg : Leg) (e : Engine) → state_in e ≡ state_of model leg → (t : ℕ) → TellsTask model leg e t
