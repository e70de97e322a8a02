-- What an engine's readers tell of where it stands.
use Rattle.std.proofs.Common.{◌≡◌, ℕ, Bool, true, false, not, ◌&&◌, length, Option, Some, None, if◌then◌else◌, nat_eq, refl, sym, ap, ◌∙◌}
use Rattle.std.specs.List.{filter_map, range_with_len, list_any}
use mathlib.Core.Path.{fun_ext}
use Rattle.lp_stack.specs.TaskView.{TaskView}
use Rattle.lp_model.specs.Rules.{Rules, IsLawful}
use Rattle.lp_numbers.specs.Numbers.{has}
use Rattle.lp_definitions.specs.declared.event.Event.{Event}
use Rattle.lp_definitions.specs.Events.{is_control}
use Rattle.lp_definitions.specs.Tasks.{Life, Fate, Unused, Live, Dead, on_live, map_live, is_unused, outlines}
use Rattle.lp_definitions.specs.Leg.{LegTask, State, Leg, after, is_alone}
use Rattle.lp_definitions.specs.Schedule.{Schedule, level, view, leg_task, waits, first_check}
use Rattle.lp_definitions.specs.Run.{is_complete_now, refused_by, shown, next_leg}
use Rattle.lp_machine.specs.Machine.{outlines_of, waits_in, switches_at, switched_task, affected, with_switches, state_of}
use Rattle.lp_transition.specs.Scan.{waiting_view, views_of}
use Rattle.lp_machine.specs.Table.{Engine, slot, fate_at, leg_tasks, state_in}
use Rattle.lp_transition.specs.Blames.{has_frame_in}
use Rattle.lp_transition.specs.Laws.{TellsLeg, TellsTask, StatesTell}
use Rattle.lp_definitions.proofs.Quantifiers.{some_live-map}
use Rattle.lp_machine_laws.proofs.Cut.{outlines_same}
use Rattle.lp_machine_laws.proofs.Steps.{complete_is, refusal_is, new_target_same, does}
use Rattle.lp_machine.proofs.EngineLemmas.{next-accepted}
use Rattle.lp_definitions.specs.Sound.{IsSound}

-- ---- Frames

-- switching leaves a task's frames
module _ (model : Rules) (s : State) (event : Event) (serial : ℕ) where
  abbrev has_serial : LegTask → Bool
  has_serial x = list_any (λ frame. nat_eq frame.serial serial) x.frames

  switched_frames : (b : Bool) (x : LegTask) → has_serial (if b then record x { level = s.target } else x) ≡ has_serial x
  switched_frames true x = refl
  switched_frames false x = refl

  switched_fate : (fate : Fate LegTask) → on_live false has_serial (map_live (switched_task model s event) fate) ≡ on_live false has_serial fate
  switched_fate Unused = refl
  switched_fate (Live x) = switched_frames (switches_at model s event x.group) x
  switched_fate Dead = refl

pub frames_stay : (model : Rules) (s : State) (event : Event) (t serial : ℕ) → has_frame_in (with_switches model s event) t serial ≡ has_frame_in (affected model s event) t serial
frames_stay model s event t serial = switched_fate model (affected model s event) event serial ((affected model s event).tasks t)

-- ---- A leg

module _ (model : Rules) (leg : Leg) where
  abbrev k : ℕ
  k = length leg.events

  abbrev s : Schedule
  s = first_check model leg

  waits_is : (group : ℕ) → waits_in (state_of model leg) group ≡ waits model leg s k group
  unfolding waits shown
  waits_is group =
      some_live-map leg.bounds (leg_task leg s k) (after model leg k) (λ t y. nat_eq y.group group && not (nat_eq y.level leg.target))

  abbrev waiting : ℕ → Life → Option TaskView
  waiting t x = if nat_eq (level leg s k x) leg.target then None else Some (view leg s t x)

  waiting_fate : (t : ℕ) (fate : Fate Life) → waiting_view leg.target t (map_live (leg_task leg s k) fate) ≡ on_live None (waiting t) fate
  waiting_fate t Unused = refl
  waiting_fate t (Live x) = refl
  waiting_fate t Dead = refl

  views_is : views_of (state_of model leg) ≡ filter_map (λ t. on_live None (waiting t) (after model leg k t)) (range_with_len 1 leg.bounds.tasks)
  unfolding views_of shown
  views_is = ap (λ f. filter_map f (range_with_len 1 leg.bounds.tasks)) (fun_ext (λ t. waiting_fate t (after model leg k t)))

  alone_is : (group t : ℕ) → is_alone leg.bounds (outlines_of (shown model leg)) group t ≡ is_alone leg.bounds (outlines (after model leg k)) group t
  unfolding shown
  alone_is group t = ap (λ now. is_alone leg.bounds now group t) (outlines_same leg s k (after model leg k))

  frames_are : IsLawful model → IsSound leg.opening → (event : Event) → refused_by model leg event ≡ None → is_control event ≡ false → (t serial : ℕ)
      → has_frame_in (affected model (state_of model leg) event) t serial ≡ has_frame_in (state_of model (next_leg model leg event)) t serial
  frames_are lawful sound event accepted plain t serial =
      let there = sym (next-accepted model (state_of model leg) event (refusal_is model leg event ∙ accepted) plain) ∙ (does model leg event lawful sound).next_state in
      sym (frames_stay model (state_of model leg) event t serial) ∙ ap (λ now. has_frame_in now t serial) there

  tells_leg : IsLawful model → TellsLeg model leg
  unfolding is_complete_now
  tells_leg lawful =
      record {
        complete = complete_is model leg;
        waits = waits_is;
        alone = alone_is;
        seen = λ t x. refl;
        views = views_is;
        refused = λ event. refusal_is model leg event;
        turns = λ event. new_target_same model (state_of model leg) leg.opening event refl refl;
        answers = λ sound event. (does model leg event lawful sound).answers;
        steps = λ sound event. (does model leg event lawful sound).next_state;
        frames = λ sound event accepted plain t serial. frames_are lawful sound event accepted plain t serial;
      }

  -- ---- A task

  slot_fate : (o : Option LegTask) (used : Bool) → o ≡ on_live None (λ x. Some x) (fate_at o used)
  slot_fate (Some x) used = refl
  slot_fate None true = refl
  slot_fate None false = refl

  leg_task_fate : (fate : Fate Life) → on_live None (λ x. Some x) (map_live (leg_task leg s k) fate) ≡ on_live None (λ x. Some (leg_task leg s k x)) fate
  leg_task_fate Unused = refl
  leg_task_fate (Live x) = refl
  leg_task_fate Dead = refl

  unused_fate : (fate : Fate Life) → is_unused (map_live (leg_task leg s k) fate) ≡ is_unused fate
  unused_fate Unused = refl
  unused_fate (Live x) = refl
  unused_fate Dead = refl

  tells_task : (e : Engine) → state_in e ≡ state_of model leg → (t : ℕ) → TellsTask model leg e t
  unfolding shown
  tells_task e there t =
      let fate : leg_tasks e.table t ≡ map_live (leg_task leg s k) (after model leg k t) = ap (λ now. now.tasks t) there in
      record {
        live = slot_fate (slot e.table t) (has e.table.used t) ∙ (ap (on_live None (λ x. Some x)) fate ∙ leg_task_fate (after model leg k t));
        used = ap is_unused fate ∙ unused_fate (after model leg k t);
      }

pub states_tell : (model : Rules) → IsLawful model → StatesTell model
states_tell model lawful =
    record {
      leg = λ leg. tells_leg model leg lawful;
      task = λ leg e there t. tells_task model leg e there t;
    }
