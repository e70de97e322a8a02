-- The laws of Linux's procedure, of either release: it decides as the first-check schedule under `hybrid`.
use Rattle.std.specs.Prelude.{◌≡◌, ◌≢◌, ◌↔◌, ℕ, true, false, not, ◌&&◌, ◌||◌, [], ◌∷◌, None, IsTrue, nat_eq}
use Rattle.lp_model.specs.Row.{rules_of}
use Rattle.lp_models.specs.Models.{hybrid}
use Rattle.lp_definitions.specs.declared.event.Event.{Event}
use Rattle.lp_model.specs.declared.check.CheckKind.TheVariants.{Resched, Walk}
use Rattle.lp_definitions.specs.declared.event.Event.TheVariants.{Walk, Enable, Disable}
use Rattle.lp_definitions.specs.Events.{is_control}
use Rattle.lp_definitions.specs.Tasks.{Live, map_live}
use Rattle.lp_definitions.specs.Leg.{LegTask, Leg}
use Rattle.lp_machine.specs.Machine.{view_of}
use Rattle.lp_definitions.specs.Run.{Run, AreInRange, is_complete_now, refused_by, shown, next_leg, reply, leg_of}
use Rattle.lp_linux.specs.Transition.{Release, KLP_UNDEFINED, TaskStruct, Linux, is_ok, klp_try_switch_task, klp_try_complete_transition, klp_enable_patch, klp_disable_patch}
use Rattle.lp_linux.specs.Events.{refusal, step, run, has, AreOf, boot}
use Rattle.lp_linux.specs.Reading.{awaits_walk, heard_as, heard, NoneLate, task_of, Heads, own_code_of, code_of, names}

-- the kernel after the events of a run, and the leg in which the engine is after them, as it heard them
abbrev pub kernel_after : Release → Run → Linux
kernel_after release r = run release (boot r.bounds r.patches r.boots) r.events

abbrev pub leg_after : Release → Run → Leg
leg_after release r =
    leg_of (rules_of hybrid) (record r { events = heard release (boot r.bounds r.patches r.boots) r.events })

-- the kernel stands as the leg does
pub record StandsAs (m : Linux) (leg : Leg) : Type 0 where
  -- each task: its class, its mode, the version of each function on its stack, its patch state and its flag
  pub tasks : (t : ℕ) → m.tasks t ≡ map_live (task_of m.klp leg.target) (shown (rules_of hybrid) leg t)
  -- whether and where a transition heads
  pub heads : Heads m.klp leg.from leg.target (shown (rules_of hybrid) leg)
  -- outside of transitions each patch state is KLP_UNDEFINED and no flag is set; in one no patch state is KLP_UNDEFINED. So none
  -- of the kernel's warnings of a wrong patch state or flag comes
  pub settled :
      m.klp.klp_transition_patch ≡ 0 → (t : ℕ) (task : TaskStruct) → m.tasks t ≡ Live task →
      (task.patch_state ≡ KLP_UNDEFINED) × (task.TIF_PATCH_PENDING ≡ false)
  pub unsettled :
      m.klp.klp_transition_patch ≢ 0 → (t : ℕ) (task : TaskStruct) → m.tasks t ≡ Live task → task.patch_state ≢ KLP_UNDEFINED
  -- outside of transitions the leg is complete. klp_transition_patch is set and no task is pending where the leg is complete, and
  -- the kernel hasn't noticed it yet
  pub complete : m.klp.klp_transition_patch ≡ 0 → IsTrue (is_complete_now (rules_of hybrid) leg)
  pub awaits : awaits_walk m ≡ (not (nat_eq m.klp.klp_transition_patch 0) && is_complete_now (rules_of hybrid) leg)

-- what klp_try_switch_task returns for a task: at a walk busy comes before the stack, and it is switched where it is admitted
pub record TriesAs (m : Linux) (leg : Leg) (t : ℕ) (x : LegTask) : Type 0 where
  pub code : (klp_try_switch_task false m.klp (task_of m.klp leg.target x)).code ≡ code_of leg.aim x
  pub admits : is_ok (code_of leg.aim x) ≡ (nat_eq x.level leg.target || (rules_of hybrid).admits Walk (view_of t x) leg.aim)
  -- and where it tries itself, as at cond_resched, the stack alone counts
  pub own_code : (klp_try_switch_task true m.klp (task_of m.klp leg.target x)).code ≡ own_code_of leg.aim x
  pub own_admits :
      is_ok (own_code_of leg.aim x) ≡ (nat_eq x.level leg.target || (rules_of hybrid).admits Resched (view_of t x) leg.aim)

-- what one more event does, after which the kernel is `now`
pub record StepsAs (m now : Linux) (leg : Leg) (event : Event) : Type 0 where
  -- it is refused by both or by neither
  pub refused : (refusal m event ≡ None) ↔ (refused_by (rules_of hybrid) leg (heard_as m event) ≡ None)
  -- and for the same reason, where it is heard as it is
  pub reason :
      heard_as m event ≡ event → refusal m event ≡ refused_by (rules_of hybrid) leg (heard_as m event)
  -- the tasks whose flag it clears are those that the reply names
  pub switches :
      is_control event ≡ false → (t : ℕ) (before after : TaskStruct) →
      m.tasks t ≡ Live before → now.tasks t ≡ Live after →
      (before.TIF_PATCH_PENDING && not after.TIF_PATCH_PENDING) ≡ names (reply (rules_of hybrid) leg event).what t
  -- the kernel completes the transition at a walk after which nobody is off the target
  pub completes :
      m.klp.klp_transition_patch ≢ 0 → now.klp.klp_transition_patch ≡ 0 →
      (event ≡ Walk) × IsTrue (is_complete_now (rules_of hybrid) (next_leg (rules_of hybrid) leg (heard_as m event)))
  -- until then no task's flag is set again
  pub keeps_awaiting :
      IsTrue (awaits_walk m) → is_control event ≡ false → event ≢ Walk → IsTrue (awaits_walk now)
  -- and at the first such walk
  pub completes_first :
      event ≡ Walk → IsTrue (is_complete_now (rules_of hybrid) (next_leg (rules_of hybrid) leg (heard_as m event))) →
      now.klp.klp_transition_patch ≡ 0

-- Linux's procedure decides as the definitions do, for every list of events that the release has
pub record DecidesAsHybrid (release : Release) : Type 0 where
  pub stands :
      (r : Run) → AreInRange r.bounds r.boots → AreOf release r.events → StandsAs (kernel_after release r) (leg_after release r)
  pub steps :
      (r : Run) → AreInRange r.bounds r.boots → AreOf release r.events → (event : Event) → IsTrue (has release event) →
      StepsAs (kernel_after release r) (step release (kernel_after release r) event) (leg_after release r) event
  pub tries :
      (r : Run) → AreInRange r.bounds r.boots → AreOf release r.events → (kernel_after release r).klp.klp_transition_patch ≢ 0 →
      (t : ℕ) (x : LegTask) → shown (rules_of hybrid) (leg_after release r) t ≡ Live x →
      TriesAs (kernel_after release r) (leg_after release r) t x
  -- where no control event falls between the completion of a leg and the walk that notices it, the engine hears the events as they are
  pub same_events :
      (r : Run) → NoneLate release (boot r.bounds r.patches r.boots) r.events →
      leg_after release r ≡ leg_of (rules_of hybrid) r
  -- an enabling and a disabling of the kernel walk at once: they are two events
  pub enables :
      (m : Linux) → refusal m Enable ≡ None →
      run release m (Enable ∷ Walk ∷ []) ≡ klp_try_complete_transition (klp_enable_patch m)
  pub disables :
      (m : Linux) → refusal m Disable ≡ None →
      run release m (Disable ∷ Walk ∷ []) ≡ klp_try_complete_transition (klp_disable_patch m)
