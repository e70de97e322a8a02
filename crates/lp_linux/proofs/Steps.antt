-- One event of a task, or a walk: the kernel stays the function of where the engine stands.
use Rattle.std.proofs.Common.{List, [], ◌∷◌, ◌≡◌, ◌⊎◌, ◌↔◌, ℕ, suc, Bool, true, false, not, ◌&&◌, map, All, Option, Some, None, if◌then◌else◌, nat_eq, refl, sym, ap, ap₂, ◌∙◌, subst, ⊎_elim, inl, inr, arith, ◌<◌, nat_lt}
use Rattle.std.specs.List.{list_any}
use Rattle.std.proofs.lemmas.Bool.{eq-eqb, ne_eqb, eqb-false, cond-true, cond-false, eq-eqb, le-ltb, lt-ltb}
use Rattle.lp_stack.specs.declared.frame.Frame.{Frame}
use Rattle.lp_patch.specs.Patches.{patch_has, version, is_stale}
use mathlib.Core.Path.{fun_ext}
use Rattle.lp_model.specs.declared.check.CheckKind.TheVariants.{Walk}
use Rattle.lp_definitions.specs.declared.event.Event.{Event}
use Rattle.lp_definitions.specs.declared.event.Event.TheVariants.{Exit, Idle, Resched, Walk, Enable, Disable, Reverse}
use Rattle.lp_definitions.specs.declared.refusal.Refusal.{Refusal}
use Rattle.lp_definitions.specs.Events.{is_control}
use Rattle.lp_definitions.specs.Tasks.{Live, map_live}
use Rattle.lp_definitions.specs.Leg.{LegTask, State}
use Rattle.lp_definitions.specs.Sound.{RunsOneVersion}
use Rattle.lp_machine.specs.Machine.{LegTasks, view_of, complete_in, refusal_of, counted, switches_at, affected, with_switches, turned, next_by, next}
use Rattle.lp_linux.specs.Transition.{KLP_UNPATCHED, same_state, opposite, TaskStruct, TaskList, Livepatch, Linux, Walked, klp_ftrace_handler, klp_check_stack, klp_sched_try_switch, klp_complete_transition, first, below_first}
use Rattle.lp_linux.specs.Events.{refusal, unless, step as step_of}
use Rattle.lp_linux.specs.Reading.{awaits_walk, heard_as, entry_of, task_of}
use Rattle.lp_linux.proofs.Loops.{fate_from, all_tried, all_are, all_complete, all_complete_from}
use Rattle.lp_linux.proofs.Stacks.{version_within, check_up, check_down, first_is}
use Rattle.lp_linux.proofs.Newer.{happen, step}
use Rattle.lp_linux.proofs.Own.{h, Fits, same_bool, effect_fits}
use Rattle.lp_linux.specs.declared.follow.TargetState.{TargetState as Phase}
use Rattle.lp_linux.specs.declared.follow.TargetState.TheVariants.{Undefined, Patched, Unpatched}
use Rattle.lp_linux.specs.Followed.{klp_of, linux_of, stack_of, is_walk, target_state_after}
use Rattle.lp_linux.proofs.Phases.{Level, Keeps, linux_within, settled_complete, complete_levels, task_by}
use Rattle.lp_linux.proofs.TaskEvents.{linux_with, lifted, refusal_same, quiet_effect, is_unchecked, quiet_switches, exit_empty, idle_empty, exit_happens, idle_happens, looks, resched_happens, off_looks, fate_id, walked, walk_switches, walk_tasks, passes_is, passes_from}
use Rattle.lp_linux.proofs.Controls.{completes_up, completes_down}

-- ---- The machine's step

pub next-refused : (s : State) (event : Event) (why : Refusal) → refusal_of h s event ≡ Some why → next h s event ≡ counted h s
unfolding next
next-refused s event why e = ap (next_by h s event) e

next-control : (s : State) (event : Event) → refusal_of h s event ≡ None → is_control event ≡ true → next h s event ≡ turned h s event
unfolding next
next-control s event e control = ap (next_by h s event) e ∙ cond-true _ _ _ control

pub next-plain : (s : State) (event : Event) → refusal_of h s event ≡ None → is_control event ≡ false → next h s event ≡ with_switches h s event
unfolding next
next-plain s event e plain = ap (next_by h s event) e ∙ cond-false _ _ _ plain

step-refused : (m : Linux) (event : Event) (why : Refusal) → refusal m event ≡ Some why → step m event ≡ m
unfolding step_of
step-refused m event why e = ap (λ r. unless r m (happen event m)) e

pub step-accepted : (m : Linux) (event : Event) → refusal m event ≡ None → step m event ≡ happen event m
unfolding step_of
step-accepted m event e = ap (λ r. unless r m (happen event m)) e

-- ---- What a step keeps

-- the event, heard so, leads from a phase to another
pub record Does (phase : Phase) (s : State) (event heard : Event) : Type 0 where
  pub after : Phase
  pub there : step (linux_of phase s) event ≡ linux_of after (next h s heard)
  pub keeps : Keeps after (next h s heard)
  pub after_is : after ≡ target_state_after phase (is_walk event) s.target (next h s heard).target (complete_in (next h s heard))
  pub refused : (refusal (linux_of phase s) event ≡ None) ↔ (refusal_of h s heard ≡ None)
  -- and for the same reason, where it is heard as it is
  pub why : event ≡ heard → refusal (linux_of phase s) event ≡ refusal_of h s heard
  -- a transition ends at a walk after which nobody is off the target, and at each such walk
  pub ends : (phase ≡ Undefined → ⊥) → after ≡ Undefined → (event ≡ Walk) × (complete_in (next h s heard) ≡ true)
  pub ends_there : event ≡ Walk → complete_in (next h s heard) ≡ true → after ≡ Undefined

-- phases differ
abbrev is_settled : Phase → Bool
is_settled Undefined = true
is_settled Patched = false
is_settled Unpatched = false

pub up_not_settled : Patched ≡ Undefined → ⊥
up_not_settled e = let no_way : false ≡ true = ap is_settled e in absurd (cc)

pub down_not_settled : Unpatched ≡ Undefined → ⊥
down_not_settled e = let no_way : false ≡ true = ap is_settled e in absurd (cc)

-- a state with other tasks or another number
keeps_state : (phase : Phase) (s : State) (number : ℕ) (tasks : LegTasks) → Keeps phase s → Fits s.bounds.tasks (Level phase s) tasks → Keeps phase (record s { number = number; tasks = tasks })
keeps_state Undefined s number tasks keeps all = record { fits = all; turns = keeps.turns; target_in = keeps.target_in; from_in = keeps.from_in }
keeps_state Patched s number tasks keeps all = record { fits = all; turns = keeps.turns; target_in = keeps.target_in; from_in = keeps.from_in }
keeps_state Unpatched s number tasks keeps all = record { fits = all; turns = keeps.turns; target_in = keeps.target_in; from_in = keeps.from_in }

linux_state : (phase : Phase) (s : State) (number : ℕ) (tasks : LegTasks) → linux_of phase (record s { number = number; tasks = tasks }) ≡ linux_with (klp_of phase s) s tasks
linux_state Undefined s number tasks = refl
linux_state Patched s number tasks = refl
linux_state Unpatched s number tasks = refl

on_target : (phase : Phase) (s : State) → Level phase s s.target
on_target Undefined s = refl
on_target Patched s = inl refl
on_target Unpatched s = inl refl

not_walk : (event : Event) → is_walk event ≡ false → event ≡ Walk → ⊥
not_walk event plain is = let no_way : true ≡ false = sym (ap is_walk is) ∙ plain in absurd (cc)

-- nothing turns where the target stays and the event is no walk
stays_way : (phase : Phase) (event : Event) (target : ℕ) (c : Bool) → is_walk event ≡ false → phase ≡ target_state_after phase (is_walk event) target target c
stays_way phase event target c plain =
    let even : nat_lt target target ≡ false = le-ltb target target (omega arith) in
    sym (cond-false _ _ _ even ∙ (cond-false _ _ _ even ∙ ap (λ b. if b && c then Undefined else phase) plain))

-- a refused event
pub refused_does : (phase : Phase) (s : State) (event heard : Event) (why why' : Refusal) → (event ≡ heard → why ≡ why') → Keeps phase s → refusal (linux_of phase s) event ≡ Some why → refusal_of h s heard ≡ Some why' → is_walk event ≡ false → Does phase s event heard
refused_does phase s event heard why why' alike keeps r r' plain =
    let went = next-refused s heard why' r' in
    record {
      after = phase;
      there = step-refused (linux_of phase s) event why r ∙ (sym (linux_state phase s (suc s.number) s.tasks) ∙ ap (linux_of phase) (sym went));
      keeps = subst (Keeps phase) (sym went) (keeps_state phase s (suc s.number) s.tasks keeps keeps.fits);
      after_is = stays_way phase event s.target (complete_in (next h s heard)) plain ∙ ap (λ (st : State). target_state_after phase (is_walk event) s.target st.target (complete_in (next h s heard))) (sym went);
      refused = (λ none. let no_way : Some why ≡ None = sym r ∙ none in absurd (cc), λ none. let no_way : Some why' ≡ None = sym r' ∙ none in absurd (cc));
      why = λ e. r ∙ (ap Some (alike e) ∙ sym r');
      ends = λ in_transition settled. absurd (in_transition settled);
      ends_there = λ is done. absurd (not_walk event plain is);
    }

-- an accepted control event
pub control_does : (phase after : Phase) (s : State) (event heard : Event) → refusal (linux_of phase s) event ≡ None → refusal_of h s heard ≡ None → is_control heard ≡ true → is_walk event ≡ false → ((c : Bool) → target_state_after phase false s.target (turned h s heard).target c ≡ after) → (after ≡ Undefined → ⊥) → happen event (linux_of phase s) ≡ linux_of after (turned h s heard) → Keeps after (turned h s heard) → Does phase s event heard
control_does phase after s event heard r r' control plain turning moving happens keeps =
    let went = next-control s heard r' control in
    record {
      after = after;
      there = step-accepted (linux_of phase s) event r ∙ (happens ∙ ap (linux_of after) (sym went));
      keeps = subst (Keeps after) (sym went) keeps;
      after_is =
          sym (turning (complete_in (next h s heard)))
          ∙ (ap (λ b. target_state_after phase b s.target (turned h s heard).target (complete_in (next h s heard))) (sym plain)
          ∙ ap (λ (st : State). target_state_after phase (is_walk event) s.target st.target (complete_in (next h s heard))) (sym went));
      refused = (λ e. r', λ e. r);
      why = λ e. r ∙ sym r';
      ends = λ in_transition settled. absurd (moving settled);
      ends_there = λ is done. absurd (not_walk event plain is);
    }

-- ---- The events of tasks

lifted_level : (R : ℕ → Type 0) (target : ℕ) → R target → (b : Bool) (x : LegTask) → R x.level → R (lifted target b x).level
lifted_level R target on true x r = on
lifted_level R target on false x r = r

lifted_group : (target : ℕ) (b : Bool) (x : LegTask) → (lifted target b x).group ≡ x.group
lifted_group target true x = refl
lifted_group target false x = refl

module _ (phase : Phase) (s : State) (keeps : Keeps phase s) where
  abbrev R : ℕ → Type 0
  R = Level phase s

  abbrev m : Linux
  m = linux_of phase s

  -- after an event's own effect, and after the switching
  pub affected_fits : (event : Event) → is_control event ≡ false → refusal_of h s event ≡ None → Fits s.bounds.tasks R (affected h s event).tasks
  unfolding refusal_of
  affected_fits Enable plain ok = absurd (cc)
  affected_fits Disable plain ok = absurd (cc)
  affected_fits Reverse plain ok = absurd (cc)
  affected_fits event plain ok = effect_fits R s [] keeps.fits event ok (suc s.number)

  switched_fits : (tasks : LegTasks) (test : LegTask → Bool) → Fits s.bounds.tasks R tasks → Fits s.bounds.tasks R (λ t. map_live (λ x. lifted s.target (test x) x) (tasks t))
  switched_fits tasks test all t y live =
      let one = fate_from (λ x. lifted s.target (test x) x) (tasks t) y live in
      let fit = all t one.life one.live in
      record {
        positive = fit.positive;
        within = fit.within;
        own = ap (λ (z : LegTask). z.group) one.is ∙ (lifted_group s.target (test one.life) one.life ∙ fit.own);
        level = subst (λ (z : LegTask). R z.level) (sym one.is) (lifted_level R s.target (on_target phase s) (test one.life) one.life fit.level);
      }

  with_fits : (event : Event) → Fits s.bounds.tasks R (affected h s event).tasks → Fits s.bounds.tasks R (with_switches h s event).tasks
  with_fits event all = switched_fits (affected h s event).tasks (λ x. switches_at h (affected h s event) event x.group) all

  plain_keeps : (event : Event) → is_control event ≡ false → refusal_of h s event ≡ None → Keeps phase (with_switches h s event)
  plain_keeps event plain ok = keeps_state phase s (suc s.number) (with_switches h s event).tasks keeps (with_fits event (affected_fits event plain ok))

  same : (event : Event) → is_control event ≡ false → refusal m event ≡ refusal_of h s event
  same event plain = refusal_same R (klp_of phase s) s keeps.fits event plain

  accepted_does : (event : Event) → is_control event ≡ false → is_walk event ≡ false → refusal_of h s event ≡ None → happen event m ≡ linux_with (klp_of phase s) s (with_switches h s event).tasks → Does phase s event event
  accepted_does event plain no_walk ok happens =
      let went = next-plain s event ok plain in
      record {
        after = phase;
        there = step-accepted m event (same event plain ∙ ok) ∙ (happens ∙ (sym (linux_state phase s (suc s.number) (with_switches h s event).tasks) ∙ ap (linux_of phase) (sym went)));
        keeps = subst (Keeps phase) (sym went) (plain_keeps event plain ok);
        after_is = stays_way phase event s.target (complete_in (next h s event)) no_walk ∙ ap (λ (st : State). target_state_after phase (is_walk event) s.target st.target (complete_in (next h s event))) (sym went);
        refused = (λ e. ok, λ e. same event plain ∙ ok);
        why = λ e. same event plain;
        ends = λ in_transition settled. absurd (in_transition settled);
        ends_there = λ is done. absurd (not_walk event no_walk is);
      }

  -- the version that a call runs is that of the task's level
  abbrev Runs : Type 0
  Runs = (t : ℕ) (x : LegTask) (func : ℕ) → s.tasks t ≡ Live x → klp_ftrace_handler (klp_of phase s) (task_of (klp_of phase s) s.target x) func ≡ version s.patches func x.level

  module _ (runs : (t : ℕ) (x : LegTask) (func : ℕ) → s.tasks t ≡ Live x → klp_ftrace_handler (klp_of phase s) (task_of (klp_of phase s) s.target x) func ≡ version (klp_of phase s).patches func x.level) (off : (u : ℕ) (x : LegTask) → s.tasks u ≡ Live x → nat_eq x.level s.target ≡ false → klp_sched_try_switch (klp_of phase s) (task_of (klp_of phase s) s.target x) ≡ task_of (klp_of phase s) s.target (lifted s.target (looks R (klp_of phase s) s keeps.fits x) x)) where
    quiet_does : (event : Event) → is_unchecked event ≡ true → is_control event ≡ false → is_walk event ≡ false → refusal_of h s event ≡ None → Does phase s event event
    quiet_does event q plain no_walk ok =
        accepted_does event plain no_walk ok
        (quiet_effect R (klp_of phase s) s keeps.fits runs event q (suc s.number) ∙ ap (λ (st : State). linux_with (klp_of phase s) s st.tasks) (sym (quiet_switches R (klp_of phase s) s keeps.fits event (affected_fits event plain ok) q)))

    by_refusal : (event : Event) → is_control event ≡ false → is_walk event ≡ false → (refusal_of h s event ≡ None → Does phase s event event) → Does phase s event event
    by_refusal event plain no_walk taken = by (refusal_of h s event) refl
      where
        by : (r : Option Refusal) → refusal_of h s event ≡ r → Does phase s event event
        by (Some why) e = refused_does phase s event event why why (λ same_event. refl) keeps (same event plain ∙ e) e no_walk
        by None e = taken e

    task_does : (event : Event) → is_control event ≡ false → is_walk event ≡ false → Does phase s event event
    unfolding refusal_of
    task_does (Exit t) plain no_walk =
        by_refusal (Exit t) refl refl (λ ok. accepted_does (Exit t) refl refl ok (exit_happens R (klp_of phase s) s keeps.fits t (affected_fits (Exit t) refl ok) (exit_empty R (klp_of phase s) s keeps.fits t ok)))
    task_does (Idle t) plain no_walk =
        by_refusal (Idle t) refl refl (λ ok. accepted_does (Idle t) refl refl ok (idle_happens R (klp_of phase s) s keeps.fits t (affected_fits (Idle t) refl ok) (idle_empty R (klp_of phase s) s keeps.fits t ok)))
    task_does (Resched t) plain no_walk =
        by_refusal (Resched t) refl refl (λ ok. accepted_does (Resched t) refl refl ok (resched_happens R (klp_of phase s) s keeps.fits t (affected_fits (Resched t) refl ok) off))
    task_does Walk plain no_walk = absurd (cc)
    task_does Enable plain no_walk = absurd (cc)
    task_does Disable plain no_walk = absurd (cc)
    task_does Reverse plain no_walk = absurd (cc)
    task_does event plain no_walk = by_refusal event refl refl (λ ok. quiet_does event refl refl refl ok)

-- ---- Walks

walk_taken : (phase : Phase) (s : State) → refusal (linux_of phase s) Walk ≡ None
unfolding refusal
walk_taken phase s = refl

walk_accepted : (s : State) → refusal_of h s Walk ≡ None
unfolding refusal_of
walk_accepted s = refl

-- which target_state after a walk
walk_way : (phase : Phase) (target : ℕ) (c : Bool) (after : Phase) → (if c then Undefined else phase) ≡ after → after ≡ target_state_after phase true target target c
walk_way phase target c after e =
    let even : nat_lt target target ≡ false = le-ltb target target (omega arith) in
    sym (cond-false _ _ _ even ∙ (cond-false _ _ _ even ∙ e))

-- a target that rises, or falls
pub rises : (phase : Phase) (before after : ℕ) → before < after → (c : Bool) → target_state_after phase false before after c ≡ Patched
rises phase before after lt c = cond-true _ _ _ (lt-ltb before after lt)

pub falls : (phase : Phase) (before after : ℕ) → after < before → (c : Bool) → target_state_after phase false before after c ≡ Unpatched
falls phase before after lt c = cond-false _ _ _ (le-ltb before after (omega (arith, lt))) ∙ cond-true _ _ _ (lt-ltb after before lt)

-- no transition is under way
settled_walk : (s : State) → Keeps Undefined s → Does Undefined s Walk Walk
settled_walk s keeps =
    let went = next-plain s Walk (walk_accepted s) refl in
    let stay = plain_keeps Undefined s keeps Walk refl (walk_accepted s) in
    let nobody : (with_switches h s Walk).tasks ≡ s.tasks = walk_switches (Level Undefined s) (klp_of Undefined s) s keeps.fits ∙ fun_ext (λ u. fate_id (λ x. lifted s.target (walked (Level Undefined s) (klp_of Undefined s) s keeps.fits x) x) (s.tasks u) (λ x live. ap (λ b. lifted s.target (not b && h.admits Walk (view_of 0 x) s.aim) x) (eq-eqb x.level s.target (keeps.fits u x live).level))) in
    record {
      after = Undefined;
      there = step-accepted (linux_of Undefined s) Walk (walk_taken Undefined s) ∙ (ap (linux_with (klp_of Undefined s) s) (sym nobody) ∙ ap (linux_of Undefined) (sym went));
      keeps = subst (Keeps Undefined) (sym went) stay;
      after_is = walk_way Undefined s.target true Undefined refl ∙ ap₂ (λ (st : State) c. target_state_after Undefined true s.target st.target c) (sym went) (sym (settled_complete (next h s Walk) (subst (Keeps Undefined) (sym went) stay)));
      refused = (λ e. walk_accepted s, λ e. walk_taken Undefined s);
      why = λ e. walk_taken Undefined s ∙ sym (walk_accepted s);
      ends = λ in_transition settled. absurd (in_transition refl);
      ends_there = λ is done. refl;
    }

module _ (phase : Phase) (s : State) (keeps : Keeps phase s) (moving : phase ≡ Undefined → ⊥) (busy : nat_eq (klp_of phase s).klp_transition_patch 0 ≡ false) (self : same_state (klp_of phase s).klp_target_state (klp_of phase s).klp_target_state ≡ true) (other : same_state (opposite (klp_of phase s).klp_target_state) (klp_of phase s).klp_target_state ≡ false) (checks : (t : ℕ) (x : LegTask) → s.tasks t ≡ Live x → nat_eq x.level s.target ≡ false → klp_check_stack (klp_of phase s) (map (entry_of (klp_of phase s).patches) x.frames) ≡ list_any (is_stale s.aim) x.frames) (completes : (st : State) → Keeps phase st → klp_complete_transition (linux_of phase st) ≡ linux_of Undefined st) where
  abbrev klp : Livepatch
  klp = klp_of phase s

  abbrev walking : Linux
  walking = linux_of phase s

  abbrev then_state : State
  then_state = with_switches h s Walk

  stay : Keeps phase then_state
  stay = plain_keeps phase s keeps Walk refl (walk_accepted s)

  abbrev all_now : Walked
  all_now = all_tried klp s.bounds.tasks walking.tasks (linux_within phase s keeps)

  tasks_now : all_now.tasks ≡ (linux_with klp s then_state.tasks).tasks
  tasks_now = all_are klp s.bounds.tasks walking.tasks (linux_within phase s keeps) ∙ walk_tasks (Level phase s) klp s keeps.fits self other checks

  complete_now : all_now.complete ≡ complete_in then_state
  complete_now =
      same_bool all_now.complete (complete_in then_state)
      (λ e. passes_is (Level phase s) klp s keeps.fits self other checks (all_complete klp s.bounds.tasks walking.tasks (linux_within phase s keeps) e))
      (λ e. all_complete_from klp s.bounds.tasks walking.tasks (linux_within phase s keeps) (passes_from (Level phase s) klp s keeps.fits self other checks e))

  abbrev ended : Bool → TaskList → Linux
  ended complete tasks =
      let now : Linux = record { bounds = s.bounds; klp = klp; tasks = tasks } in
      if complete then klp_complete_transition now else now

  happens : happen Walk walking ≡ ended (complete_in then_state) (linux_with klp s then_state.tasks).tasks
  happens = cond-false _ _ _ busy ∙ ap₂ ended complete_now tasks_now

  walk_from : (b : Bool) → complete_in then_state ≡ b → Does phase s Walk Walk
  walk_from true done =
      let went = next-plain s Walk (walk_accepted s) refl in
      let same_there = linux_state phase s (suc s.number) then_state.tasks in
      let settled : Keeps Undefined then_state = record {
        fits = λ t x live. let fit = stay.fits t x live in record { positive = fit.positive; within = fit.within; own = fit.own; level = complete_levels then_state done (Level phase then_state) stay.fits t x live };
        turns = tt;
        target_in = stay.target_in;
        from_in = stay.from_in;
      } in
      record {
        after = Undefined;
        there = step-accepted walking Walk (walk_taken phase s) ∙ (happens ∙ (ap (λ b. ended b (linux_with klp s then_state.tasks).tasks) done ∙ (ap klp_complete_transition (sym same_there) ∙ (completes then_state stay ∙ ap (linux_of Undefined) (sym went)))));
        keeps = subst (Keeps Undefined) (sym went) settled;
        after_is = walk_way phase s.target true Undefined refl ∙ ap₂ (λ (st : State) c. target_state_after phase true s.target st.target c) (sym went) (sym (ap complete_in went ∙ done));
        refused = (λ e. walk_accepted s, λ e. walk_taken phase s);
        why = λ e. walk_taken phase s ∙ sym (walk_accepted s);
        ends = λ in_transition is. (refl, ap complete_in went ∙ done);
        ends_there = λ is over. refl;
      }
  walk_from false done =
      let went = next-plain s Walk (walk_accepted s) refl in
      let same_there = linux_state phase s (suc s.number) then_state.tasks in
      record {
        after = phase;
        there = step-accepted walking Walk (walk_taken phase s) ∙ (happens ∙ (ap (λ b. ended b (linux_with klp s then_state.tasks).tasks) done ∙ (sym same_there ∙ ap (linux_of phase) (sym went))));
        keeps = subst (Keeps phase) (sym went) stay;
        after_is = walk_way phase s.target false phase refl ∙ ap₂ (λ (st : State) c. target_state_after phase true s.target st.target c) (sym went) (sym (ap complete_in went ∙ done));
        refused = (λ e. walk_accepted s, λ e. walk_taken phase s);
        why = λ e. walk_taken phase s ∙ sym (walk_accepted s);
        ends = λ in_transition is. absurd (moving is);
        ends_there = λ is over. let no_way : true ≡ false = sym over ∙ (ap complete_in went ∙ done) in absurd (cc);
      }

  moving_walk : Does phase s Walk Walk
  moving_walk = walk_from (complete_in then_state) refl

-- ---- The phases

pub busy_up : (below : ℕ) → nat_eq (suc below) 0 ≡ false
busy_up below = ne_eqb (suc below) 0 (λ same. omega (arith, same))

-- what an unpatched task runs, while the patch above `below` is in transition
abbrev unpatched_of : ℕ → List ℕ → ℕ
unpatched_of below stack = if nat_eq (first stack) (suc below) && true then first (below_first stack) else first stack

handler_below : (s : State) (below func : ℕ) → (if nat_eq (first (stack_of s.patches (suc below) func)) (suc below) && true then first (below_first (stack_of s.patches (suc below) func)) else first (stack_of s.patches (suc below) func)) ≡ version s.patches func below
handler_below s below func = by (patch_has s.patches (suc below) func) (stack_of s.patches below func) (first_is s.patches below func)
  where
    by : (b : Bool) (rest : List ℕ) → first rest ≡ version s.patches func below → unpatched_of below (if b then suc below ∷ rest else rest) ≡ version s.patches func below
    by true rest is = ap (λ c. if c && true then first rest else suc below) (eq-eqb (suc below) (suc below) refl) ∙ is
    by false rest is =
        let small = version_within s.patches func below in
        ap (λ c. if c && true then first (below_first rest) else first rest) (ne_eqb (first rest) (suc below) (λ same. omega (arith, same, small, is))) ∙ is

and_none : (a : Bool) → (a && false) ≡ false
and_none true = refl
and_none false = refl

-- the version of a task whose patch state isn't KLP_UNPATCHED
handler_first : (klp : Livepatch) (task : TaskStruct) (func : ℕ) → same_state task.patch_state KLP_UNPATCHED ≡ false → klp_ftrace_handler klp task func ≡ first (klp.func_stack func)
handler_first klp task func e =
    let stack = klp.func_stack func in
    ap (λ b. if nat_eq (first stack) klp.klp_transition_patch && b then first (below_first stack) else first stack) e ∙ cond-false _ _ _ (and_none (nat_eq (first stack) klp.klp_transition_patch))

settled_runs : (s : State) (keeps : Keeps Undefined s) (t : ℕ) (x : LegTask) (func : ℕ) → s.tasks t ≡ Live x → klp_ftrace_handler (klp_of Undefined s) (task_of (klp_of Undefined s) s.target x) func ≡ version s.patches func x.level
settled_runs s keeps t x func live =
    let on = (keeps.fits t x live).level in
    let at = task_by (klp_of Undefined s) s.target x true (eq-eqb x.level s.target on) in
    handler_first (klp_of Undefined s) (task_of (klp_of Undefined s) s.target x) func (ap (λ (task : TaskStruct). same_state task.patch_state KLP_UNPATCHED) at) ∙ (first_is s.patches s.target func ∙ ap (version s.patches func) (sym on))

up_runs : (s : State) (keeps : Keeps Patched s) (t : ℕ) (x : LegTask) (func : ℕ) → s.tasks t ≡ Live x → klp_ftrace_handler (klp_of Patched s) (task_of (klp_of Patched s) s.target x) func ≡ version s.patches func x.level
up_runs s keeps t x func live =
    ⊎_elim
    (λ (on : x.level ≡ s.target).
    let at = task_by (klp_of Patched s) s.target x true (eq-eqb x.level s.target on) in
    handler_first (klp_of Patched s) (task_of (klp_of Patched s) s.target x) func (ap (λ (task : TaskStruct). same_state task.patch_state KLP_UNPATCHED) at) ∙ (first_is s.patches (suc s.from) func ∙ ap (version s.patches func) (sym (on ∙ keeps.turns))))
    (λ (off : x.level ≡ s.from).
    let at = task_by (klp_of Patched s) s.target x false (ne_eqb x.level s.target (λ same. omega (arith, same, off, keeps.turns))) in
    ap (λ task. klp_ftrace_handler (klp_of Patched s) task func) at ∙ (handler_below s s.from func ∙ ap (version s.patches func) (sym off)))
    (keeps.fits t x live).level

down_runs : (s : State) (keeps : Keeps Unpatched s) (t : ℕ) (x : LegTask) (func : ℕ) → s.tasks t ≡ Live x → klp_ftrace_handler (klp_of Unpatched s) (task_of (klp_of Unpatched s) s.target x) func ≡ version s.patches func x.level
down_runs s keeps t x func live =
    ⊎_elim
    (λ (on : x.level ≡ s.target).
    let at = task_by (klp_of Unpatched s) s.target x true (eq-eqb x.level s.target on) in
    ap (λ task. klp_ftrace_handler (klp_of Unpatched s) task func) at ∙ (handler_below s s.target func ∙ ap (version s.patches func) (sym on)))
    (λ (off : x.level ≡ s.from).
    let at = task_by (klp_of Unpatched s) s.target x false (ne_eqb x.level s.target (λ same. omega (arith, same, off, keeps.turns))) in
    handler_first (klp_of Unpatched s) (task_of (klp_of Unpatched s) s.target x) func (ap (λ (task : TaskStruct). same_state task.patch_state KLP_UNPATCHED) at) ∙ (first_is s.patches (suc s.target) func ∙ ap (version s.patches func) (sym (off ∙ keeps.turns))))
    (keeps.fits t x live).level

pub heard_plain : (m : Linux) (event : Event) → is_control event ≡ false → heard_as m event ≡ event
heard_plain m Enable plain = absurd (cc)
heard_plain m Disable plain = absurd (cc)
heard_plain m Reverse plain = absurd (cc)
heard_plain m event plain = either (awaits_walk m)
  where
    either : (b : Bool) → (if b then event else event) ≡ event
    either true = refl
    either false = refl

-- where no transition is under way nobody is off the target
settled_off : (s : State) (keeps : Keeps Undefined s) (u : ℕ) (x : LegTask) → s.tasks u ≡ Live x → nat_eq x.level s.target ≡ false → klp_sched_try_switch (klp_of Undefined s) (task_of (klp_of Undefined s) s.target x) ≡ task_of (klp_of Undefined s) s.target (lifted s.target (looks (Level Undefined s) (klp_of Undefined s) s keeps.fits x) x)
settled_off s keeps u x live e = absurd (eqb-false x.level s.target e (keeps.fits u x live).level)

module _ (s : State) (one : RunsOneVersion s) where
  one_at : (t : ℕ) (x : LegTask) → s.tasks t ≡ Live x → (level : ℕ) → x.level ≡ level → All (λ (frame : Frame). version s.patches frame.func.0 frame.level.0 ≡ version s.patches frame.func.0 level) x.frames
  one_at t x live level is = subst (λ n. All (λ (frame : Frame). version s.patches frame.func.0 frame.level.0 ≡ version s.patches frame.func.0 n) x.frames) is (one t x live)

  off_level : (level : ℕ) (x : LegTask) → x.level ≡ s.target ⊎ x.level ≡ level → nat_eq x.level s.target ≡ false → x.level ≡ level
  off_level level x (inl on) off = absurd (eqb-false x.level s.target off on)
  off_level level x (inr is) off = is

  pub up_checks : Keeps Patched s → (t : ℕ) (x : LegTask) → s.tasks t ≡ Live x → nat_eq x.level s.target ≡ false → klp_check_stack (klp_of Patched s) (map (entry_of s.patches) x.frames) ≡ list_any (is_stale s.aim) x.frames
  up_checks keeps t x live off =
      check_up s.patches s.from x.frames (one_at t x live s.from (off_level s.from x (keeps.fits t x live).level off)) ∙ ap (λ n. list_any (is_stale (record { patches = s.patches; target = n })) x.frames) (sym keeps.turns)

  pub down_checks : Keeps Unpatched s → (t : ℕ) (x : LegTask) → s.tasks t ≡ Live x → nat_eq x.level s.target ≡ false → klp_check_stack (klp_of Unpatched s) (map (entry_of s.patches) x.frames) ≡ list_any (is_stale s.aim) x.frames
  down_checks keeps t x live off =
      check_down s.patches s.target x.frames (one_at t x live (suc s.target) (off_level s.from x (keeps.fits t x live).level off ∙ keeps.turns))

  -- ---- All events but control events

  pub plain_does : (phase : Phase) → Keeps phase s → (event : Event) → is_control event ≡ false → Does phase s event event
  plain_does Undefined keeps Walk plain = settled_walk s keeps
  plain_does Patched keeps Walk plain = moving_walk Patched s keeps up_not_settled (busy_up s.from) refl refl (up_checks keeps) completes_up
  plain_does Unpatched keeps Walk plain = moving_walk Unpatched s keeps down_not_settled (busy_up s.target) refl refl (down_checks keeps) completes_down
  plain_does Undefined keeps event plain = task_does Undefined s keeps (settled_runs s keeps) (settled_off s keeps) event plain refl
  plain_does Patched keeps event plain = task_does Patched s keeps (up_runs s keeps) (off_looks (Level Patched s) (klp_of Patched s) s keeps.fits refl refl (up_checks keeps)) event plain refl
  plain_does Unpatched keeps event plain = task_does Unpatched s keeps (down_runs s keeps) (off_looks (Level Unpatched s) (klp_of Unpatched s) s keeps.fits refl refl (down_checks keeps)) event plain refl
