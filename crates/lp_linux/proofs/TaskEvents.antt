-- The events of tasks, and walks.
use Rattle.std.proofs.Common.{◌≡◌, ℕ, pred, Bool, true, false, not, ◌&&◌, List, [], ◌∷◌, ◌++◌, length, take, map, Option, Some, None, if◌then◌else◌, nat_eq, refl, sym, ap, ap₂, ◌∙◌, arith}
use Rattle.std.specs.List.{list_any, take-map}
use Rattle.std.proofs.lemmas.Bool.{eq-eqb, eqb-true, not-false}
use Rattle.std.proofs.lemmas.List.{map-append, length-map}
use mathlib.Core.Path.{fun_ext}
use Rattle.lp_symbols.specs.declared.sym_id.SymId.{SymId}
use Rattle.lp_stack.specs.declared.frame.Frame.{Frame}
use Rattle.lp_stack.specs.declared.number.TaskId.{TaskId}
use Rattle.lp_stack.specs.declared.view.Mode.{Mode}
use Rattle.lp_stack.specs.declared.view.Mode.TheVariants.{User, Kernel, Asleep}
use Rattle.lp_stack.specs.declared.view.Class.TheVariants.{Normal, Idle}
use Rattle.lp_patch.specs.Patches.{version, is_stale}
use Rattle.lp_model.specs.declared.check.CheckKind.{CheckKind}
use Rattle.lp_model.specs.declared.check.CheckKind.TheVariants.{KernelExit, IdlePoint, Resched, Walk, Stop}
use Rattle.lp_model.specs.declared.check.ForkKind.{ForkKind}
use Rattle.lp_models.specs.Models.{is_awake}
use Rattle.lp_definitions.specs.declared.event.Event.{Event}
use Rattle.lp_definitions.specs.declared.event.Event.TheVariants.{Call, Ret, Sleep, Wake, Enter, Exit, Idle, Resched, Fork, Die, Walk, Stop, Enable, Disable, Reverse}
use Rattle.lp_definitions.specs.declared.refusal.Refusal.TheVariants.{StackNotEmpty}
use Rattle.lp_definitions.specs.Events.{is_control}
use Rattle.lp_definitions.specs.Tasks.{Fate, Unused, Live, Dead, on_live, map_live, same_mode, first_of, depth, Outline, Outlines, tests, unknown_task, not_of, not_in, stack_not_empty}
use Rattle.lp_definitions.specs.Leg.{LegTask, State, has_member, when, check_by, if_used}
use Rattle.lp_machine.specs.Machine.{LegTasks, outline_of, outlines_of, view_of, put_in, calling, returning, bearing, own_effect, complete_in, switches_at, switched_task, refusal_of, affected, with_switches}
use Rattle.lp_laws.proofs.NextTasks.{none_first, unfit}
use Rattle.lp_definitions.proofs.Quantifiers.{each_live-at, each_live-from}
use Rattle.lp_linux.specs.Transition.{same_state, opposite, Entry, TaskStruct, TaskList, task_curr, Livepatch, Linux, klp_ftrace_handler, klp_check_stack, OK, EBUSY, EADDRINUSE, Tried, is_ok, klp_try_switch_task, klp_sched_try_switch, klp_copy_process}
use Rattle.lp_linux.specs.OwnEvents.{outlines}
use Rattle.lp_linux.specs.Events.{if_pending, born, calls, refusal}
use Rattle.lp_linux.specs.Reading.{entry_of, task_of, own_code_of, code_of}
use Rattle.lp_linux.proofs.Loops.{fate_same, fate_map, fate_from, tried, passes}
use Rattle.lp_linux.proofs.Newer.{happen}
use Rattle.lp_linux.proofs.Own.{h, Fits, exit_own, idle_own, resched_own, walk_own, quiet_own}
use Rattle.lp_linux.proofs.Phases.{moved_is, task_by}

-- the kernel with these tasks
abbrev pub linux_with : Livepatch → State → LegTasks → Linux
linux_with klp s tasks = record { bounds = s.bounds; klp = klp; tasks = λ t. map_live (task_of klp s.target) (tasks t) }

-- a task that goes over where it is asked
abbrev pub lifted : ℕ → Bool → LegTask → LegTask
lifted target b x = if b then record x { level = target } else x

pub fate_id : {A : Type 0} (f : A → A) (fate : Fate A) → ((x : A) → fate ≡ Live x → f x ≡ x) → map_live f fate ≡ fate
fate_id f Unused e = refl
fate_id f (Live x) e = ap Live (e x refl)
fate_id f Dead e = refl

no_frames : (frames : List Frame) → length frames ≡ 0 → frames ≡ []
no_frames [] e = refl
no_frames (frame ∷ frames) e = absurd (omega (arith, e))

-- an event of a task at which no task is checked, or a stop, which isn't used
abbrev pub is_unchecked : Event → Bool
is_unchecked (Call t f) = true
is_unchecked (Ret t) = true
is_unchecked (Sleep t) = true
is_unchecked (Wake t) = true
is_unchecked (Enter t) = true
is_unchecked (Fork p c how) = true
is_unchecked (Die t) = true
is_unchecked Stop = true
is_unchecked _ = false

module _ (R : ℕ → Type 0) (klp : Livepatch) (s : State) (all : Fits s.bounds.tasks R s.tasks) where
  abbrev T : LegTask → TaskStruct
  T = task_of klp s.target

  abbrev m : Linux
  m = linux_with klp s s.tasks

  abbrev tasks_in : (ℕ → Fate TaskStruct) → Linux
  tasks_in tasks = record { bounds = s.bounds; klp = klp; tasks = tasks }

  -- ---- Refusals

  outline_same : (t : ℕ) (fate : Fate LegTask) → s.tasks t ≡ fate → map_live (λ (task : TaskStruct). record { class = task.class; mode = task.mode; group = t; depth = length task.stack }) (map_live T fate) ≡ map_live outline_of fate
  outline_same t Unused e = refl
  outline_same t (Live x) e = ap₂ (λ g n. Live (record { class = x.class; mode = x.mode; group = g; depth = n })) (sym (all t x e).own) (length-map x.frames (entry_of klp.patches))
  outline_same t Dead e = refl

  outlines_same : outlines m.tasks ≡ outlines_of s.tasks
  outlines_same = fun_ext (λ t. outline_same t (s.tasks t) refl)

  pub refusal_same : (event : Event) → is_control event ≡ false → refusal m event ≡ refusal_of h s event
  unfolding refusal refusal_of
  refusal_same Enable e = absurd (cc)
  refusal_same Disable e = absurd (cc)
  refusal_same Reverse e = absurd (cc)
  refusal_same event e = ap (λ seen. first_of (tests s.bounds seen event ++ [])) outlines_same

  -- ---- Events that are no check

  change_fate : (f : TaskStruct → TaskStruct) (g : LegTask → LegTask) (b : Bool) (fate : Fate LegTask) → ((x : LegTask) → fate ≡ Live x → f (T x) ≡ T (g x)) → (if b then map_live f (map_live T fate) else map_live T fate) ≡ map_live T (if b then map_live g fate else fate)
  change_fate f g true Unused e = refl
  change_fate f g true (Live x) e = ap Live (e x refl)
  change_fate f g true Dead e = refl
  change_fate f g false fate e = refl

  fork_fate : (c : ℕ) (how : ForkKind) (parent : Fate LegTask) (b : Bool) (fate : Fate LegTask) → (if b then map_live (λ current. klp_copy_process current born) (map_live T parent) else map_live T fate) ≡ map_live T (if b then map_live (bearing h.child_group c how) parent else fate)
  fork_fate c how Unused true fate = refl
  fork_fate c how (Live y) true fate = refl
  fork_fate c how Dead true fate = refl
  fork_fate c how parent false fate = refl

  die_fate : (b : Bool) (fate : Fate LegTask) → (if b then Dead else map_live T fate) ≡ map_live T (if b then Dead else fate)
  die_fate true fate = refl
  die_fate false fate = refl

  -- the version that a call runs
  module _ (ran : (t : ℕ) (x : LegTask) (func : ℕ) → s.tasks t ≡ Live x → klp_ftrace_handler klp (T x) func ≡ version klp.patches func x.level) where
    called : (t number : ℕ) (f : SymId) (x : LegTask) → s.tasks t ≡ Live x → calls klp f.0 (T x) ≡ T (calling number f x)
    called t number f x live =
        ap (λ (stack : List Entry). record (T x) { stack = stack })
        (ap (λ v. map (entry_of klp.patches) x.frames ++ (record { func = f.0; version = v }) ∷ []) (ran t x f.0 live)
        ∙ sym (map-append (entry_of klp.patches) x.frames (record { func = f; level = record { 0 = x.level }; serial = number } ∷ [])))

    returned : (x : LegTask) → record (T x) { stack = take (pred (length (T x).stack)) (T x).stack } ≡ T (returning x)
    returned x =
        ap (λ (stack : List Entry). record (T x) { stack = stack })
        (ap (λ n. take (pred n) (map (entry_of klp.patches) x.frames)) (length-map x.frames (entry_of klp.patches)) ∙ take-map (entry_of klp.patches) (pred (length x.frames)) x.frames)

    same_tasks : {f g : ℕ → Fate TaskStruct} → ((u : ℕ) → f u ≡ g u) → tasks_in f ≡ tasks_in g
    same_tasks same = ap tasks_in (fun_ext same)

    pub quiet_effect : (event : Event) → is_unchecked event ≡ true → (number : ℕ) → happen event m ≡ linux_with klp s (own_effect h.child_group number event s.tasks)
    quiet_effect (Call t f) q number = same_tasks (λ u. change_fate (calls klp f.0) (calling number f) (nat_eq u t.0) (s.tasks u) (λ x live. called u number f x live))
    quiet_effect (Ret t) q number = same_tasks (λ u. change_fate (λ task. record task { stack = take (pred (length task.stack)) task.stack }) returning (nat_eq u t.0) (s.tasks u) (λ x live. returned x))
    quiet_effect (Sleep t) q number = same_tasks (λ u. change_fate (λ task. record task { mode = Asleep }) (put_in Asleep) (nat_eq u t.0) (s.tasks u) (λ x live. refl))
    quiet_effect (Wake t) q number = same_tasks (λ u. change_fate (λ task. record task { mode = Kernel }) (put_in Kernel) (nat_eq u t.0) (s.tasks u) (λ x live. refl))
    quiet_effect (Enter t) q number = same_tasks (λ u. change_fate (λ task. record task { mode = Kernel }) (put_in Kernel) (nat_eq u t.0) (s.tasks u) (λ x live. refl))
    quiet_effect (Fork p c how) q number = same_tasks (λ u. fork_fate c.0 how (s.tasks p.0) (nat_eq u c.0) (s.tasks u))
    quiet_effect (Die t) q number = same_tasks (λ u. die_fate (nat_eq u t.0) (s.tasks u))
    quiet_effect Stop q number = refl
    quiet_effect _ q number = absurd (cc)

  -- ---- Who switches

  module _ (event : Event) (fits_now : Fits s.bounds.tasks R (affected h s event).tasks) where
    abbrev now : State
    now = affected h s event

    -- where who switches is told by a test of the task
    lifted_fate : (test : LegTask → Bool) (u : ℕ) → ((x : LegTask) → now.tasks u ≡ Live x → switches_at h now event u ≡ test x) → map_live (switched_task h now event) (now.tasks u) ≡ map_live (λ x. lifted s.target (test x) x) (now.tasks u)
    lifted_fate test u told =
        fate_same (switched_task h now event) (λ x. lifted s.target (test x) x) (now.tasks u) (λ x live. ap (λ b. lifted s.target b x) (ap (switches_at h now event) (fits_now u x live).own ∙ told x live))

    quiet_check : (u : ℕ) → is_unchecked event ≡ true → if_used h.uses (check_by now.bounds (outlines_of now.tasks) (Some event) u) ≡ None
    quiet_check u q = by event q (outlines_of now.tasks)
      where
        used_stop : (b : Bool) → if_used h.uses (when b Stop) ≡ None
        used_stop true = refl
        used_stop false = refl

        by : (e : Event) → is_unchecked e ≡ true → (seen : Outlines) → if_used h.uses (check_by s.bounds seen (Some e) u) ≡ None
        by (Call t f) q seen = refl
        by (Ret t) q seen = refl
        by (Sleep t) q seen = refl
        by (Wake t) q seen = refl
        by (Enter t) q seen = refl
        by (Fork p c how) q seen = refl
        by (Die t) q seen = refl
        by Stop q seen = used_stop (has_member s.bounds seen u)
        by _ q seen = absurd (cc)

    pub quiet_switches : is_unchecked event ≡ true → with_switches h s event ≡ now
    quiet_switches q =
        ap (λ (tasks : LegTasks). record now { tasks = tasks })
        (fun_ext (λ u. lifted_fate (λ x. false) u (λ x live. quiet_own R now fits_now u x live event (quiet_check u q)) ∙ fate_id (λ x. x) (now.tasks u) (λ x live. refl)))

  -- what a check of a kind says of a task
  abbrev asks_of : ℕ → LegTask → Option CheckKind → Bool
  asks_of u x None = false
  asks_of u x (Some kind) = not (nat_eq x.level s.target) && h.admits kind (view_of u x) s.aim

  and_true : (b : Bool) → (b && true) ≡ b
  and_true true = refl
  and_true false = refl

  -- ---- Exits and idle points

  -- a task that looks at its flag
  pub pending_is : (x : LegTask) → if_pending klp (T x) ≡ T (lifted s.target (not (nat_eq x.level s.target)) x)
  pending_is x = by (nat_eq x.level s.target) refl
    where
      by : (b : Bool) → nat_eq x.level s.target ≡ b → if_pending klp (T x) ≡ T (lifted s.target (not (nat_eq x.level s.target)) x)
      by true e = ap (if_pending klp) (task_by klp s.target x true e) ∙ (sym (task_by klp s.target x true e) ∙ ap (λ b. T (lifted s.target (not b) x)) (sym e))
      by false e = ap (if_pending klp) (task_by klp s.target x false e) ∙ (sym (moved_is klp s.target x) ∙ ap (λ b. T (lifted s.target (not b) x)) (sym e))

  -- what an exit's tests say, and an idle point's
  depth_is : (t u : ℕ) (x : LegTask) → nat_eq u t ≡ true → s.tasks u ≡ Live x → stack_not_empty (outlines_of s.tasks) t ≡ None → x.frames ≡ []
  depth_is t u x e live ok =
      let zero_deep : nat_eq (depth (outlines_of s.tasks) t) 0 ≡ true = not-false _ (unfit _ StackNotEmpty ok) in
      let there : depth (outlines_of s.tasks) t ≡ length x.frames = ap (λ k. on_live 0 (λ (o : Outline). o.depth) (outlines_of s.tasks k)) (sym (eqb-true u t e)) ∙ ap (λ fate. on_live 0 (λ (o : Outline). o.depth) (map_live outline_of fate)) live in
      no_frames x.frames (sym there ∙ eqb-true _ 0 zero_deep)

  pub exit_empty : (t : TaskId) → first_of (tests s.bounds (outlines_of s.tasks) (Exit t) ++ []) ≡ None → (u : ℕ) (x : LegTask) → nat_eq u t.0 ≡ true → s.tasks u ≡ Live x → x.frames ≡ []
  exit_empty t ok u x e live =
      let seen = outlines_of s.tasks in
      let a = none_first (unknown_task seen t.0) (not_of Normal seen t.0 ∷ not_in Kernel seen t.0 ∷ stack_not_empty seen t.0 ∷ []) ok in
      let b = none_first (not_of Normal seen t.0) (not_in Kernel seen t.0 ∷ stack_not_empty seen t.0 ∷ []) a.1 in
      let c = none_first (not_in Kernel seen t.0) (stack_not_empty seen t.0 ∷ []) b.1 in
      depth_is t.0 u x e live (none_first (stack_not_empty seen t.0) [] c.1).0

  pub idle_empty : (t : TaskId) → first_of (tests s.bounds (outlines_of s.tasks) (Idle t) ++ []) ≡ None → (u : ℕ) (x : LegTask) → nat_eq u t.0 ≡ true → s.tasks u ≡ Live x → x.frames ≡ []
  idle_empty t ok u x e live =
      let seen = outlines_of s.tasks in
      let a = none_first (unknown_task seen t.0) (not_of Idle seen t.0 ∷ not_in Kernel seen t.0 ∷ stack_not_empty seen t.0 ∷ []) ok in
      let b = none_first (not_of Idle seen t.0) (not_in Kernel seen t.0 ∷ stack_not_empty seen t.0 ∷ []) a.1 in
      let c = none_first (not_in Kernel seen t.0) (stack_not_empty seen t.0 ∷ []) b.1 in
      depth_is t.0 u x e live (none_first (stack_not_empty seen t.0) [] c.1).0

  lifted_user : (b : Bool) (x : LegTask) → put_in User (lifted s.target b x) ≡ lifted s.target b (put_in User x)
  lifted_user true x = refl
  lifted_user false x = refl

  module _ (t : TaskId) (fits_now : Fits s.bounds.tasks R (affected h s (Exit t)).tasks) (empty : (u : ℕ) (x : LegTask) → nat_eq u t.0 ≡ true → s.tasks u ≡ Live x → x.frames ≡ []) where
    abbrev exited : State
    exited = affected h s (Exit t)

    admits_exit : (u : ℕ) (x : LegTask) → x.frames ≡ [] → h.admits KernelExit (view_of u x) s.aim ≡ true
    admits_exit u x e = ap (λ (frames : List Frame). h.admits KernelExit (record { task = u; class = x.class; mode = x.mode; frames = frames }) s.aim) e

    exit_fate : (u : ℕ) (fate : Fate LegTask) → s.tasks u ≡ fate → (b : Bool) → nat_eq u t.0 ≡ b → (if b then map_live (λ task. record (if_pending klp task) { mode = User }) (map_live T fate) else map_live T fate) ≡ map_live T (map_live (switched_task h exited (Exit t)) (if b then map_live (put_in User) fate else fate))
    exit_fate u Unused live true e = refl
    exit_fate u (Live x) live true e =
        let there : exited.tasks u ≡ Live (put_in User x) = ap (λ c. if c then map_live (put_in User) (s.tasks u) else s.tasks u) e ∙ ap (map_live (put_in User)) live in
        let told : switches_at h exited (Exit t) u ≡ not (nat_eq x.level s.target) = exit_own R exited fits_now u (put_in User x) there t ∙ (ap (λ c. asks_of u (put_in User x) (if_used h.uses (when c KernelExit))) e ∙ (ap (λ c. not (nat_eq x.level s.target) && c) (admits_exit u (put_in User x) (empty u x e live)) ∙ and_true (not (nat_eq x.level s.target)))) in
        let sw : switched_task h exited (Exit t) (put_in User x) ≡ lifted s.target (not (nat_eq x.level s.target)) (put_in User x) = ap (λ b. lifted s.target b (put_in User x)) (ap (switches_at h exited (Exit t)) (all u x live).own ∙ told) in
        ap Live (ap (λ (task : TaskStruct). record task { mode = User }) (pending_is x) ∙ (ap T (lifted_user (not (nat_eq x.level s.target)) x) ∙ ap T (sym sw)))
    exit_fate u Dead live true e = refl
    exit_fate u Unused live false e = refl
    exit_fate u (Live x) live false e =
        let there : exited.tasks u ≡ Live x = ap (λ c. if c then map_live (put_in User) (s.tasks u) else s.tasks u) e ∙ live in
        let told : switches_at h exited (Exit t) u ≡ false = exit_own R exited fits_now u x there t ∙ ap (λ c. asks_of u x (if_used h.uses (when c KernelExit))) e in
        ap Live (ap T (sym (ap (λ b. lifted s.target b x) (ap (switches_at h exited (Exit t)) (all u x live).own ∙ told))))
    exit_fate u Dead live false e = refl

    pub exit_happens : happen (Exit t) m ≡ linux_with klp s (with_switches h s (Exit t)).tasks
    exit_happens = ap tasks_in (fun_ext (λ u. exit_fate u (s.tasks u) refl (nat_eq u t.0) refl))

  module _ (t : TaskId) (fits_now : Fits s.bounds.tasks R (affected h s (Idle t)).tasks) (empty : (u : ℕ) (x : LegTask) → nat_eq u t.0 ≡ true → s.tasks u ≡ Live x → x.frames ≡ []) where
    abbrev idled : State
    idled = affected h s (Idle t)

    admits_idle : (u : ℕ) (x : LegTask) → x.frames ≡ [] → h.admits IdlePoint (view_of u x) s.aim ≡ true
    admits_idle u x e = ap (λ (frames : List Frame). h.admits IdlePoint (record { task = u; class = x.class; mode = x.mode; frames = frames }) s.aim) e

    idle_fate : (u : ℕ) (fate : Fate LegTask) → s.tasks u ≡ fate → (b : Bool) → nat_eq u t.0 ≡ b → (if b then map_live (if_pending klp) (map_live T fate) else map_live T fate) ≡ map_live T (map_live (switched_task h idled (Idle t)) fate)
    idle_fate u Unused live true e = refl
    idle_fate u (Live x) live true e =
        let told : switches_at h idled (Idle t) u ≡ not (nat_eq x.level s.target) = idle_own R idled fits_now u x live t ∙ (ap (λ c. asks_of u x (if_used h.uses (when c IdlePoint))) e ∙ (ap (λ c. not (nat_eq x.level s.target) && c) (admits_idle u x (empty u x e live)) ∙ and_true (not (nat_eq x.level s.target)))) in
        ap Live (pending_is x ∙ ap T (sym (ap (λ b. lifted s.target b x) (ap (switches_at h idled (Idle t)) (all u x live).own ∙ told))))
    idle_fate u Dead live true e = refl
    idle_fate u Unused live false e = refl
    idle_fate u (Live x) live false e =
        let told : switches_at h idled (Idle t) u ≡ false = idle_own R idled fits_now u x live t ∙ ap (λ c. asks_of u x (if_used h.uses (when c IdlePoint))) e in
        ap Live (ap T (sym (ap (λ b. lifted s.target b x) (ap (switches_at h idled (Idle t)) (all u x live).own ∙ told))))
    idle_fate u Dead live false e = refl

    pub idle_happens : happen (Idle t) m ≡ linux_with klp s (with_switches h s (Idle t)).tasks
    idle_happens = ap tasks_in (fun_ext (λ u. idle_fate u (s.tasks u) refl (nat_eq u t.0) refl))

  -- ---- A task's check of itself

  -- what it does with a task that is off the target
  abbrev pub looks : LegTask → Bool
  looks x = h.admits Resched (view_of 0 x) s.aim

  module _ (t : TaskId) (fits_now : Fits s.bounds.tasks R (affected h s (Resched t)).tasks) (off_looks : (u : ℕ) (x : LegTask) → s.tasks u ≡ Live x → nat_eq x.level s.target ≡ false → klp_sched_try_switch klp (T x) ≡ T (lifted s.target (looks x) x)) where
    abbrev looked_at : State
    looked_at = affected h s (Resched t)

    -- a task that looks at its flag, and then at its stack
    look_is : (u : ℕ) (x : LegTask) → s.tasks u ≡ Live x → klp_sched_try_switch klp (T x) ≡ T (lifted s.target (not (nat_eq x.level s.target) && looks x) x)
    look_is u x live = by (nat_eq x.level s.target) refl
      where
        by : (b : Bool) → nat_eq x.level s.target ≡ b → klp_sched_try_switch klp (T x) ≡ T (lifted s.target (not (nat_eq x.level s.target) && looks x) x)
        by true e = ap (klp_sched_try_switch klp) (task_by klp s.target x true e) ∙ (sym (task_by klp s.target x true e) ∙ ap (λ b. T (lifted s.target (not b && looks x) x)) (sym e))
        by false e = off_looks u x live e ∙ ap (λ b. T (lifted s.target (not b && looks x) x)) (sym e)

    resched_fate : (u : ℕ) (fate : Fate LegTask) → s.tasks u ≡ fate → (b : Bool) → nat_eq u t.0 ≡ b → (if b then map_live (klp_sched_try_switch klp) (map_live T fate) else map_live T fate) ≡ map_live T (map_live (switched_task h looked_at (Resched t)) fate)
    resched_fate u Unused live true e = refl
    resched_fate u (Live x) live true e =
        let told : switches_at h looked_at (Resched t) u ≡ (not (nat_eq x.level s.target) && looks x) = resched_own R looked_at fits_now u x live t ∙ ap (λ c. asks_of u x (if_used h.uses (when c Resched))) e in
        ap Live (look_is u x live ∙ ap T (sym (ap (λ b. lifted s.target b x) (ap (switches_at h looked_at (Resched t)) (all u x live).own ∙ told))))
    resched_fate u Dead live true e = refl
    resched_fate u Unused live false e = refl
    resched_fate u (Live x) live false e =
        let told : switches_at h looked_at (Resched t) u ≡ false = resched_own R looked_at fits_now u x live t ∙ ap (λ c. asks_of u x (if_used h.uses (when c Resched))) e in
        ap Live (ap T (sym (ap (λ b. lifted s.target b x) (ap (switches_at h looked_at (Resched t)) (all u x live).own ∙ told))))
    resched_fate u Dead live false e = refl

    pub resched_happens : happen (Resched t) m ≡ linux_with klp s (with_switches h s (Resched t)).tasks
    resched_happens = ap tasks_in (fun_ext (λ u. resched_fate u (s.tasks u) refl (nat_eq u t.0) refl))

  -- ---- Walks

  -- what a walk does with a task
  abbrev pub walked : LegTask → Bool
  walked x = not (nat_eq x.level s.target) && h.admits Walk (view_of 0 x) s.aim

  -- who switches at a walk
  pub walk_switches : (with_switches h s Walk).tasks ≡ (λ u. map_live (λ x. lifted s.target (walked x) x) (s.tasks u))
  walk_switches = fun_ext (λ u. lifted_fate Walk all walked u (λ x live. walk_own R (affected h s Walk) all u x live))

  module _ (same : same_state klp.klp_target_state klp.klp_target_state ≡ true) (other : same_state (opposite klp.klp_target_state) klp.klp_target_state ≡ false) (checks : (t : ℕ) (x : LegTask) → s.tasks t ≡ Live x → nat_eq x.level s.target ≡ false → klp_check_stack klp (map (entry_of klp.patches) x.frames) ≡ list_any (is_stale s.aim) x.frames) where
    -- a task that is tried, and whether it passes
    record IsTried (x : LegTask) : Type 0 where
      task : (klp_try_switch_task false klp (T x)).task ≡ T (lifted s.target (walked x) x)
      pass : is_ok (klp_try_switch_task false klp (T x)).code ≡ nat_eq (lifted s.target (walked x) x).level s.target

    abbrev by_level : LegTask → Bool → TaskStruct
    by_level x b = record {
      class = x.class;
      mode = x.mode;
      stack = map (entry_of klp.patches) x.frames;
      patch_state = if b then klp.klp_target_state else opposite klp.klp_target_state;
      TIF_PATCH_PENDING = not b;
    }

    abbrev try_it : TaskStruct → Bool → Bool → Tried
    try_it task on found =
        if on then record { code = OK; task = task }
        else if task_curr task then record { code = EBUSY; task = task }
        else if found then record { code = EADDRINUSE; task = task }
        else record { code = OK; task = record task { TIF_PATCH_PENDING = false; patch_state = klp.klp_target_state } }

    on_it : (x : LegTask) → nat_eq x.level s.target ≡ true → IsTried x
    on_it x e =
        let stays : lifted s.target (walked x) x ≡ x = ap (λ b. lifted s.target (not b && h.admits Walk (view_of 0 x) s.aim) x) e in
        let at : T x ≡ by_level x true = task_by klp s.target x true e in
        let tries : klp_try_switch_task false klp (T x) ≡ record { code = OK; task = by_level x true } = ap (klp_try_switch_task false klp) at ∙ ap (λ b. try_it (by_level x true) b (klp_check_stack klp (by_level x true).stack)) same in
        record {
          task = ap (λ (r : Tried). r.task) tries ∙ (sym at ∙ ap T (sym stays));
          pass = ap (λ (r : Tried). is_ok r.code) tries ∙ (sym e ∙ ap (λ (y : LegTask). nat_eq y.level s.target) (sym stays));
        }

    off_it : (x : LegTask) → nat_eq x.level s.target ≡ false → klp_check_stack klp (map (entry_of klp.patches) x.frames) ≡ list_any (is_stale s.aim) x.frames → IsTried x
    off_it x e found = by x.mode refl (list_any (is_stale s.aim) x.frames) refl
      where
        at : T x ≡ by_level x false
        at = task_by klp s.target x false e

        tries : klp_try_switch_task false klp (T x) ≡ try_it (by_level x false) false (list_any (is_stale s.aim) x.frames)
        tries = ap (klp_try_switch_task false klp) at ∙ ap₂ (λ b c. try_it (by_level x false) b c) other found

        lifts : (b : Bool) → h.admits Walk (view_of 0 x) s.aim ≡ b → lifted s.target (walked x) x ≡ lifted s.target b x
        lifts b a = ap₂ (λ c d. lifted s.target (not c && d) x) e a

        stays : (r : Tried) → klp_try_switch_task false klp (T x) ≡ r → r.task ≡ by_level x false → is_ok r.code ≡ false → h.admits Walk (view_of 0 x) s.aim ≡ false → IsTried x
        stays r is same_task not_ok a =
            record {
              task = ap (λ (q : Tried). q.task) is ∙ (same_task ∙ (sym at ∙ ap T (sym (lifts false a))));
              pass = ap (λ (q : Tried). is_ok q.code) is ∙ (not_ok ∙ (sym e ∙ ap (λ (y : LegTask). nat_eq y.level s.target) (sym (lifts false a))));
            }

        goes : klp_try_switch_task false klp (T x) ≡ record { code = OK; task = record (by_level x false) { TIF_PATCH_PENDING = false; patch_state = klp.klp_target_state } } → h.admits Walk (view_of 0 x) s.aim ≡ true → IsTried x
        goes is a =
            record {
              task = ap (λ (q : Tried). q.task) is ∙ (sym (moved_is klp s.target x) ∙ ap T (sym (lifts true a)));
              pass = ap (λ (q : Tried). is_ok q.code) is ∙ (sym (eq-eqb s.target s.target refl) ∙ ap (λ (y : LegTask). nat_eq y.level s.target) (sym (lifts true a)));
            }

        admits_is : (mode : Mode) (stale : Bool) → x.mode ≡ mode → list_any (is_stale s.aim) x.frames ≡ stale → h.admits Walk (view_of 0 x) s.aim ≡ (not stale && not (is_awake mode))
        admits_is mode stale m_is s_is = ap₂ (λ (mo : Mode) b. not b && not (is_awake mo)) m_is s_is

        code_is : (mode : Mode) (stale : Bool) → x.mode ≡ mode → list_any (is_stale s.aim) x.frames ≡ stale → klp_try_switch_task false klp (T x) ≡ (if not (same_mode mode Asleep) then record { code = EBUSY; task = by_level x false } else if stale then record { code = EADDRINUSE; task = by_level x false } else record { code = OK; task = record (by_level x false) { TIF_PATCH_PENDING = false; patch_state = klp.klp_target_state } })
        code_is mode stale m_is s_is =
            tries ∙ ap₂ (λ (mo : Mode) b. if not (same_mode mo Asleep) then record { code = EBUSY; task = by_level x false } else if b then record { code = EADDRINUSE; task = by_level x false } else record { code = OK; task = record (by_level x false) { TIF_PATCH_PENDING = false; patch_state = klp.klp_target_state } }) m_is s_is

        and_no : (b : Bool) → (not b && false) ≡ false
        and_no true = refl
        and_no false = refl

        by : (mode : Mode) → x.mode ≡ mode → (stale : Bool) → list_any (is_stale s.aim) x.frames ≡ stale → IsTried x
        by User m_is stale s_is = stays _ (code_is User stale m_is s_is) refl refl (admits_is User stale m_is s_is ∙ and_no stale)
        by Kernel m_is stale s_is = stays _ (code_is Kernel stale m_is s_is) refl refl (admits_is Kernel stale m_is s_is ∙ and_no stale)
        by Asleep m_is true s_is = stays _ (code_is Asleep true m_is s_is) refl refl (admits_is Asleep true m_is s_is)
        by Asleep m_is false s_is = goes (code_is Asleep false m_is s_is) (admits_is Asleep false m_is s_is)

    -- a task off the target that tries itself
    abbrev itself : Bool → Bool → TaskStruct → Tried
    itself on found task =
        if on then record { code = OK; task = task }
        else if found then record { code = EADDRINUSE; task = task }
        else record { code = OK; task = record task { TIF_PATCH_PENDING = false; patch_state = klp.klp_target_state } }

    pub off_looks : (t : ℕ) (x : LegTask) → s.tasks t ≡ Live x → nat_eq x.level s.target ≡ false → klp_sched_try_switch klp (T x) ≡ T (lifted s.target (looks x) x)
    off_looks t x live e = by (list_any (is_stale s.aim) x.frames) refl
      where
        at : T x ≡ by_level x false
        at = task_by klp s.target x false e

        looks_is : (stale : Bool) → list_any (is_stale s.aim) x.frames ≡ stale → looks x ≡ (not stale && true)
        looks_is stale s_is = ap (λ b. not b && true) s_is

        tries : klp_sched_try_switch klp (T x) ≡ (itself false (list_any (is_stale s.aim) x.frames) (by_level x false)).task
        tries = ap (klp_sched_try_switch klp) at ∙ ap₂ (λ b c. (itself b c (by_level x false)).task) other (checks t x live e)

        by : (stale : Bool) → list_any (is_stale s.aim) x.frames ≡ stale → klp_sched_try_switch klp (T x) ≡ T (lifted s.target (looks x) x)
        by true s_is = tries ∙ (ap (λ c. (itself false c (by_level x false)).task) s_is ∙ (sym at ∙ ap (λ b. T (lifted s.target b x)) (sym (looks_is true s_is))))
        by false s_is = tries ∙ (ap (λ c. (itself false c (by_level x false)).task) s_is ∙ (sym (moved_is klp s.target x) ∙ ap (λ b. T (lifted s.target b x)) (sym (looks_is false s_is))))

    own_cases : (task : TaskStruct) (found : Bool) → (itself false found task).code ≡ (if found then EADDRINUSE else OK)
    own_cases task true = refl
    own_cases task false = refl

    pub own_code_told : (t : ℕ) (x : LegTask) → s.tasks t ≡ Live x → (klp_try_switch_task true klp (T x)).code ≡ own_code_of s.aim x
    own_code_told t x live = by (nat_eq x.level s.target) refl
      where
        told_by : (b : Bool) → nat_eq x.level s.target ≡ b → (if b then OK else if list_any (is_stale s.aim) x.frames then EADDRINUSE else OK) ≡ own_code_of s.aim x
        told_by b e = ap (λ c. if c then OK else if list_any (is_stale s.aim) x.frames then EADDRINUSE else OK) (sym e)

        by : (b : Bool) → nat_eq x.level s.target ≡ b → (klp_try_switch_task true klp (T x)).code ≡ own_code_of s.aim x
        by true e =
            ap (λ task. (klp_try_switch_task true klp task).code) (task_by klp s.target x true e)
            ∙ (ap (λ b. (itself b (klp_check_stack klp (by_level x true).stack) (by_level x true)).code) same ∙ told_by true e)
        by false e =
            ap (λ task. (klp_try_switch_task true klp task).code) (task_by klp s.target x false e)
            ∙ (ap₂ (λ b c. (itself b c (by_level x false)).code) other (checks t x live e) ∙ (own_cases (by_level x false) (list_any (is_stale s.aim) x.frames) ∙ told_by false e))

    -- what is returned for a task
    abbrev tried_so : Bool → Bool → TaskStruct → TaskStruct → Tried
    tried_so on_cpu found task went =
        if on_cpu then record { code = EBUSY; task = task } else if found then record { code = EADDRINUSE; task = task } else record { code = OK; task = went }

    code_cases : (task went : TaskStruct) (on_cpu found : Bool) → (tried_so on_cpu found task went).code ≡ (if on_cpu then EBUSY else if found then EADDRINUSE else OK)
    code_cases task went true found = refl
    code_cases task went false true = refl
    code_cases task went false false = refl

    pub code_told : (t : ℕ) (x : LegTask) → s.tasks t ≡ Live x → (klp_try_switch_task false klp (T x)).code ≡ code_of s.aim x
    code_told t x live = by (nat_eq x.level s.target) refl
      where
        told_by : (b : Bool) → nat_eq x.level s.target ≡ b → (if b then OK else if not (same_mode x.mode Asleep) then EBUSY else if list_any (is_stale s.aim) x.frames then EADDRINUSE else OK) ≡ code_of s.aim x
        told_by b e = ap (λ c. if c then OK else if not (same_mode x.mode Asleep) then EBUSY else if list_any (is_stale s.aim) x.frames then EADDRINUSE else OK) (sym e)

        by : (b : Bool) → nat_eq x.level s.target ≡ b → (klp_try_switch_task false klp (T x)).code ≡ code_of s.aim x
        by true e =
            ap (λ task. (klp_try_switch_task false klp task).code) (task_by klp s.target x true e)
            ∙ (ap (λ b. (try_it (by_level x true) b (klp_check_stack klp (by_level x true).stack)).code) same ∙ told_by true e)
        by false e =
            ap (λ task. (klp_try_switch_task false klp task).code) (task_by klp s.target x false e)
            ∙ (ap₂ (λ b c. (try_it (by_level x false) b c).code) other (checks t x live e)
            ∙ (code_cases (by_level x false) (record (by_level x false) { TIF_PATCH_PENDING = false; patch_state = klp.klp_target_state }) (not (same_mode x.mode Asleep)) (list_any (is_stale s.aim) x.frames) ∙ told_by false e))

    is_tried : (t : ℕ) (x : LegTask) → s.tasks t ≡ Live x → IsTried x
    is_tried t x live = by (nat_eq x.level s.target) refl
      where
        by : (b : Bool) → nat_eq x.level s.target ≡ b → IsTried x
        by true e = on_it x e
        by false e = off_it x e (checks t x live e)

    -- the tasks after a walk
    pub walk_tasks : ◌≡◌ {A = TaskList} (λ u. map_live (tried klp) (m.tasks u)) (λ u. map_live T ((with_switches h s Walk).tasks u))
    walk_tasks =
        fun_ext (λ u. fate_map (tried klp) T (s.tasks u) ∙ fate_same (λ x. tried klp (T x)) (λ x. T (lifted s.target (walked x) x)) (s.tasks u) (λ x live. (is_tried u x live).task) ∙ sym (fate_map T (λ x. lifted s.target (walked x) x) (s.tasks u)))
        ∙ ap (λ (tasks : LegTasks). λ u. map_live T (tasks u)) (sym walk_switches)

    -- each passes exactly where nobody is off the target
    pub passes_is : ((u : ℕ) (y : TaskStruct) → m.tasks u ≡ Live y → passes klp y ≡ true) → complete_in (with_switches h s Walk) ≡ true
    passes_is every =
        each_live-from s.bounds (with_switches h s Walk).tasks (λ t x. nat_eq x.level s.target) (λ t x p w live.
        let one = fate_from (λ x. lifted s.target (walked x) x) (s.tasks t) x (sym (ap (λ (tasks : LegTasks). tasks t) walk_switches) ∙ live) in
        ap (λ (y : LegTask). nat_eq y.level s.target) one.is ∙ (sym (is_tried t one.life one.live).pass ∙ every t (T one.life) (ap (map_live T) one.live)))

    pub passes_from : complete_in (with_switches h s Walk) ≡ true → (u : ℕ) (y : TaskStruct) → m.tasks u ≡ Live y → passes klp y ≡ true
    passes_from done u y live =
        let one = fate_from T (s.tasks u) y live in
        let fit = all u one.life one.live in
        let there : (with_switches h s Walk).tasks u ≡ Live (lifted s.target (walked one.life) one.life) = ap (λ (tasks : LegTasks). tasks u) walk_switches ∙ ap (map_live (λ x. lifted s.target (walked x) x)) one.live in
        ap (passes klp) one.is ∙ ((is_tried u one.life one.live).pass ∙ each_live-at s.bounds (with_switches h s Walk).tasks (λ t x. nat_eq x.level s.target) done u (lifted s.target (walked one.life) one.life) fit.positive fit.within there)
