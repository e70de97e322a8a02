-- Enabling, disabling and turning round.
use Rattle.std.proofs.Common.{List, ◌∷◌, ◌≡◌, ◌⊎◌, ℕ, suc, pred, ◌≤◌, Bool, true, false, not, length, map, if◌then◌else◌, nat_eq, refl, sym, ap, ◌∙◌, ⊎_elim, inl, inr, arith}
use Rattle.std.proofs.lemmas.Bool.{eq-eqb, ne_eqb}
use mathlib.Core.Path.{fun_ext}
use Rattle.lp_definitions.specs.declared.event.Event.TheVariants.{Enable, Disable, Reverse}
use Rattle.lp_definitions.specs.Tasks.{Fate, Live, map_live}
use Rattle.lp_definitions.specs.Leg.{LegTask, State}
use Rattle.lp_machine.specs.Machine.{turned}
use Rattle.lp_linux.specs.Transition.{PatchState, KLP_UNDEFINED, KLP_UNPATCHED, KLP_PATCHED, same_state, TaskStruct, TaskList, Livepatch, Linux, all_tasks, klp_start_transition, klp_complete_transition, klp_patch_object, below_first, klp_enable_patch, klp_disable_patch}
use Rattle.lp_linux.specs.Reading.{entry_of, task_of}
use Rattle.lp_linux.proofs.Newer.{klp_reverse_transition}
use Rattle.lp_linux.proofs.Loops.{Within, within-map, fate_same, fate_map, KeepsClass, all_tasks_are}
use Rattle.lp_patch.specs.Patches.{patch_has}
use Rattle.lp_linux.proofs.Own.{h}
use Rattle.lp_linux.specs.declared.follow.TargetState.TheVariants.{Undefined, Patched, Unpatched}
use Rattle.lp_linux.specs.Followed.{klp_of, linux_of, stack_of}
use Rattle.lp_linux.proofs.Phases.{Keeps, linux_within, task_by}

-- ---- The loops of a start

abbrev with_state : PatchState → TaskStruct → TaskStruct
with_state state task = record task { patch_state = state }

abbrev cleared : TaskStruct → TaskStruct
cleared task = record task { TIF_PATCH_PENDING = false }

abbrev flagged : PatchState → TaskStruct → TaskStruct
flagged target task = if same_state task.patch_state target then task else record task { TIF_PATCH_PENDING = true }

flagged_keeps : (target : PatchState) → KeepsClass (flagged target)
flagged_keeps target x = by (same_state x.patch_state target)
  where
    by : (b : Bool) → (if b then x else record x { TIF_PATCH_PENDING = true }).class ≡ x.class
    by true = refl
    by false = refl

abbrev put : Linux → Livepatch → TaskList → Linux
put m klp tasks = record { bounds = m.bounds; klp = klp; tasks = tasks }

-- a loop, and then the flags
two_loops : (m : Linux) (klp klp' : Livepatch) (first : TaskStruct → TaskStruct) → KeepsClass first → Within m.bounds.tasks m.tasks → (start : Linux → Linux) → ((tasks : TaskList) → start (put m klp tasks) ≡ all_tasks (flagged klp'.klp_target_state) (put m klp' tasks)) → start (all_tasks first (put m klp m.tasks)) ≡ put m klp' (λ u. map_live (λ x. flagged klp'.klp_target_state (first x)) (m.tasks u))
two_loops m klp klp' first keeps within start is =
    ap start (all_tasks_are first keeps (put m klp m.tasks) within)
    ∙ (is (λ u. map_live first (m.tasks u))
    ∙ (all_tasks_are (flagged klp'.klp_target_state) (flagged_keeps klp'.klp_target_state) (put m klp' (λ u. map_live first (m.tasks u))) (within-map first m.bounds.tasks m.tasks within)
    ∙ ap (put m klp') (fun_ext (λ u. fate_map (flagged klp'.klp_target_state) first (m.tasks u)))))

-- the tasks, read off other levels
retold : (f : TaskStruct → TaskStruct) (T T' : LegTask → TaskStruct) (tasks : ℕ → Fate LegTask) → ((t : ℕ) (x : LegTask) → tasks t ≡ Live x → f (T x) ≡ T' x) → ◌≡◌ {A = TaskList} (λ u. map_live f (map_live T (tasks u))) (λ u. map_live T' (tasks u))
retold f T T' tasks same = fun_ext (λ u. fate_map f T (tasks u) ∙ fate_same (λ x. f (T x)) T' (tasks u) (λ x live. same u x live))

-- ---- From settled

module _ (s : State) (keeps : Keeps Undefined s) where
  settled_level : (t : ℕ) (x : LegTask) → s.tasks t ≡ Live x → x.level ≡ s.target
  settled_level t x live = (keeps.fits t x live).level

  abbrev m : Linux
  m = linux_of Undefined s

  enable_task : (x : LegTask) → x.level ≡ s.target → flagged KLP_PATCHED (with_state KLP_UNPATCHED (task_of (klp_of Undefined s) s.target x)) ≡ task_of (klp_of Patched (turned h s Enable)) (suc s.target) x
  enable_task x level = sym (task_by (klp_of Patched (turned h s Enable)) (suc s.target) x false (ne_eqb x.level (suc s.target) (λ same. omega (arith, same, level))))

  pub enables : klp_enable_patch m ≡ linux_of Patched (turned h s Enable)
  enables =
      let klp : Livepatch = record { patches = s.patches; in_place = s.target; func_stack = stack_of s.patches s.target; klp_transition_patch = suc s.target; klp_target_state = KLP_PATCHED } in
      two_loops m klp (klp_of Patched (turned h s Enable)) (with_state KLP_UNPATCHED) (λ x. refl) (linux_within Undefined s keeps)
      (λ now. klp_start_transition (record now { klp = klp_patch_object (suc s.target) now.klp })) (λ tasks. refl)
      ∙ ap (put m (klp_of Patched (turned h s Enable))) (retold (λ x. flagged KLP_PATCHED (with_state KLP_UNPATCHED x)) (task_of (klp_of Undefined s) s.target) (task_of (klp_of Patched (turned h s Enable)) (suc s.target)) s.tasks (λ t x live. enable_task x (settled_level t x live)))

  pub enable_keeps : s.target ≤ length s.patches → (nat_eq s.target (length s.patches) ≡ false) → suc s.target ≤ length s.patches → Keeps Patched (turned h s Enable)
  enable_keeps le no_more further =
      record {
        fits = λ t x live. let fit = keeps.fits t x live in record { positive = fit.positive; within = fit.within; own = fit.own; level = inr fit.level };
        turns = refl;
        target_in = further;
        from_in = le;
      }

  module _ (below : ℕ) (is : s.target ≡ suc below) where
    down_klp : ◌≡◌ {A = Livepatch} (record { patches = s.patches; in_place = s.target; func_stack = stack_of s.patches s.target; klp_transition_patch = s.target; klp_target_state = KLP_UNPATCHED }) (klp_of Unpatched (turned h s Disable))
    down_klp =
        let past : s.target ≡ suc (pred s.target) = omega (arith, is) in
        ap (λ (n : ℕ). record { patches = s.patches; in_place = n; func_stack = stack_of s.patches n; klp_transition_patch = n; klp_target_state = KLP_UNPATCHED }) past

    disable_task : (x : LegTask) → x.level ≡ s.target → flagged KLP_UNPATCHED (with_state KLP_PATCHED (task_of (klp_of Undefined s) s.target x)) ≡ task_of (klp_of Unpatched (turned h s Disable)) (pred s.target) x
    disable_task x level = sym (task_by (klp_of Unpatched (turned h s Disable)) (pred s.target) x false (ne_eqb x.level (pred s.target) (λ same. omega (arith, same, level, is))))

    pub disables : klp_disable_patch m ≡ linux_of Unpatched (turned h s Disable)
    disables =
        let klp : Livepatch = record { patches = s.patches; in_place = s.target; func_stack = stack_of s.patches s.target; klp_transition_patch = s.target; klp_target_state = KLP_UNPATCHED } in
        two_loops m klp klp (with_state KLP_PATCHED) (λ x. refl) (linux_within Undefined s keeps) klp_start_transition (λ tasks. refl)
        ∙ (ap (put m klp) (retold (λ x. flagged KLP_UNPATCHED (with_state KLP_PATCHED x)) (task_of (klp_of Undefined s) s.target) (task_of (klp_of Unpatched (turned h s Disable)) (pred s.target)) s.tasks (λ t x live. disable_task x (settled_level t x live)))
        ∙ ap (λ k. put m k (λ u. map_live (task_of (klp_of Unpatched (turned h s Disable)) (pred s.target)) (s.tasks u))) down_klp)

    pub disable_keeps : Keeps Unpatched (turned h s Disable)
    disable_keeps =
        let past : s.target ≡ suc (pred s.target) = omega (arith, is) in
        let le = keeps.target_in in
        let low : pred s.target ≤ length s.patches = omega (arith, is, le) in
        record {
          fits = λ t x live. let fit = keeps.fits t x live in record { positive = fit.positive; within = fit.within; own = fit.own; level = inr fit.level };
          turns = past;
          target_in = low;
          from_in = keeps.target_in;
        }

-- ---- Turning round

or_swap : {A B : Type 0} → A ⊎ B → B ⊎ A
or_swap e = ⊎_elim (λ a. inr a) (λ b. inl b) e

-- the task of a transition that is turned: its flag is cleared, and set again where its state is not the new target's
module _ (s : State) (keeps : Keeps Patched s) where
  abbrev up : Linux
  up = linux_of Patched s

  up_task : (x : LegTask) → x.level ≡ s.target ⊎ x.level ≡ s.from → flagged KLP_UNPATCHED (cleared (task_of (klp_of Patched s) s.target x)) ≡ task_of (klp_of Unpatched (turned h s Reverse)) s.from x
  up_task x level =
      ⊎_elim
      (λ (on : x.level ≡ s.target).
      ap (λ task. flagged KLP_UNPATCHED (cleared task)) (task_by (klp_of Patched s) s.target x true (eq-eqb x.level s.target on))
      ∙ sym (task_by (klp_of Unpatched (turned h s Reverse)) s.from x false (ne_eqb x.level s.from (λ same. omega (arith, same, on, keeps.turns)))))
      (λ (off : x.level ≡ s.from).
      ap (λ task. flagged KLP_UNPATCHED (cleared task)) (task_by (klp_of Patched s) s.target x false (ne_eqb x.level s.target (λ same. omega (arith, same, off, keeps.turns))))
      ∙ sym (task_by (klp_of Unpatched (turned h s Reverse)) s.from x true (eq-eqb x.level s.from off)))
      level

  pub turns_down : klp_reverse_transition up ≡ linux_of Unpatched (turned h s Reverse)
  turns_down =
      let klp : Livepatch = record { patches = s.patches; in_place = suc s.from; func_stack = stack_of s.patches (suc s.from); klp_transition_patch = suc s.from; klp_target_state = KLP_UNPATCHED } in
      two_loops up klp klp cleared (λ x. refl) (linux_within Patched s keeps) klp_start_transition (λ tasks. refl)
      ∙ ap (put up klp) (retold (λ x. flagged KLP_UNPATCHED (cleared x)) (task_of (klp_of Patched s) s.target) (task_of (klp_of Unpatched (turned h s Reverse)) s.from) s.tasks (λ t x live. up_task x (keeps.fits t x live).level))

  pub turn_down_keeps : Keeps Unpatched (turned h s Reverse)
  turn_down_keeps =
      record {
        fits = λ t x live. let fit = keeps.fits t x live in record { positive = fit.positive; within = fit.within; own = fit.own; level = or_swap fit.level };
        turns = keeps.turns;
        target_in = keeps.from_in;
        from_in = keeps.target_in;
      }

module _ (s : State) (keeps : Keeps Unpatched s) where
  abbrev down : Linux
  down = linux_of Unpatched s

  down_task : (x : LegTask) → x.level ≡ s.target ⊎ x.level ≡ s.from → flagged KLP_PATCHED (cleared (task_of (klp_of Unpatched s) s.target x)) ≡ task_of (klp_of Patched (turned h s Reverse)) s.from x
  down_task x level =
      ⊎_elim
      (λ (on : x.level ≡ s.target).
      ap (λ task. flagged KLP_PATCHED (cleared task)) (task_by (klp_of Unpatched s) s.target x true (eq-eqb x.level s.target on))
      ∙ sym (task_by (klp_of Patched (turned h s Reverse)) s.from x false (ne_eqb x.level s.from (λ same. omega (arith, same, on, keeps.turns)))))
      (λ (off : x.level ≡ s.from).
      ap (λ task. flagged KLP_PATCHED (cleared task)) (task_by (klp_of Unpatched s) s.target x false (ne_eqb x.level s.target (λ same. omega (arith, same, off, keeps.turns))))
      ∙ sym (task_by (klp_of Patched (turned h s Reverse)) s.from x true (eq-eqb x.level s.from off)))
      level

  pub turns_up : klp_reverse_transition down ≡ linux_of Patched (turned h s Reverse)
  turns_up =
      let klp : Livepatch = record { patches = s.patches; in_place = suc s.target; func_stack = stack_of s.patches (suc s.target); klp_transition_patch = suc s.target; klp_target_state = KLP_PATCHED } in
      two_loops down klp klp cleared (λ x. refl) (linux_within Unpatched s keeps) klp_start_transition (λ tasks. refl)
      ∙ ap (put down klp) (retold (λ x. flagged KLP_PATCHED (cleared x)) (task_of (klp_of Unpatched s) s.target) (task_of (klp_of Patched (turned h s Reverse)) s.from) s.tasks (λ t x live. down_task x (keeps.fits t x live).level))

  pub turn_up_keeps : Keeps Patched (turned h s Reverse)
  turn_up_keeps =
      record {
        fits = λ t x live. let fit = keeps.fits t x live in record { positive = fit.positive; within = fit.within; own = fit.own; level = or_swap fit.level };
        turns = keeps.turns;
        target_in = keeps.from_in;
        from_in = keeps.target_in;
      }

-- a leg back, opened by a disabling or an enabling where the transition is complete already, is the same
pub disable_is_back : (s : State) → Keeps Patched s → turned h s Disable ≡ turned h s Reverse
disable_is_back s keeps =
    let low : pred s.target ≡ s.from = omega (arith, keeps.turns) in
    ap (λ n. record { number = suc s.number; bounds = s.bounds; from = s.target; aim = record { patches = s.patches; target = n }; tasks = s.tasks }) low

pub enable_is_back : (s : State) → Keeps Unpatched s → turned h s Enable ≡ turned h s Reverse
enable_is_back s keeps =
    let high : suc s.target ≡ s.from = omega (arith, keeps.turns) in
    ap (λ n. record { number = suc s.number; bounds = s.bounds; from = s.target; aim = record { patches = s.patches; target = n }; tasks = s.tasks }) high

-- ---- Completing

undefined : (klp : Livepatch) (target : ℕ) (s : State) (x : LegTask) → klp.patches ≡ s.patches → with_state KLP_UNDEFINED (task_of klp target x) ≡ task_of (klp_of Undefined s) target x
undefined klp target s x same = by (nat_eq x.level target)
  where
    by : (b : Bool) → ◌≡◌ {A = TaskStruct} (record { class = x.class; mode = x.mode; stack = map (entry_of klp.patches) x.frames; patch_state = KLP_UNDEFINED; TIF_PATCH_PENDING = not (nat_eq x.level target) }) (record { class = x.class; mode = x.mode; stack = map (entry_of s.patches) x.frames; patch_state = if b then KLP_UNDEFINED else KLP_UNDEFINED; TIF_PATCH_PENDING = not (nat_eq x.level target) })
    by true = ap (λ patches. record { class = x.class; mode = x.mode; stack = map (entry_of patches) x.frames; patch_state = KLP_UNDEFINED; TIF_PATCH_PENDING = not (nat_eq x.level target) }) same
    by false = ap (λ patches. record { class = x.class; mode = x.mode; stack = map (entry_of patches) x.frames; patch_state = KLP_UNDEFINED; TIF_PATCH_PENDING = not (nat_eq x.level target) }) same

pub completes_up : (s : State) → Keeps Patched s → klp_complete_transition (linux_of Patched s) ≡ linux_of Undefined s
completes_up s keeps =
    let klp : Livepatch = record { patches = s.patches; in_place = suc s.from; func_stack = stack_of s.patches (suc s.from); klp_transition_patch = 0; klp_target_state = KLP_UNDEFINED } in
    all_tasks_are (with_state KLP_UNDEFINED) (λ x. refl) (put (linux_of Patched s) klp (linux_of Patched s).tasks) (linux_within Patched s keeps)
    ∙ (ap (put (linux_of Patched s) klp) (retold (with_state KLP_UNDEFINED) (task_of (klp_of Patched s) s.target) (task_of (klp_of Undefined s) s.target) s.tasks (λ t x live. undefined (klp_of Patched s) s.target s x refl))
    ∙ ap (λ n. put (linux_of Patched s) (record { patches = s.patches; in_place = n; func_stack = stack_of s.patches n; klp_transition_patch = 0; klp_target_state = KLP_UNDEFINED }) (λ u. map_live (task_of (klp_of Undefined s) s.target) (s.tasks u))) (sym keeps.turns))

-- the functions of the patch that is taken off
popped : (s : State) → ◌≡◌ {A = ℕ → List ℕ} (λ func. if patch_has s.patches (suc s.target) func then below_first (stack_of s.patches (suc s.target) func) else stack_of s.patches (suc s.target) func) (stack_of s.patches s.target)
popped s = fun_ext (λ func. by (patch_has s.patches (suc s.target) func) (stack_of s.patches s.target func))
  where
    by : (b : Bool) (rest : List ℕ) → (if b then below_first (if b then suc s.target ∷ rest else rest) else (if b then suc s.target ∷ rest else rest)) ≡ rest
    by true rest = refl
    by false rest = refl

pub completes_down : (s : State) → Keeps Unpatched s → klp_complete_transition (linux_of Unpatched s) ≡ linux_of Undefined s
completes_down s keeps =
    let stacks : ℕ → List ℕ = λ func. if patch_has s.patches (suc s.target) func then below_first (stack_of s.patches (suc s.target) func) else stack_of s.patches (suc s.target) func in
    let klp : Livepatch = record { patches = s.patches; in_place = s.target; func_stack = stacks; klp_transition_patch = 0; klp_target_state = KLP_UNDEFINED } in
    all_tasks_are (with_state KLP_UNDEFINED) (λ x. refl) (put (linux_of Unpatched s) klp (linux_of Unpatched s).tasks) (linux_within Unpatched s keeps)
    ∙ (ap (put (linux_of Unpatched s) klp) (retold (with_state KLP_UNDEFINED) (task_of (klp_of Unpatched s) s.target) (task_of (klp_of Undefined s) s.target) s.tasks (λ t x live. undefined (klp_of Unpatched s) s.target s x refl))
    ∙ ap (λ (f : ℕ → List ℕ). put (linux_of Unpatched s) (record { patches = s.patches; in_place = s.target; func_stack = f; klp_transition_patch = 0; klp_target_state = KLP_UNDEFINED }) (λ u. map_live (task_of (klp_of Undefined s) s.target) (s.tasks u))) (popped s))
