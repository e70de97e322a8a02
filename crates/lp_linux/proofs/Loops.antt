-- A loop over the tasks changes each of them.
use Rattle.std.proofs.Common.{◌≡◌, ℕ, zero, suc, ◌<◌, ◌≤◌, Bool, true, false, if◌then◌else◌, refl, sym, ap, ◌∙◌, subst, ⊎_elim, arith}
use Rattle.std.proofs.lemmas.Bool.{cases_eq, cases_lt, eq-eqb, ne_eqb, cond-true, cond-false, cond_both, and_parts, and_from}
use mathlib.Core.Path.{fun_ext}
use Rattle.lp_stack.specs.declared.view.Class.{Class}
use Rattle.lp_stack.specs.declared.view.Class.TheVariants.{Normal, Idle}
use Rattle.lp_definitions.specs.Tasks.{Fate, Unused, Live, Dead, on_live, map_live, same_class, change}
use Rattle.lp_linux.specs.Transition.{TaskStruct, TaskList, Livepatch, Linux, if_of, for_each, all_tasks, OK, Tried, is_ok, same_state, task_curr, klp_check_stack, klp_try_switch_task, Walked, try_of, try_each}

-- live tasks have numbers from 1 to the last
abbrev pub Within : {A : Type 0} → ℕ → (ℕ → Fate A) → Type 0
Within {A} last tasks = (t : ℕ) (x : A) → tasks t ≡ Live x → (0 < t) × (t ≤ last)

-- ---- Fates

pub not_live : {A : Type 0} (f : A → A) (fate : Fate A) → ((x : A) → fate ≡ Live x → ⊥) → fate ≡ map_live f fate
not_live f Unused no_one = refl
not_live f (Live x) no_one = absurd (no_one x refl)
not_live f Dead no_one = refl

pub fate_same : {A B : Type 0} (f g : A → B) (fate : Fate A) → ((x : A) → fate ≡ Live x → f x ≡ g x) → map_live f fate ≡ map_live g fate
fate_same f g Unused h = refl
fate_same f g (Live x) h = ap Live (h x refl)
fate_same f g Dead h = refl

pub fate_map : {A B C : Type 0} (f : B → C) (g : A → B) (fate : Fate A) → map_live f (map_live g fate) ≡ map_live (λ x. f (g x)) fate
fate_map f g Unused = refl
fate_map f g (Live x) = refl
fate_map f g Dead = refl

-- a live task of a map comes from one
pub record From {A B : Type 0} (f : A → B) (fate : Fate A) (y : B) : Type 0 where
  pub life : A
  pub live : fate ≡ Live life
  pub is : y ≡ f life

pub fate_from : {A B : Type 0} (f : A → B) (fate : Fate A) (y : B) → map_live f fate ≡ Live y → From f fate y
fate_from f Unused y h = absurd (cc)
fate_from f (Live x) y h = record { life = x; live = refl; is = cc }
fate_from f Dead y h = absurd (cc)

pub within-map : {A B : Type 0} (f : A → B) (last : ℕ) (tasks : ℕ → Fate A) → Within last tasks → Within last (λ t. map_live f (tasks t))
within-map f last tasks within t y h = let w = fate_from f (tasks t) y h in within t w.life w.live

-- ---- One loop

module _ (f : TaskStruct → TaskStruct) (tasks : TaskList) (after : ℕ → TaskList) (start : after 0 ≡ tasks) (next : (last : ℕ) → after (suc last) ≡ change (suc last) f (after last)) where
  pub loop_beyond : (last u : ℕ) → last < u → after last u ≡ tasks u
  loop_beyond zero u lt = ap (λ now. now u) start
  loop_beyond (suc last) u lt =
      ap (λ now. now u) (next last) ∙ (cond-false _ _ _ (ne_eqb u (suc last) (λ same. omega (arith, lt, same))) ∙ loop_beyond last u (omega (arith, lt)))

  loop_zero : (last : ℕ) → after last 0 ≡ tasks 0
  loop_zero zero = ap (λ now. now 0) start
  loop_zero (suc last) = ap (λ now. now 0) (next last) ∙ (cond-false _ _ _ (ne_eqb 0 (suc last) (λ same. omega (arith, same))) ∙ loop_zero last)

  loop_within : (last u : ℕ) → 0 < u → u ≤ last → after last u ≡ map_live f (tasks u)
  loop_within zero u p w = absurd (omega (arith, p, w))
  loop_within (suc last) u p w =
      ap (λ now. now u) (next last) ∙ ⊎_elim
      (λ (e : u ≡ suc last). cond-true _ _ _ (eq-eqb u (suc last) e) ∙ ap (map_live f) (loop_beyond last u (omega (arith, e))))
      (λ (ne : u ≡ suc last → ⊥). cond-false _ _ _ (ne_eqb u (suc last) ne) ∙ loop_within last u p (omega (arith, w, ne)))
      (cases_eq u (suc last))

  pub loop_is : (last : ℕ) → Within last tasks → (u : ℕ) → after last u ≡ map_live f (tasks u)
  loop_is last within u =
      ⊎_elim
      (λ (lt : last < u). loop_beyond last u lt ∙ not_live f (tasks u) (λ x live. let w = within u x live in omega (arith, lt, w.1)))
      (λ (le : u ≤ last). ⊎_elim
      (λ (z : u ≡ 0). subst (λ n. after last n ≡ map_live f (tasks n)) (sym z) (loop_zero last ∙ not_live f (tasks 0) (λ x live. let w = within 0 x live in omega (arith, w.0))))
      (λ (ne : u ≡ 0 → ⊥). loop_within last u (omega (arith, ne)) le)
      (cases_eq u 0))
      (cases_lt last u)

-- ---- Both loops

-- what keeps the class of a task
abbrev pub KeepsClass : (TaskStruct → TaskStruct) → Type 0
KeepsClass f = (x : TaskStruct) → (f x).class ≡ x.class

module _ (f : TaskStruct → TaskStruct) (keeps : KeepsClass f) where
  both_of : (x : TaskStruct) (class : Class) → x.class ≡ class → if_of Idle f (if_of Normal f x) ≡ f x
  both_of x Normal e =
      let first : if_of Normal f x ≡ f x = ap (λ c. if same_class c Normal then f x else x) e in
      ap (if_of Idle f) first ∙ ap (λ c. if same_class c Idle then f (f x) else f x) (keeps x ∙ e)
  both_of x Idle e =
      let first : if_of Normal f x ≡ x = ap (λ c. if same_class c Normal then f x else x) e in
      ap (if_of Idle f) first ∙ ap (λ c. if same_class c Idle then f x else x) e

  pub loops_are : (last : ℕ) (tasks : TaskList) → Within last tasks → for_each Idle f last (for_each Normal f last tasks) ≡ (λ u. map_live f (tasks u))
  loops_are last tasks within =
      let first : for_each Normal f last tasks ≡ (λ u. map_live (if_of Normal f) (tasks u)) = fun_ext (loop_is (if_of Normal f) tasks (λ n. for_each Normal f n tasks) refl (λ n. refl) last within) in
      let middle : TaskList = λ u. map_live (if_of Normal f) (tasks u) in
      ap (for_each Idle f last) first ∙ fun_ext (λ u.
      loop_is (if_of Idle f) middle (λ n. for_each Idle f n middle) refl (λ n. refl) last (within-map (if_of Normal f) last tasks within) u
      ∙ (fate_map (if_of Idle f) (if_of Normal f) (tasks u) ∙ fate_same (λ x. if_of Idle f (if_of Normal f x)) f (tasks u) (λ x live. both_of x x.class refl)))

  pub all_tasks_are : (m : Linux) → Within m.bounds.tasks m.tasks → all_tasks f m ≡ record m { tasks = λ u. map_live f (m.tasks u) }
  all_tasks_are m within = ap (λ tasks. record m { tasks = tasks }) (loops_are m.bounds.tasks m.tasks within)

-- ---- The walk

module _ (klp : Livepatch) where
  -- one task tried
  abbrev pub tried : TaskStruct → TaskStruct
  tried x = (klp_try_switch_task false klp x).task

  abbrev pub passes : TaskStruct → Bool
  passes x = is_ok (klp_try_switch_task false klp x).code

  tried_keeps : KeepsClass tried
  tried_keeps x =
      cond_both (same_state x.patch_state klp.klp_target_state) _ _ (λ (r : Tried). r.task.class ≡ x.class) (λ e. refl)
      (λ e. cond_both (task_curr x) _ _ (λ (r : Tried). r.task.class ≡ x.class) (λ e. refl)
      (λ e. cond_both (klp_check_stack klp x.stack) _ _ (λ (r : Tried). r.task.class ≡ x.class) (λ e. refl) (λ e. refl)))

  try_same : (class : Class) (x : TaskStruct) → same_class x.class class ≡ true → try_of klp class x ≡ klp_try_switch_task false klp x
  try_same class x e = cond-true _ _ _ e

  try_other : (class : Class) (x : TaskStruct) → same_class x.class class ≡ false → try_of klp class x ≡ record { code = OK; task = x }
  try_other class x e = cond-false _ _ _ e

  abbrev step_of : Class → TaskStruct → TaskStruct
  step_of class x = (try_of klp class x).task

  step_is : (class : Class) (x : TaskStruct) → step_of class x ≡ if_of class tried x
  step_is class x =
      cond_both (same_class x.class class) _ _ (λ (r : Tried). r.task ≡ if_of class tried x) (λ e. sym (cond-true _ _ _ e)) (λ e. sym (cond-false _ _ _ e))

  module _ (class : Class) (walked : Walked) where
    each_after : ℕ → TaskList
    each_after n = (try_each klp class n walked).tasks

    pub each_is : (last : ℕ) → Within last walked.tasks → (u : ℕ) → (try_each klp class last walked).tasks u ≡ map_live (step_of class) (walked.tasks u)
    each_is last within u = loop_is (step_of class) walked.tasks (λ n. (try_each klp class n walked).tasks) refl (λ n. refl) last within u

    each_beyond : (last u : ℕ) → last < u → (try_each klp class last walked).tasks u ≡ walked.tasks u
    each_beyond last u lt = loop_beyond (step_of class) walked.tasks (λ n. (try_each klp class n walked).tasks) refl (λ n. refl) last u lt

    abbrev Passed : ℕ → Type 0
    Passed last = (u : ℕ) (x : TaskStruct) → 0 < u → u ≤ last → walked.tasks u ≡ Live x → is_ok (try_of klp class x).code ≡ true

    abbrev test : Fate TaskStruct → Bool
    test fate = on_live true (λ task. is_ok (try_of klp class task).code) fate

    test_from : (fate : Fate TaskStruct) → ((x : TaskStruct) → fate ≡ Live x → is_ok (try_of klp class x).code ≡ true) → test fate ≡ true
    test_from Unused h = refl
    test_from (Live x) h = h x refl
    test_from Dead h = refl

    pub complete_is : (last : ℕ) → (try_each klp class last walked).complete ≡ true → (walked.complete ≡ true) × Passed last
    complete_is zero e = (e, λ u x p w live. absurd (omega (arith, p, w)))
    complete_is (suc last) e =
        let parts = and_parts _ _ e in
        let before = complete_is last parts.0 in (
          before.0,
          λ u x p w live. ⊎_elim
              (λ (same : u ≡ suc last).
              let there : (try_each klp class last walked).tasks (suc last) ≡ Live x = each_beyond last (suc last) (omega arith) ∙ (ap walked.tasks (sym same) ∙ live) in
              sym (ap test there) ∙ parts.1)
              (λ (ne : u ≡ suc last → ⊥). before.1 u x p (omega (arith, w, ne)) live)
              (cases_eq u (suc last)),
        )

    pub complete_from : (last : ℕ) → walked.complete ≡ true → Passed last → (try_each klp class last walked).complete ≡ true
    complete_from zero c h = c
    complete_from (suc last) c h =
        and_from _ _ (complete_from last c (λ u x p w live. h u x p (omega (arith, w)) live))
        (ap test (each_beyond last (suc last) (omega arith)) ∙ test_from (walked.tasks (suc last)) (λ x live. h (suc last) x (omega arith) (omega arith) live))

  module _ (last : ℕ) (tasks : TaskList) (within : Within last tasks) where
    abbrev threads : Walked
    threads = try_each klp Normal last (record { tasks = tasks; complete = true })

    abbrev pub all_tried : Walked
    all_tried = try_each klp Idle last threads

    threads_are : threads.tasks ≡ (λ u. map_live (if_of Normal tried) (tasks u))
    threads_are =
        fun_ext (λ u. each_is Normal (record { tasks = tasks; complete = true }) last within u ∙ fate_same (step_of Normal) (if_of Normal tried) (tasks u) (λ x live. step_is Normal x))

    threads_within : Within last threads.tasks
    threads_within = subst (Within last) (sym threads_are) (within-map (if_of Normal tried) last tasks within)

    pub all_are : all_tried.tasks ≡ (λ u. map_live tried (tasks u))
    all_are =
        fun_ext (λ u.
        each_is Idle threads last threads_within u
        ∙ (fate_same (step_of Idle) (if_of Idle tried) (threads.tasks u) (λ x live. step_is Idle x)
        ∙ (ap (λ now. map_live (if_of Idle tried) (now u)) threads_are
        ∙ (fate_map (if_of Idle tried) (if_of Normal tried) (tasks u) ∙ fate_same (λ x. if_of Idle tried (if_of Normal tried x)) tried (tasks u) (λ x live. both_of tried tried_keeps x x.class refl)))))

    -- the walk completes exactly where each task passes
    abbrev pub AllPass : Type 0
    AllPass = (u : ℕ) (x : TaskStruct) → tasks u ≡ Live x → passes x ≡ true

    pub all_complete : all_tried.complete ≡ true → AllPass
    all_complete e u x live =
        let second = complete_is Idle threads last e in
        let first = complete_is Normal (record { tasks = tasks; complete = true }) last second.0 in
        let place = within u x live in
        by_class x.class refl first.1 second.1 place.0 place.1
      where
        by_class : (class : Class) → x.class ≡ class → Passed Normal (record { tasks = tasks; complete = true }) last → Passed Idle threads last → 0 < u → u ≤ last → passes x ≡ true
        by_class Normal is first second p w = sym (ap (λ (r : Tried). is_ok r.code) (try_same Normal x (ap (λ c. same_class c Normal) is))) ∙ first u x p w live
        by_class Idle is first second p w =
            let there : threads.tasks u ≡ Live x = ap (λ now. now u) threads_are ∙ (ap (map_live (if_of Normal tried)) live ∙ ap (λ c. Live (if same_class c Normal then tried x else x)) is) in
            sym (ap (λ (r : Tried). is_ok r.code) (try_same Idle x (ap (λ c. same_class c Idle) is))) ∙ second u x p w there

    pub all_complete_from : AllPass → all_tried.complete ≡ true
    all_complete_from h =
        complete_from Idle threads last (complete_from Normal (record { tasks = tasks; complete = true }) last refl (λ u x p w live. first u x live x.class refl)) (λ u y p w live. second u y live)
      where
        first : (u : ℕ) (x : TaskStruct) → tasks u ≡ Live x → (class : Class) → x.class ≡ class → is_ok (try_of klp Normal x).code ≡ true
        first u x live Normal is = ap (λ (r : Tried). is_ok r.code) (try_same Normal x (ap (λ c. same_class c Normal) is)) ∙ h u x live
        first u x live Idle is = ap (λ (r : Tried). is_ok r.code) (try_other Normal x (ap (λ c. same_class c Normal) is))

        second_of : (u : ℕ) (y x : TaskStruct) → tasks u ≡ Live x → y ≡ if_of Normal tried x → (class : Class) → x.class ≡ class → is_ok (try_of klp Idle y).code ≡ true
        second_of u y x live same Normal is =
            let went : y ≡ tried x = same ∙ ap (λ c. if same_class c Normal then tried x else x) is in
            ap (λ (r : Tried). is_ok r.code) (try_other Idle y (ap (λ (z : TaskStruct). same_class z.class Idle) went ∙ ap (λ c. same_class c Idle) (tried_keeps x ∙ is)))
        second_of u y x live same Idle is =
            let went : y ≡ x = same ∙ ap (λ c. if same_class c Normal then tried x else x) is in
            ap (λ z. is_ok (try_of klp Idle z).code) went ∙ (ap (λ (r : Tried). is_ok r.code) (try_same Idle x (ap (λ c. same_class c Idle) is)) ∙ h u x live)

        second : (u : ℕ) (y : TaskStruct) → threads.tasks u ≡ Live y → is_ok (try_of klp Idle y).code ≡ true
        second u y live =
            let w = fate_from (if_of Normal tried) (tasks u) y (sym (ap (λ now. now u) threads_are) ∙ live) in
            second_of u y w.life w.live w.is w.life.class refl
