-- The levels that an event changes.
use Rattle.std.proofs.Common.{◌≡◌, ◌≢◌, ℕ, suc, ◌<◌, ◌≤◌, Bool, true, false, not, ◌&&◌, ◌||◌, List, [], ◌∷◌, Option, Some, None, IsTrue, nat_eq, if◌then◌else◌, refl, sym, ap, ap₂, subst, ◌∙◌, ⊎_elim, arith}
use Rattle.std.proofs.lemmas.Bool.{cases_Bool, cases_eq, eq-eqb, ne_eqb, eqb-true, cond-true, cond-false, false≢true}
use Rattle.std.specs.List.{filter, filter_map, list_any, cons_option, range_with_len}
use Rattle.lp_stack.specs.declared.number.Level.{Level}
use Rattle.lp_stack.specs.declared.number.TaskId.{TaskId}
use Rattle.lp_stack.specs.declared.view.Mode.TheVariants.{User, Kernel, Asleep}
use Rattle.lp_model.specs.Rules.{Rules, IsLawful}
use Rattle.lp_model.specs.declared.check.CheckKind.{CheckKind}
use Rattle.lp_model.specs.declared.check.CheckKind.TheVariants as Check
use Rattle.lp_model.specs.declared.verdict.Verdict.{Verdict}
use Rattle.lp_definitions.specs.declared.event.Event.{Event}
use Rattle.lp_definitions.specs.declared.event.Event.TheVariants.{Call, Ret, Sleep, Wake, Enter, Exit, Idle, Resched, Fork, Die, Walk, Stop, Enable, Disable, Reverse}
use Rattle.lp_definitions.specs.declared.refusal.Refusal.{Refusal}
use Rattle.lp_definitions.specs.Tasks.{Fate, Unused, Live, Dead, on_live, map_live, change}
use Rattle.lp_definitions.specs.Leg.{LegTask, State, each_live, is_alone, check_by, when, if_used}
use Rattle.lp_definitions.specs.Sound.{IsSound}
use Rattle.lp_machine.specs.Machine.{LegTasks, outline_of, outlines_of, put_in, calling, returning, bearing, waits_in, admits_all, switches_at, switched_groups, switched_task, affected, next_by, answer_by}
use Rattle.lp_definitions.specs.Run.{switched}
use Rattle.lp_machine.specs.Table.{Engine, IsWide, slot, leg_tasks, state_in}
use Rattle.lp_transition.specs.Weigh.{AreVerdictsFor}
use Rattle.lp_transition.specs.Scan.{verdicts_of, AreEnough}
use Rattle.lp_transition.specs.inside.ScanSteps.{is_judged, switches_by, task_switches}
use Rattle.lp_machine.proofs.EngineLemmas.{and-false, is_unchecked, unchecked-stays}
use Rattle.lp_tasks.proofs.TableLemmas.{slot_from_live, live_from_slot}
use Rattle.lp_machine.proofs.Alone.{ChecksAlone, alone-other}
use Rattle.lp_transition.proofs.AskedScans.{switches-judged}
use Rattle.lp_tasks.proofs.Passing.{passing-any}
use Rattle.lp_transition.proofs.ScanAnswers.{switching_by, switches-walk, switches-stop}
use Rattle.lp_transition.proofs.ScanTakes.{group_fits}
use Rattle.lp_board.specs.Pages.{level_of, level_by}
use Rattle.lp_board.specs.inside.Changes.{target_if, target_among, levels_by}

abbrev pub some_level : ℕ → Option Level
some_level l = Some (record { 0 = l })

-- ---- One task

level-map : (f : LegTask → LegTask) → ((x : LegTask) → (f x).level ≡ x.level) → (fate : Fate LegTask) → level_of (map_live f fate) ≡ level_of fate
level-map f keeps Unused = refl
level-map f keeps (Live x) = ap some_level (keeps x)
level-map f keeps Dead = refl

level-change : (t : ℕ) (f : LegTask → LegTask) → ((x : LegTask) → (f x).level ≡ x.level) → (now : LegTasks) (u : ℕ) → level_of (change t f now u) ≡ level_of (now u)
level-change t f keeps now u =
    ⊎_elim
    (λ (e : nat_eq u t ≡ true). ap level_of (cond-true _ _ _ e) ∙ level-map f keeps (now u))
    (λ (e : nat_eq u t ≡ false). ap level_of (cond-false _ _ _ e))
    (cases_Bool (nat_eq u t))

-- where a live task comes from
record Origin (was : LegTasks) (u : ℕ) (y : LegTask) : Type 0 where
  task : LegTask
  there : was u ≡ Live task
  grouped : task.group ≡ y.group

origin-map : (f : LegTask → LegTask) → ((x : LegTask) → (f x).group ≡ x.group) → (was : LegTasks) (u : ℕ) (y : LegTask) (fate : Fate LegTask) → was u ≡ fate → map_live f fate ≡ Live y → Origin was u y
origin-map f groups was u y Unused at e = absurd cc
origin-map f groups was u y (Live z) at e = let same : f z ≡ y = cc in record { task = z; there = at; grouped = sym (groups z) ∙ ap (λ (w : LegTask). w.group) same }
origin-map f groups was u y Dead at e = absurd cc

origin-change : (t : ℕ) (f : LegTask → LegTask) → ((x : LegTask) → (f x).group ≡ x.group) → (was : LegTasks) (u : ℕ) (y : LegTask) → change t f was u ≡ Live y → Origin was u y
origin-change t f groups was u y at =
    ⊎_elim
    (λ (e : nat_eq u t ≡ true). origin-map f groups was u y (was u) refl (sym (cond-true _ _ _ e) ∙ at))
    (λ (e : nat_eq u t ≡ false). let o : Origin was u y = record { task = y; there = sym (cond-false _ _ _ e) ∙ at; grouped = refl } in o)
    (cases_Bool (nat_eq u t))

filter-none : (test : ℕ → Bool) (xs : List ℕ) → ((n : ℕ) → test n ≡ false) → filter test xs ≡ []
filter-none test [] none = refl
filter-none test (x ∷ xs) none = cond-false _ _ _ (none x) ∙ filter-none test xs none

one-level : (t u : ℕ) (level old : Option Level) → u ≡ t → (if nat_eq t u then level else old) ≡ level
one-level t u level old e = cond-true _ _ _ (eq-eqb t u (sym e))

other-level : (t u : ℕ) (level old : Option Level) → u ≢ t → (if nat_eq t u then level else old) ≡ old
other-level t u level old ne = cond-false _ _ _ (ne_eqb t u (λ e. ne (sym e)))

-- ---- Who switches

module _ (model : Rules) where
  level-stays : (now : State) (event : Event) (fate : Fate LegTask) → ((x : LegTask) → fate ≡ Live x → switches_at model now event x.group ≡ false) → level_of (map_live (switched_task model now event) fate) ≡ level_of fate
  level-stays now event Unused none = refl
  level-stays now event (Live x) none = ap (λ (y : LegTask). some_level y.level) (cond-false _ _ _ (none x refl))
  level-stays now event Dead none = refl

  level-switches : (now : State) (event : Event) (x : LegTask) → switches_at model now event x.group ≡ true → level_of (map_live (switched_task model now event) (Live x)) ≡ some_level now.target
  level-switches now event x switches = ap (λ (y : LegTask). some_level y.level) (cond-true _ _ _ switches)

  switched-none : (now : State) (event : Event) → ((g : ℕ) → switches_at model now event g ≡ false) → switched_groups model now event ≡ []
  unfolding switched_groups
  switched-none now event none = filter-none (switches_at model now event) (range_with_len 0 (suc now.bounds.tasks)) none

  has_switched : (now : State) (event : Event) (g : ℕ) → suc now.bounds.tasks ≡ 65536 → g < 65536 → list_any (nat_eq g) (switched_groups model now event) ≡ switches_at model now event g
  has_switched now event g wide h =
      ap (list_any (nat_eq g)) (switching_by model 65536 now event (switches_at model now event) wide (λ group. refl)) ∙ passing-any 65536 (switches_at model now event) g h

  quiet-none : (now : State) (event : Event) → is_unchecked event ≡ true → switched_groups model now event ≡ []
  quiet-none now event quiet = switched-none now event (λ g. unchecked-stays model now event g quiet)

  quiet-level : (now : State) (event : Event) (fate : Fate LegTask) → is_unchecked event ≡ true → level_of (map_live (switched_task model now event) fate) ≡ level_of fate
  quiet-level now event fate quiet = level-stays now event fate (λ x e. unchecked-stays model now event x.group quiet)

  -- ---- A check of a task that is alone

  crowd-stays : (now : State) (event : Event) (t : ℕ) (kind : CheckKind) → ChecksAlone now.bounds now.tasks event t kind → (group : ℕ) → is_alone now.bounds (outlines_of now.tasks) group t ≡ false → switches_at model now event group ≡ false
  unfolding switches_at
  crowd-stays now event t kind checks group crowd =
      let none : if_used model.uses (check_by now.bounds (outlines_of now.tasks) (Some event) group) ≡ None = ap (if_used model.uses) (checks group ∙ ap (λ b. when b kind) crowd) in
      ap (λ o. waits_in now group && admits_all model now o group) none ∙ and-false (waits_in now group)

  -- the group isn't the task's
  not_alone : (now : State) (t group : ℕ) (fate : Fate LegTask) → now.tasks t ≡ fate → ((x : LegTask) → fate ≡ Live x → x.group ≢ group) → is_alone now.bounds (outlines_of now.tasks) group t ≡ false
  not_alone now t group Unused at ne = ap (λ f. on_live false (λ y. nat_eq y.group group) (map_live outline_of f) && each_live now.bounds (outlines_of now.tasks) (λ other y. not (nat_eq y.group group) || nat_eq other t)) at
  not_alone now t group (Live x) at ne =
      ap (λ f. on_live false (λ y. nat_eq y.group group) (map_live outline_of f) && each_live now.bounds (outlines_of now.tasks) (λ other y. not (nat_eq y.group group) || nat_eq other t)) at
      ∙ ap (λ b. b && each_live now.bounds (outlines_of now.tasks) (λ other y. not (nat_eq y.group group) || nat_eq other t)) (ne_eqb x.group group (ne x refl))
  not_alone now t group Dead at ne = ap (λ f. on_live false (λ y. nat_eq y.group group) (map_live outline_of f) && each_live now.bounds (outlines_of now.tasks) (λ other y. not (nat_eq y.group group) || nat_eq other t)) at

  module _ (e : Engine) (sound : IsSound (state_in e)) (wide : IsWide e.table) (now : State) (event : Event) (t : ℕ) (kind : CheckKind) (checks : ChecksAlone now.bounds now.tasks event t kind) (tasks_wide : suc now.bounds.tasks ≡ 65536) (aims : now.target ≡ e.target)
      (origin : (u : ℕ) (y : LegTask) → now.tasks u ≡ Live y → Origin (leg_tasks e.table) u y) (changes : List ℕ → List (TaskId × Option Level)) (no_changes : changes [] ≡ []) (task : TaskId) (is_task : task.0 ≡ t) (one_change : (g : ℕ) (gs : List ℕ) → changes (g ∷ gs) ≡ (task, some_level e.target) ∷ []) where
    fits : (u : ℕ) (y : LegTask) → now.tasks u ≡ Live y → y.group < 65536
    fits u y at = let o = origin u y at in subst (λ n. n < 65536) o.grouped (group_fits e u o.task sound wide (slot_from_live e.table u o.task o.there))

    numbered : (u : ℕ) (y : LegTask) → now.tasks u ≡ Live y → (0 < u) × (u ≤ now.bounds.tasks)
    numbered u y at = let o = origin u y at in let b = sound.numbered u o.task o.there in (b.0, omega (arith, b.1, tasks_wide))

    -- where no group switches
    all_stay : ((g : ℕ) → switches_at model now event g ≡ false) → (u : ℕ) → level_by (changes (switched_groups model now event)) u (level_of (now.tasks u)) ≡ level_of (map_live (switched_task model now event) (now.tasks u))
    all_stay none u =
        ap (λ gs. level_by (changes gs) u (level_of (now.tasks u))) (switched-none now event none) ∙ ap (λ ms. level_by ms u (level_of (now.tasks u))) no_changes
        ∙ sym (level-stays now event (now.tasks u) (λ x at. none x.group))

    -- where the task's group switches
    one_switches : (x : LegTask) → now.tasks t ≡ Live x → switches_at model now event x.group ≡ true → (u : ℕ) → level_by (changes (switched_groups model now event)) u (level_of (now.tasks u)) ≡ level_of (map_live (switched_task model now event) (now.tasks u))
    one_switches x at switches u = ap (λ ms. level_by ms u (level_of (now.tasks u))) (listed (switched_groups model now event) refl) ∙ ⊎_elim here there (cases_eq u t)
      where
        listed : (gs : List ℕ) → switched_groups model now event ≡ gs → changes (switched_groups model now event) ≡ (task, some_level e.target) ∷ []
        listed [] is =
            let missing : false ≡ true = sym (ap (list_any (nat_eq x.group)) is) ∙ has_switched now event x.group tasks_wide (fits t x at) ∙ switches in
            absurd (false≢true missing)
        listed (g ∷ gs) is = ap changes is ∙ one_change g gs

        here : u ≡ t → level_by ((task, some_level e.target) ∷ []) u (level_of (now.tasks u)) ≡ level_of (map_live (switched_task model now event) (now.tasks u))
        here same =
            one-level task.0 u (some_level e.target) (level_of (now.tasks u)) (same ∙ sym is_task)
            ∙ sym (ap (λ f. level_of (map_live (switched_task model now event) f)) (ap now.tasks same ∙ at) ∙ level-switches now event x switches ∙ ap some_level aims)

        lone : (b : Bool) → is_alone now.bounds (outlines_of now.tasks) x.group t ≡ b → IsTrue (is_alone now.bounds (outlines_of now.tasks) x.group t)
        lone true is = is
        lone false is = let stays : false ≡ true = sym (crowd-stays now event t kind checks x.group is) ∙ switches in absurd (false≢true stays)

        apart : u ≢ t → (y : LegTask) → now.tasks u ≡ Live y → switches_at model now event y.group ≡ false
        apart ne y live =
            let differ : x.group ≢ y.group = λ same. let b = numbered u y live in ne (alone-other now.bounds now.tasks x.group t x at refl (lone (is_alone now.bounds (outlines_of now.tasks) x.group t) refl) u y b.0 b.1 live (sym same)) in
            crowd-stays now event t kind checks y.group (not_alone now t y.group (Live x) at (λ z e same. differ (ap (λ (w : LegTask). w.group) (let inside : x ≡ z = cc in inside) ∙ same)))

        there : u ≢ t → level_by ((task, some_level e.target) ∷ []) u (level_of (now.tasks u)) ≡ level_of (map_live (switched_task model now event) (now.tasks u))
        there ne =
            other-level task.0 u (some_level e.target) (level_of (now.tasks u)) (λ same. ne (same ∙ is_task))
            ∙ sym (level-stays now event (now.tasks u) (apart ne))

    alone-leads : (fate : Fate LegTask) → now.tasks t ≡ fate → (u : ℕ) → level_by (changes (switched_groups model now event)) u (level_of (now.tasks u)) ≡ level_of (map_live (switched_task model now event) (now.tasks u))
    alone-leads Unused at u = all_stay (λ g. crowd-stays now event t kind checks g (not_alone now t g Unused at (λ x e. absurd cc))) u
    alone-leads Dead at u = all_stay (λ g. crowd-stays now event t kind checks g (not_alone now t g Dead at (λ x e. absurd cc))) u
    alone-leads (Live x) at u = by (switches_at model now event x.group) refl
      where
        by : (b : Bool) → switches_at model now event x.group ≡ b → level_by (changes (switched_groups model now event)) u (level_of (now.tasks u)) ≡ level_of (map_live (switched_task model now event) (now.tasks u))
        by true switches = one_switches x at switches u
        by false stays = all_stay (λ g. ⊎_elim
            (λ (same : x.group ≡ g). subst (λ n. switches_at model now event n ≡ false) same stays)
            (λ (ne : x.group ≡ g → ⊥). crowd-stays now event t kind checks g (not_alone now t g (Live x) at (λ z e same. ne (ap (λ (w : LegTask). w.group) (let inside : x ≡ z = cc in inside) ∙ same))))
            (cases_eq x.group g)) u

  -- ---- A scan

  target-level : (e : Engine) (switches : ℕ → Bool) (vs : List Verdict) (u : ℕ) (old : Option Level) → level_by (filter_map (target_if e switches) vs) u old ≡ (if is_judged vs u && task_switches switches (slot e.table u) then some_level e.target else old)
  target-level e switches [] u old = refl
  target-level e switches (v ∷ vs) u old = by (λ before. target-level e switches vs u before) (task_switches switches (slot e.table v.task.0)) refl
    where
      gone : (b : Bool) → (if b then some_level e.target else some_level e.target) ≡ some_level e.target
      gone true = refl
      gone false = refl

      by : ((before : Option Level) → level_by (filter_map (target_if e switches) vs) u before ≡ (if is_judged vs u && task_switches switches (slot e.table u) then some_level e.target else before)) → (b : Bool) → task_switches switches (slot e.table v.task.0) ≡ b → level_by (filter_map (target_if e switches) (v ∷ vs)) u old ≡ (if (nat_eq u v.task.0 || is_judged vs u) && task_switches switches (slot e.table u) then some_level e.target else old)
      by rest true is =
          ap (λ o. level_by (cons_option o (filter_map (target_if e switches) vs)) u old) (cond-true _ _ _ is)
          ∙ rest (if nat_eq v.task.0 u then some_level e.target else old)
          ∙ ⊎_elim
          (λ (same : u ≡ v.task.0).
          ap (λ before. if is_judged vs u && task_switches switches (slot e.table u) then some_level e.target else before) (one-level v.task.0 u (some_level e.target) old same) ∙ gone (is_judged vs u && task_switches switches (slot e.table u))
          ∙ sym (ap₂ (λ a b. if (a || is_judged vs u) && b then some_level e.target else old) (eq-eqb u v.task.0 same) (ap (λ n. task_switches switches (slot e.table n)) same ∙ is)))
          (λ (ne : u ≡ v.task.0 → ⊥).
          ap (λ before. if is_judged vs u && task_switches switches (slot e.table u) then some_level e.target else before) (other-level v.task.0 u (some_level e.target) old ne)
          ∙ sym (ap (λ a. if (a || is_judged vs u) && task_switches switches (slot e.table u) then some_level e.target else old) (ne_eqb u v.task.0 ne)))
          (cases_eq u v.task.0)
      by rest false is =
          ap (λ o. level_by (cons_option o (filter_map (target_if e switches) vs)) u old) (cond-false _ _ _ is)
          ∙ rest old
          ∙ ⊎_elim
          (λ (same : u ≡ v.task.0).
          let mine : task_switches switches (slot e.table u) ≡ false = ap (λ n. task_switches switches (slot e.table n)) same ∙ is in
          ap (λ b. if is_judged vs u && b then some_level e.target else old) mine ∙ ap (λ b. if b then some_level e.target else old) (and-false (is_judged vs u))
          ∙ sym (ap (λ b. if (nat_eq u v.task.0 || is_judged vs u) && b then some_level e.target else old) mine ∙ ap (λ b. if b then some_level e.target else old) (and-false (nat_eq u v.task.0 || is_judged vs u))))
          (λ (ne : u ≡ v.task.0 → ⊥).
          sym (ap (λ a. if (a || is_judged vs u) && task_switches switches (slot e.table u) then some_level e.target else old) (ne_eqb u v.task.0 ne)))
          (cases_eq u v.task.0)

  module _ (lawful : IsLawful model) (e : Engine) (sound : IsSound (state_in e)) (wide : IsWide e.table) (vs : List Verdict) (kind : CheckKind) (event : Event) (enough : AreEnough model kind (state_in e) vs) (now : State) (same_tasks : now.tasks ≡ leg_tasks e.table) (tasks_wide : suc now.bounds.tasks ≡ 65536) (aims : now.target ≡ e.target)
      (switches : (g : ℕ) → switches_at model now event g ≡ switches_by e.table (verdicts_of model kind (state_in e)) g) where
    abbrev in_switched : ℕ → Bool
    in_switched n = list_any (nat_eq n) (switched_groups model now event)

    scan-leads : (u : ℕ) (o : Option LegTask) → slot e.table u ≡ o → level_by (target_among e (switched_groups model now event) vs) u (level_of (leg_tasks e.table u)) ≡ level_of (map_live (switched_task model now event) (leg_tasks e.table u))
    scan-leads u None at =
        target-level e in_switched vs u (level_of (leg_tasks e.table u))
        ∙ ap (λ o. if is_judged vs u && task_switches in_switched o then some_level e.target else level_of (leg_tasks e.table u)) at
        ∙ ap (λ b. if b then some_level e.target else level_of (leg_tasks e.table u)) (and-false (is_judged vs u))
        ∙ sym (level-stays now event (leg_tasks e.table u) (λ x live. let none : None ≡ Some x = sym at ∙ slot_from_live e.table u x live in absurd cc))
    scan-leads u (Some x) at = target-level e in_switched vs u (level_of (leg_tasks e.table u)) ∙ ap (λ o. if is_judged vs u && task_switches in_switched o then some_level e.target else level_of (leg_tasks e.table u)) at ∙ by (switches_at model now event x.group) refl
      where
        live : leg_tasks e.table u ≡ Live x
        live = live_from_slot e.table u x at

        listed : in_switched x.group ≡ switches_at model now event x.group
        listed = has_switched now event x.group tasks_wide (group_fits e u x sound wide at)

        on : (b : Bool) → (if b then some_level e.target else some_level e.target) ≡ some_level e.target
        on true = refl
        on false = refl

        by : (b : Bool) → switches_at model now event x.group ≡ b → (if is_judged vs u && in_switched x.group then some_level e.target else level_of (leg_tasks e.table u)) ≡ level_of (map_live (switched_task model now event) (leg_tasks e.table u))
        by false stays =
            ap (λ b. if is_judged vs u && b then some_level e.target else level_of (leg_tasks e.table u)) (listed ∙ stays)
            ∙ ap (λ b. if b then some_level e.target else level_of (leg_tasks e.table u)) (and-false (is_judged vs u))
            ∙ sym (level-stays now event (leg_tasks e.table u) (λ y there. let inside : Live x ≡ Live y = sym live ∙ there in let same : x ≡ y = cc in subst (λ (z : LegTask). switches_at model now event z.group ≡ false) same stays))
        by true does =
            let end : level_of (map_live (switched_task model now event) (leg_tasks e.table u)) ≡ some_level e.target = ap (λ f. level_of (map_live (switched_task model now event) f)) live ∙ level-switches now event x does ∙ ap some_level aims in
            ⊎_elim
            (λ (here : nat_eq x.level e.target ≡ true).
            let old : level_of (leg_tasks e.table u) ≡ some_level e.target = ap level_of live ∙ ap some_level (eqb-true x.level e.target here) in
            ap (λ l. if is_judged vs u && in_switched x.group then some_level e.target else l) old ∙ on (is_judged vs u && in_switched x.group) ∙ sym end)
            (λ (off : nat_eq x.level e.target ≡ false).
            let judged : is_judged vs u ≡ true = switches-judged model lawful kind (state_in e) sound vs enough e.table (λ t y there. slot_from_live e.table t y there) u x live off (sym (switches x.group) ∙ does) in
            ap₂ (λ a b. if a && b then some_level e.target else level_of (leg_tasks e.table u)) judged (listed ∙ does) ∙ sym end)
            (cases_Bool (nat_eq x.level e.target))

  -- ---- Any event

  target-none : (e : Engine) (vs : List Verdict) → target_among e [] vs ≡ []
  target-none e [] = refl
  target-none e (v ∷ vs) = ap (λ o. cons_option o (target_among e [] vs)) (cond-false _ _ _ (no_group (slot e.table v.task.0))) ∙ target-none e vs
    where
      no_group : (o : Option LegTask) → task_switches (λ n. list_any (nat_eq n) []) o ≡ false
      no_group None = refl
      no_group (Some x) = refl

  walk-levels : (e : Engine) (gs : List ℕ) (vs : List Verdict) → levels_by e Walk (switched gs) vs ≡ target_among e gs vs
  walk-levels e [] vs = sym (target-none e vs)
  walk-levels e (g ∷ gs) vs = refl

  stop-levels : (e : Engine) (gs : List ℕ) (vs : List Verdict) → levels_by e Stop (switched gs) vs ≡ target_among e gs vs
  stop-levels e [] vs = sym (target-none e vs)
  stop-levels e (g ∷ gs) vs = refl

  module _ (lawful : IsLawful model) (e : Engine) (sound : IsSound (state_in e)) (wide : IsWide e.table) (vs : List Verdict) where
    abbrev s : State
    s = state_in e

    abbrev Leading : Event → Option Refusal → ℕ → Type 0
    Leading event refusal u = level_by (levels_by e event (answer_by model s event refusal).what vs) u (level_of (leg_tasks e.table u)) ≡ level_of ((next_by model s event refusal).tasks u)

    -- a quiet event that brings and ends no task
    quiet-leads : (event : Event) (t : ℕ) (f : LegTask → LegTask) → is_unchecked event ≡ true → ((x : LegTask) → (f x).level ≡ x.level) → (affected model s event).tasks ≡ change t f (leg_tasks e.table) → levels_by e event (switched []) vs ≡ []
        → (u : ℕ) → level_by (levels_by e event (switched (switched_groups model (affected model s event) event)) vs) u (level_of (leg_tasks e.table u)) ≡ level_of (map_live (switched_task model (affected model s event) event) ((affected model s event).tasks u))
    quiet-leads event t f quiet keeps own none u =
        ap (λ gs. level_by (levels_by e event (switched gs) vs) u (level_of (leg_tasks e.table u))) (quiet-none (affected model s event) event quiet)
        ∙ ap (λ ms. level_by ms u (level_of (leg_tasks e.table u))) none
        ∙ sym (quiet-level (affected model s event) event ((affected model s event).tasks u) quiet ∙ ap (λ (now : LegTasks). level_of (now u)) own ∙ level-change t f keeps (leg_tasks e.table) u)

    leads : (event : Event) → AreVerdictsFor model s event vs → (refusal : Option Refusal) → (u : ℕ) → Leading event refusal u
    leads event given (Some why) u = refl
    leads Enable given None u = refl
    leads Disable given None u = refl
    leads Reverse given None u = refl
    leads (Call t f) given None u =
        let now = affected model s (Call t f) in
        sym (quiet-level now (Call t f) (now.tasks u) refl ∙ level-change t.0 (calling (suc e.number) f) (λ x. refl) (leg_tasks e.table) u)
    leads (Ret t) given None u = quiet-leads (Ret t) t.0 returning refl (λ x. refl) refl refl u
    leads (Sleep t) given None u = quiet-leads (Sleep t) t.0 (put_in Asleep) refl (λ x. refl) refl refl u
    leads (Wake t) given None u = quiet-leads (Wake t) t.0 (put_in Kernel) refl (λ x. refl) refl refl u
    leads (Enter t) given None u = quiet-leads (Enter t) t.0 (put_in Kernel) refl (λ x. refl) refl refl u
    leads (Fork p c how) given None u =
        let now = affected model s (Fork p c how) in
        let old = level_of (leg_tasks e.table u) in
        ap (λ gs. level_by (levels_by e (Fork p c how) (switched gs) vs) u old) (quiet-none now (Fork p c how) refl)
        ∙ ⊎_elim
        (λ (same : u ≡ c.0).
        one-level c.0 u (level_of (leg_tasks e.table p.0)) old same
        ∙ sym (quiet-level now (Fork p c how) (now.tasks u) refl ∙ ap level_of (cond-true _ _ _ (eq-eqb u c.0 same)) ∙ level-map (bearing model.child_group c.0 how) (λ x. refl) (leg_tasks e.table p.0)))
        (λ (ne : u ≡ c.0 → ⊥).
        other-level c.0 u (level_of (leg_tasks e.table p.0)) old ne
        ∙ sym (quiet-level now (Fork p c how) (now.tasks u) refl ∙ ap level_of (cond-false _ _ _ (ne_eqb u c.0 ne))))
        (cases_eq u c.0)
    leads (Die t) given None u =
        let now = affected model s (Die t) in
        let old = level_of (leg_tasks e.table u) in
        ap (λ gs. level_by (levels_by e (Die t) (switched gs) vs) u old) (quiet-none now (Die t) refl)
        ∙ ⊎_elim
        (λ (same : u ≡ t.0). one-level t.0 u None old same ∙ sym (quiet-level now (Die t) (now.tasks u) refl ∙ ap level_of (cond-true _ _ _ (eq-eqb u t.0 same))))
        (λ (ne : u ≡ t.0 → ⊥). other-level t.0 u None old ne ∙ sym (quiet-level now (Die t) (now.tasks u) refl ∙ ap level_of (cond-false _ _ _ (ne_eqb u t.0 ne))))
        (cases_eq u t.0)
    leads (Exit t) given None u =
        let now = affected model s (Exit t) in
        ap (λ l. level_by (levels_by e (Exit t) (switched (switched_groups model now (Exit t))) vs) u l) (sym (level-change t.0 (put_in User) (λ x. refl) (leg_tasks e.table) u))
        ∙ alone-leads e sound wide now (Exit t) t.0 Check.KernelExit (λ group. refl) refl refl (λ v y at. origin-change t.0 (put_in User) (λ x. refl) (leg_tasks e.table) v y at)
        (λ gs. levels_by e (Exit t) (switched gs) vs) refl t refl (λ g gs. refl) (now.tasks t.0) refl u
    leads (Idle t) given None u =
        let now = affected model s (Idle t) in
        alone-leads e sound wide now (Idle t) t.0 Check.IdlePoint (λ group. refl) refl refl (λ v y at. record { task = y; there = at; grouped = refl })
        (λ gs. levels_by e (Idle t) (switched gs) vs) refl t refl (λ g gs. refl) (now.tasks t.0) refl u
    leads (Resched t) given None u =
        let now = affected model s (Resched t) in
        alone-leads e sound wide now (Resched t) t.0 Check.Resched (λ group. refl) refl refl (λ v y at. record { task = y; there = at; grouped = refl })
        (λ gs. levels_by e (Resched t) (switched gs) vs) refl t refl (λ g gs. refl) (now.tasks t.0) refl u
    leads Walk given None u =
        let now = affected model s Walk in
        ap (λ ms. level_by ms u (level_of (leg_tasks e.table u))) (walk-levels e (switched_groups model now Walk) vs)
        ∙ scan-leads lawful e sound wide vs Check.Walk Walk given now refl refl refl (switches-walk model lawful 65536 s refl sound e.table (λ t y there. slot_from_live e.table t y there)) u (slot e.table u) refl
    leads Stop given None u =
        let now = affected model s Stop in
        ap (λ ms. level_by ms u (level_of (leg_tasks e.table u))) (stop-levels e (switched_groups model now Stop) vs)
        ∙ scan-leads lawful e sound wide vs Check.Stop Stop given now refl refl refl (switches-stop model lawful 65536 s refl sound e.table (λ t y there. slot_from_live e.table t y there)) u (slot e.table u) refl

    -- what the answer tells leads to the next state's levels
    pub levels-lead : (event : Event) → AreVerdictsFor model s event vs → (refusal : Option Refusal) → (u : ℕ) → level_by (levels_by e event (answer_by model s event refusal).what vs) u (level_of (leg_tasks e.table u)) ≡ level_of ((next_by model s event refusal).tasks u)
    levels-lead = leads
