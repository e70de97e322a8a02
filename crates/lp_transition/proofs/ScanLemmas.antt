-- What a scan looks at is what the engine's waiting set gives.
use Rattle.std.proofs.Common.{◌≡◌, ℕ, zero, suc, ◌+◌, ◌-◌, Bool, true, false, not, List, [], ◌∷◌, map, Option, Some, None, if◌then◌else◌, nat_eq, refl, sym, ap, ap₂, ◌∙◌, ⊎_elim, arith}
use Rattle.std.proofs.lemmas.Bool.{cond-true, cond-false, cases_Bool}
use Rattle.std.specs.List.{filter, filter_map, cons_option, list_any, range_with_len}
use Rattle.std.specs.Option.{option_map}
use mathlib.Core.Path.{fun_ext}
use Rattle.lp_stack.specs.TaskView.{TaskView}
use Rattle.lp_numbers.specs.Numbers.{Numbers, has}
use Rattle.lp_definitions.specs.Tasks.{Fate, Unused, Live, Dead}
use Rattle.lp_definitions.specs.Leg.{LegTask, State}
use Rattle.lp_machine.specs.Machine.{view_of, waits_in}
use Rattle.lp_machine.specs.Table.{Engine, slot, fate_at, leg_tasks, state_in}
use Rattle.lp_tasks.specs.inside.Table.{is_off, is_in}
use Rattle.lp_transition.specs.inside.Invariant.{IsEngine}
use Rattle.lp_transition.specs.Scan.{waiting_view, views_of}
use Rattle.lp_tasks.specs.Passing.{passing}
use Rattle.lp_transition.specs.inside.ScanSteps.{waiting_slot}
use Rattle.lp_tasks.proofs.Passing.{passing-skip, passing-both_is, passing-both_from}
use Rattle.lp_tasks.proofs.MemberLemmas.{slot-below, member-is, member-from, waits-is, waits-from}
use Rattle.lp_definitions.proofs.Quantifiers.{same_bool}
use Rattle.lp_tasks.proofs.TableLemmas.{slot-zero}

-- ---- The views of the waiting tasks

-- a function that gives nothing where a test fails
view_where : (test : ℕ → Bool) (g f : ℕ → Option TaskView) (k a : ℕ) → ((t : ℕ) → g t ≡ (if test t then f t else None)) → filter_map g (range_with_len a k) ≡ filter_map f (filter test (range_with_len a k))
view_where test g f zero a is = refl
view_where test g f (suc k) a is =
    ⊎_elim
    (λ (h : test a ≡ true).
    ap (λ o. cons_option o (filter_map g (range_with_len (a + 1) k))) (is a ∙ cond-true (test a) (f a) None h)
    ∙ ap (cons_option (f a)) (view_where test g f k (a + 1) is)
    ∙ ap (filter_map f) (sym (cond-true (test a) (a ∷ filter test (range_with_len (a + 1) k)) (filter test (range_with_len (a + 1) k)) h)))
    (λ (h : test a ≡ false).
    ap (λ o. cons_option o (filter_map g (range_with_len (a + 1) k))) (is a ∙ cond-false (test a) (f a) None h)
    ∙ view_where test g f k (a + 1) is
    ∙ ap (filter_map f) (sym (cond-false (test a) (a ∷ filter test (range_with_len (a + 1) k)) (filter test (range_with_len (a + 1) k)) h)))
    (cases_Bool (test a))

-- the views, by a test that says who waits
views_by : (limit : ℕ) (s : State) (f : ℕ → Option TaskView) (test : ℕ → Bool) → limit ≡ suc s.bounds.tasks → test 0 ≡ false → ((t : ℕ) → waiting_view s.target t (s.tasks t) ≡ (if test t then f t else None)) → views_of s ≡ filter_map f (passing 0 limit test)
unfolding views_of passing
views_by limit s f test wide none is =
    let count : limit - 1 ≡ s.bounds.tasks = omega arith in
    view_where test (λ t. waiting_view s.target t (s.tasks t)) f s.bounds.tasks 1 is
    ∙ ap (λ n. filter_map f (filter test (range_with_len 1 n))) (sym count)
    ∙ ap (filter_map f) (sym (passing-skip 0 1 limit test (omega arith) (omega arith) (λ k low high. let zero_is : k ≡ 0 = omega arith in rw zero_is none)))

by_level : (target t : ℕ) (x : LegTask) (used : Bool) (b : Bool) → nat_eq x.level target ≡ b → waiting_view target t (fate_at (Some x) used) ≡ (if not b then Some (view_of t x) else None)
by_level target t x used true e = cond-true (nat_eq x.level target) None (Some (view_of t x)) e
by_level target t x used false e = cond-false (nat_eq x.level target) None (Some (view_of t x)) e

in_slot : (target t : ℕ) (o : Option LegTask) (used : Bool) → waiting_view target t (fate_at o used) ≡ (if is_off target o then option_map (view_of t) o else None)
in_slot target t None true = refl
in_slot target t None false = refl
in_slot target t (Some x) used = by_level target t x used (nat_eq x.level target) refl

view_where_waits : (t : ℕ) (b : Bool) (o : Option LegTask) → (if b then option_map (view_of t) o else None) ≡ option_map (view_of t) (if b then o else None)
view_where_waits t true o = refl
view_where_waits t false o = refl

view_twice : (t : ℕ) (b : Bool) (o : Option LegTask) → option_map (view_of t) (if b then o else None) ≡ (if b then option_map (view_of t) (if b then o else None) else None)
view_twice t true o = refl
view_twice t false o = refl

-- a function that gives nothing of 0
given_past_zero : (h : ℕ → Option TaskView) (ns : List ℕ) (b : Bool) → h 0 ≡ None → filter_map h (if b then 0 ∷ ns else ns) ≡ filter_map h ns
given_past_zero h ns true none = ap (λ o. cons_option o (filter_map h ns)) none
given_past_zero h ns false none = refl

given_cons : (h : ℕ → Option TaskView) (asked : ℕ → Bool) (t : ℕ) (views : List TaskView) (ns : List ℕ) (o : Option TaskView) (b : Bool) → h t ≡ o → asked t ≡ b → ((y : TaskView) → o ≡ Some y → y.task ≡ t) → filter (λ y. asked y.task) views ≡ filter_map h ns
    → filter (λ y. asked y.task) (cons_option o views) ≡ filter_map h (if b then t ∷ ns else ns)
given_cons h asked t views ns None true e a same rest = rest ∙ sym (ap (λ o. cons_option o (filter_map h ns)) e)
given_cons h asked t views ns None false e a same rest = rest
given_cons h asked t views ns (Some y) true e a same rest =
    cond-true (asked y.task) (y ∷ filter (λ v. asked v.task) views) (filter (λ v. asked v.task) views) (ap asked (same y refl) ∙ a)
    ∙ ap (λ vs. y ∷ vs) rest
    ∙ sym (ap (λ o. cons_option o (filter_map h ns)) e)
given_cons h asked t views ns (Some y) false e a same rest =
    cond-false (asked y.task) (y ∷ filter (λ v. asked v.task) views) (filter (λ v. asked v.task) views) (ap asked (same y refl) ∙ a) ∙ rest

-- the views of the numbers that pass are the views that pass
given_asked : (h : ℕ → Option TaskView) (asked : ℕ → Bool) → ((t : ℕ) (y : TaskView) → h t ≡ Some y → y.task ≡ t) → (ns : List ℕ) → filter (λ y. asked y.task) (filter_map h ns) ≡ filter_map h (filter asked ns)
given_asked h asked same [] = refl
given_asked h asked same (t ∷ ns) = given_cons h asked t (filter_map h ns) (filter asked ns) (h t) (asked t) refl refl (same t) (given_asked h asked same ns)

view_task : (target t : ℕ) (fate : Fate LegTask) (y : TaskView) → waiting_view target t fate ≡ Some y → y.task ≡ t
view_task target t Unused y e = absurd (cc)
view_task target t Dead y e = absurd (cc)
view_task target t (Live x) y e = of (nat_eq x.level target) e
  where
    of : (b : Bool) → (if b then None else Some (view_of t x)) ≡ Some y → y.task ≡ t
    of true h = absurd (cc)
    of false h = let same : view_of t x ≡ y = cc in sym (ap (λ (v : TaskView). v.task) same)

views_passing : (limit : ℕ) (s : State) (asked : ℕ → Bool) → limit ≡ suc s.bounds.tasks → waiting_view s.target 0 (s.tasks 0) ≡ None
    → filter_map (λ t. waiting_view s.target t (s.tasks t)) (passing 0 limit asked) ≡ filter (λ v. asked v.task) (views_of s)
unfolding views_of passing
views_passing limit s asked wide none =
    let h = λ (t : ℕ). waiting_view s.target t (s.tasks t) in
    let count : limit - 0 ≡ suc s.bounds.tasks = omega arith in
    ap (λ n. filter_map h (filter asked (range_with_len 0 n))) count
    ∙ given_past_zero h (filter asked (range_with_len 1 s.bounds.tasks)) (asked 0) none
    ∙ sym (given_asked h asked (λ t y e. view_task s.target t (s.tasks t) y e) (range_with_len 1 s.bounds.tasks))

-- ---- The tasks that are viewed

task_cons : (t : ℕ) (views : List TaskView) (ns : List ℕ) (o : Option TaskView) (b : Bool) → option_map (λ (y : TaskView). y.task) o ≡ (if b then Some t else None) → map (λ (y : TaskView). y.task) views ≡ ns → map (λ (y : TaskView). y.task) (cons_option o views) ≡ (if b then t ∷ ns else ns)
task_cons t views ns None true e rest = absurd (cc)
task_cons t views ns None false e rest = rest
task_cons t views ns (Some y) true e rest = let same : y.task ≡ t = cc in ap₂ (λ n ms. n ∷ ms) same rest
task_cons t views ns (Some y) false e rest = absurd (cc)

tasks_given : (h : ℕ → Option TaskView) (test : ℕ → Bool) → ((t : ℕ) → option_map (λ (y : TaskView). y.task) (h t) ≡ (if test t then Some t else None)) → (ns : List ℕ) → map (λ (y : TaskView). y.task) (filter_map h ns) ≡ filter test ns
tasks_given h test is [] = refl
tasks_given h test is (t ∷ ns) = task_cons t (filter_map h ns) (filter test ns) (h t) (test t) (is t) (tasks_given h test is ns)

task_where : (target t : ℕ) (o : Option LegTask) (used b : Bool) → b ≡ is_off target o → option_map (λ (y : TaskView). y.task) (waiting_view target t (fate_at o used)) ≡ (if b then Some t else None)
task_where target t o used b e = ap (option_map (λ (y : TaskView). y.task)) (in_slot target t o used ∙ ap (λ c. if c then option_map (view_of t) o else None) (sym e)) ∙ of o b e
  where
    of : (p : Option LegTask) (c : Bool) → c ≡ is_off target p → option_map (λ (y : TaskView). y.task) (if c then option_map (view_of t) p else None) ≡ (if c then Some t else None)
    of None true h = absurd (cc)
    of None false h = refl
    of (Some x) true h = refl
    of (Some x) false h = refl

tasks_by : (limit : ℕ) (s : State) (test : ℕ → Bool) → limit ≡ suc s.bounds.tasks → test 0 ≡ false → ((t : ℕ) → option_map (λ (y : TaskView). y.task) (waiting_view s.target t (s.tasks t)) ≡ (if test t then Some t else None)) → map (λ (y : TaskView). y.task) (views_of s) ≡ passing 0 limit test
unfolding views_of passing
tasks_by limit s test wide none is =
    let count : limit - 1 ≡ s.bounds.tasks = omega arith in
    tasks_given (λ t. waiting_view s.target t (s.tasks t)) test is (range_with_len 1 s.bounds.tasks)
    ∙ ap (λ n. filter test (range_with_len 1 n)) (sym count)
    ∙ sym (passing-skip 0 1 limit test (omega arith) (omega arith) (λ k low high. let zero_is : k ≡ 0 = omega arith in rw zero_is none))

module _ (e : Engine) (waiting : Numbers) (kept : IsEngine e waiting) where
  -- the waiting set says who has a view
  pub view-waiting : (t : ℕ) → waiting_view e.target t (leg_tasks e.table t) ≡ option_map (view_of t) (waiting_slot e.table waiting t)
  view-waiting t =
      in_slot e.target t (slot e.table t) (has e.table.used t)
      ∙ ap (λ b. if b then option_map (view_of t) (slot e.table t) else None) (sym (kept.waits t))
      ∙ view_where_waits t (has waiting t) (slot e.table t)

  zero_waits : has waiting 0 ≡ false
  zero_waits = kept.waits 0 ∙ ap (is_off e.target) (slot-zero e kept.sound)

  -- the waiting set gives the views
  pub views-in_order : filter_map (λ t. option_map (view_of t) (waiting_slot e.table waiting t)) (passing 0 65536 (has waiting)) ≡ views_of (state_in e)
  views-in_order =
      sym (views_by 65536 (state_in e) (λ t. option_map (view_of t) (waiting_slot e.table waiting t)) (has waiting) (omega arith) zero_waits
      (λ t. view-waiting t ∙ view_twice t (has waiting t) (slot e.table t)))

  -- a set gives the views of its waiting tasks
  pub views-asked : (asked : ℕ → Bool) → filter_map (λ t. option_map (view_of t) (waiting_slot e.table waiting t)) (passing 0 65536 asked) ≡ filter (λ v. asked v.task) (views_of (state_in e))
  views-asked asked =
      ap (λ f. filter_map f (passing 0 65536 asked)) (sym (fun_ext view-waiting))
      ∙ views_passing 65536 (state_in e) asked (omega arith) (view-waiting 0 ∙ ap (λ (b : Bool). option_map (view_of 0) (if b then slot e.table 0 else None)) zero_waits)

  -- the tasks that are viewed are the members of the waiting set
  pub tasks-waiting : map (λ (y : TaskView). y.task) (views_of (state_in e)) ≡ passing 0 65536 (has waiting)
  tasks-waiting = tasks_by 65536 (state_in e) (has waiting) (omega arith) zero_waits (λ t. task_where e.target t (slot e.table t) (has e.table.used t) (has waiting t) (kept.waits t))

-- ---- The groups that wait

-- a group waits where a waiting task is a member
pub waits-in_order : (e : Engine) (waiting : Numbers) → IsEngine e waiting → (group : ℕ) → list_any (λ t. is_in group (slot e.table t)) (passing 0 65536 (has waiting)) ≡ waits_in (state_in e) group
waits-in_order e waiting kept group =
    let empty = slot-zero e kept.sound in
    same_bool (list_any (λ t. is_in group (slot e.table t)) (passing 0 65536 (has waiting))) (waits_in (state_in e) group)
    (λ h.
    let b = passing-both_is 65536 (has waiting) (λ t. is_in group (slot e.table t)) h in
    waits-from e.table e.patches kept.wide empty waiting e.target kept.waits group (record { number = b.number; waits = b.member; member = member-is e.table group b.number b.passed }))
    (λ h.
    let w = waits-is e.table e.patches kept.wide empty waiting e.target kept.waits group h in
    passing-both_from 65536 (has waiting) (λ t. is_in group (slot e.table t)) (record {
      number = w.number;
      below = slot-below e.table w.number w.member.task kept.wide w.member.there;
      member = w.waits;
      passed = member-from e.table group w.number w.member;
    }))
