-- What a scan's verdicts say of the waiting tasks.
use Rattle.std.proofs.Common.{◌≡◌, ℕ, zero, suc, ◌+◌, ◌<◌, ◌≤◌, Bool, true, false, ◌||◌, List, [], ◌∷◌, map, Option, Some, None, nat_eq, refl, sym, ap, ◌∙◌, ⊎_elim, arith}
use Rattle.std.proofs.lemmas.Bool.{cond-true, cond-false, cases_Bool, cases_eq, or_cases, or_left, or_right}
use Rattle.std.specs.List.{filter_map, cons_option, list_any, range_with_len}
use Rattle.lp_stack.specs.TaskView.{TaskView}
use Rattle.lp_model.specs.Rules.{Rules}
use Rattle.lp_model.specs.declared.check.CheckKind.{CheckKind}
use Rattle.lp_model.specs.declared.verdict.Verdict.{Verdict}
use Rattle.lp_definitions.specs.Tasks.{Fate, Unused, Live, Dead}
use Rattle.lp_definitions.specs.Leg.{LegTask, State}
use Rattle.lp_machine.specs.Machine.{view_of}
use Rattle.lp_transition.specs.Scan.{waiting_view, views_of, verdict_of, verdicts_of}

-- ---- What a function gives of a range of numbers

pub any-map : {X Y : Type 0} (f : X → Y) (p : Y → Bool) (xs : List X) → list_any p (map f xs) ≡ list_any (λ x. p (f x)) xs
any-map f p [] = refl
any-map f p (x ∷ xs) = ap (λ b. p (f x) || b) (any-map f p xs)

-- a number at which the function gives a value that passes
record Given {Y : Type 0} (h : ℕ → Option Y) (p : Y → Bool) (low high : ℕ) : Type 0 where
  number : ℕ
  value : Y
  from : low ≤ number
  below : number < high
  gives : h number ≡ Some value
  passed : p value ≡ true

first-is : {Y : Type 0} (h : ℕ → Option Y) (p : Y → Bool) (a k : ℕ) (rest : List Y) (o : Option Y) → h a ≡ o → list_any p (cons_option o rest) ≡ true → (list_any p rest ≡ true → Given h p (a + 1) (a + 1 + k)) → Given h p a (a + suc k)
first-is h p a k rest None e t more =
    let g = more t in
    record { number = g.number; value = g.value; from = omega arith; below = omega arith; gives = g.gives; passed = g.passed }
first-is h p a k rest (Some y) e t more =
    ⊎_elim
    (λ (here : p y ≡ true). record { number = a; value = y; from = omega arith; below = omega arith; gives = e; passed = here })
    (λ (later : list_any p rest ≡ true).
    let g = more later in
    record { number = g.number; value = g.value; from = omega arith; below = omega arith; gives = g.gives; passed = g.passed })
    (or_cases (p y) (list_any p rest) t)

range-is : {Y : Type 0} (h : ℕ → Option Y) (p : Y → Bool) (k a : ℕ) → list_any p (filter_map h (range_with_len a k)) ≡ true → Given h p a (a + k)
range-is h p zero a t = absurd (cc)
range-is h p (suc k) a t = first-is h p a k (filter_map h (range_with_len (a + 1) k)) (h a) refl t (λ later. range-is h p k (a + 1) later)

any_first : {Y : Type 0} (p : Y → Bool) (o : Option Y) (rest : List Y) → list_any p rest ≡ true → list_any p (cons_option o rest) ≡ true
any_first p None rest t = t
any_first p (Some y) rest t = or_right (p y) (list_any p rest) t

range-from : {Y : Type 0} (h : ℕ → Option Y) (p : Y → Bool) (k a n : ℕ) (y : Y) → a ≤ n → n < a + k → h n ≡ Some y → p y ≡ true → list_any p (filter_map h (range_with_len a k)) ≡ true
range-from h p zero a n y low high e t = absurd (omega arith)
range-from h p (suc k) a n y low high e t =
    let rest = filter_map h (range_with_len (a + 1) k) in
    ⊎_elim
    (λ (same : n ≡ a). ap (λ o. list_any p (cons_option o rest)) (ap h (sym same) ∙ e) ∙ or_left (p y) (list_any p rest) t)
    (λ (ne : n ≡ a → ⊥). any_first p (h a) rest (range-from h p k (a + 1) n y (omega (arith, ne)) (omega arith) e t))
    (cases_eq n a)

-- ---- The verdicts

-- a waiting task, whose verdict passes a test
pub record Judged (model : Rules) (kind : CheckKind) (s : State) (p : Verdict → Bool) : Type 0 where
  pub number : ℕ
  pub task : LegTask
  pub live : s.tasks number ≡ Live task
  pub off : nat_eq task.level s.target ≡ false
  pub passed : p (verdict_of model kind s.aim (view_of number task)) ≡ true

judged : (model : Rules) (kind : CheckKind) (s : State) (p : Verdict → Bool) (t : ℕ) (y : TaskView) (fate : Fate LegTask) → s.tasks t ≡ fate → waiting_view s.target t fate ≡ Some y → p (verdict_of model kind s.aim y) ≡ true → Judged model kind s p
judged model kind s p t y Unused e given passed = absurd (cc)
judged model kind s p t y Dead e given passed = absurd (cc)
judged model kind s p t y (Live x) e given passed =
    ⊎_elim
    (λ (on : nat_eq x.level s.target ≡ true). let none = cond-true (nat_eq x.level s.target) None (Some (view_of t x)) on in absurd (cc))
    (λ (off : nat_eq x.level s.target ≡ false).
    let some = cond-false (nat_eq x.level s.target) None (Some (view_of t x)) off in
    let same : view_of t x ≡ y = cc in
    record { number = t; task = x; live = e; off = off; passed = ap (λ v. p (verdict_of model kind s.aim v)) same ∙ passed })
    (cases_Bool (nat_eq x.level s.target))

-- a verdict that passes is a waiting task's
pub verdict-is : (model : Rules) (kind : CheckKind) (s : State) (p : Verdict → Bool) → list_any p (verdicts_of model kind s) ≡ true → Judged model kind s p
unfolding views_of
verdict-is model kind s p t =
    let h = λ (n : ℕ). waiting_view s.target n (s.tasks n) in
    let views = filter_map h (range_with_len 1 s.bounds.tasks) in
    let g = range-is h (λ y. p (verdict_of model kind s.aim y)) s.bounds.tasks 1 (sym (any-map (verdict_of model kind s.aim) p views) ∙ t) in
    judged model kind s p g.number g.value (s.tasks g.number) refl g.gives g.passed

-- each waiting task has its verdict
pub verdict-from : (model : Rules) (kind : CheckKind) (s : State) (p : Verdict → Bool) → (j : Judged model kind s p) → 0 < j.number → j.number ≤ s.bounds.tasks → list_any p (verdicts_of model kind s) ≡ true
unfolding views_of
verdict-from model kind s p j positive within =
    let h = λ (n : ℕ). waiting_view s.target n (s.tasks n) in
    let views = filter_map h (range_with_len 1 s.bounds.tasks) in
    let given = ap (waiting_view s.target j.number) j.live ∙ cond-false (nat_eq j.task.level s.target) None (Some (view_of j.number j.task)) j.off in
    any-map (verdict_of model kind s.aim) p views
    ∙ range-from h (λ y. p (verdict_of model kind s.aim y)) s.bounds.tasks 1 j.number (view_of j.number j.task) (omega arith) (omega arith) given j.passed
