-- What holds of each live task, or of some.
use Rattle.std.proofs.Common.{◌≡◌, ℕ, zero, suc, ◌<◌, ◌≤◌, Bool, true, false, List, [], ◌∷◌, map, All, IsTrue, refl, sym, ap, ap₂, subst, ⊎_elim, arith}
use Rattle.std.proofs.lemmas.Bool.{or_cases, or_left, or_right, and_parts, and_cases, and_from, cases_eq}
use Rattle.std.proofs.lemmas.List.Elements.{All-head, All-tail}
use mathlib.Core.Path.{fun_ext}
use Rattle.lp_definitions.specs.Tasks.{Life, Fate, Unused, Live, Dead, Tasks, on_live, map_live, Bounds}
use Rattle.lp_definitions.specs.Leg.{each_task, some_task, each_live, some_live}

-- a live task that passes a test
pub record Passes {A : Type 0} (bounds : Bounds) (now : ℕ → Fate A) (test : ℕ → A → Bool) : Type 0 where
  pub task : ℕ
  pub life : A
  pub positive : 0 < task
  pub within : task ≤ bounds.tasks
  pub live : now task ≡ Live life
  pub passed : IsTrue (test task life)

some_task_from : (last : ℕ) (test : ℕ → Bool) (t : ℕ) → 0 < t → t ≤ last → IsTrue (test t) → IsTrue (some_task last test)
some_task_from zero test t p w h = absurd (omega arith)
some_task_from (suc last) test t p w h =
    ⊎_elim (λ (e : t ≡ suc last). or_left _ _ (subst (λ n. IsTrue (test n)) e h)) (λ (ne : t ≡ suc last → ⊥). or_right (test (suc last)) _ (some_task_from last test t p (omega (arith, ne)) h)) (cases_eq t (suc last))

some_task_is : (last : ℕ) (test : ℕ → Bool) → IsTrue (some_task last test) → (t : ℕ) × (0 < t) × (t ≤ last) × IsTrue (test t)
some_task_is zero test h = absurd (cc)
some_task_is (suc last) test h =
    ⊎_elim (λ (e : test (suc last) ≡ true). (suc last, omega arith, omega arith, e)) (λ (e : some_task last test ≡ true). let r = some_task_is last test e in (r.0, r.1, omega (arith, r.2), r.3)) (or_cases _ _ h)

each_task_at : (last : ℕ) (test : ℕ → Bool) → IsTrue (each_task last test) → (t : ℕ) → 0 < t → t ≤ last → IsTrue (test t)
each_task_at zero test h t p w = absurd (omega arith)
each_task_at (suc last) test h t p w =
    let parts = and_parts _ _ h in
    ⊎_elim (λ (e : t ≡ suc last). subst (λ n. IsTrue (test n)) (sym e) parts.0) (λ (ne : t ≡ suc last → ⊥). each_task_at last test parts.1 t p (omega (arith, ne))) (cases_eq t (suc last))

each_task_from : (last : ℕ) (test : ℕ → Bool) → ((t : ℕ) → 0 < t → t ≤ last → IsTrue (test t)) → IsTrue (each_task last test)
each_task_from zero test h = refl
each_task_from (suc last) test h = and_from _ _ (h (suc last) (omega arith) (omega arith)) (each_task_from last test (λ t p w. h t p (omega arith)))

pub some_live-from : {A : Type 0} (bounds : Bounds) (now : ℕ → Fate A) (test : ℕ → A → Bool) → Passes bounds now test → IsTrue (some_live bounds now test)
unfolding some_live
some_live-from bounds now test w =
    some_task_from bounds.tasks (λ t. on_live false (test t) (now t)) w.task w.positive w.within (subst (λ f. IsTrue (on_live false (test w.task) f)) (sym w.live) w.passed)

live_if : {A : Type 0} (bounds : Bounds) (now : ℕ → Fate A) (test : ℕ → A → Bool) (t : ℕ) → 0 < t → t ≤ bounds.tasks → (f : Fate A) → now t ≡ f → IsTrue (on_live false (test t) f) → Passes bounds now test
live_if bounds now test t p w Unused e h = absurd (cc)
live_if bounds now test t p w (Live x) e h = record { task = t; life = x; positive = p; within = w; live = e; passed = h }
live_if bounds now test t p w Dead e h = absurd (cc)

pub some_live-is : {A : Type 0} (bounds : Bounds) (now : ℕ → Fate A) (test : ℕ → A → Bool) → IsTrue (some_live bounds now test) → Passes bounds now test
unfolding some_live
some_live-is bounds now test h =
    let r = some_task_is bounds.tasks (λ t. on_live false (test t) (now t)) h in
    live_if bounds now test r.0 r.1 r.2 (now r.0) refl r.3

pub each_live-at : {A : Type 0} (bounds : Bounds) (now : ℕ → Fate A) (test : ℕ → A → Bool) → IsTrue (each_live bounds now test) → (t : ℕ) (x : A) → 0 < t → t ≤ bounds.tasks → now t ≡ Live x → IsTrue (test t x)
unfolding each_live
each_live-at bounds now test h t x p w live =
    subst (λ f. IsTrue (on_live true (test t) f)) live (each_task_at bounds.tasks (λ u. on_live true (test u) (now u)) h t p w)

if_live : {A : Type 0} (now : ℕ → Fate A) (test : ℕ → A → Bool) (t : ℕ) → ((x : A) → now t ≡ Live x → IsTrue (test t x)) → (f : Fate A) → now t ≡ f → IsTrue (on_live true (test t) f)
if_live now test t h Unused e = refl
if_live now test t h (Live x) e = h x e
if_live now test t h Dead e = refl

pub each_live-from : {A : Type 0} (bounds : Bounds) (now : ℕ → Fate A) (test : ℕ → A → Bool) → ((t : ℕ) (x : A) → 0 < t → t ≤ bounds.tasks → now t ≡ Live x → IsTrue (test t x)) → IsTrue (each_live bounds now test)
unfolding each_live
each_live-from bounds now test h =
    each_task_from bounds.tasks (λ t. on_live true (test t) (now t)) (λ t p w. if_live now test t (λ x e. h t x p w e) (now t) refl)

pub map_same : {A B : Type 0} (f g : A → B) (xs : List A) → All (λ x. f x ≡ g x) xs → map f xs ≡ map g xs
map_same f g [] h = refl
map_same f g (x ∷ xs) h = ap₂ (λ y ys. y ∷ ys) (All-head (λ x. f x ≡ g x) x xs h) (map_same f g xs (All-tail (λ x. f x ≡ g x) x xs h))

each_task_not : (last : ℕ) (test : ℕ → Bool) → each_task last test ≡ false → (t : ℕ) × (0 < t) × (t ≤ last) × (test t ≡ false)
each_task_not zero test h = absurd (cc)
each_task_not (suc last) test h =
    ⊎_elim (λ (e : test (suc last) ≡ false). (suc last, omega arith, omega arith, e)) (λ (e : each_task last test ≡ false). let r = each_task_not last test e in (r.0, r.1, omega (arith, r.2), r.3)) (and_cases _ _ h)

not_if : (bounds : Bounds) (now : Tasks) (test : ℕ → Life → Bool) (t : ℕ) → 0 < t → t ≤ bounds.tasks → (f : Fate Life) → now t ≡ f → on_live true (test t) f ≡ false → (x : Life) × (now t ≡ Live x) × (test t x ≡ false)
not_if bounds now test t p w Unused e h = absurd (cc)
not_if bounds now test t p w (Live x) e h = (x, e, h)
not_if bounds now test t p w Dead e h = absurd (cc)

-- where not each live task passes, one doesn't
pub each_live-not : (bounds : Bounds) (now : Tasks) (test : ℕ → Life → Bool) → each_live bounds now test ≡ false → (t : ℕ) × (x : Life) × (now t ≡ Live x) × (test t x ≡ false)
unfolding each_live
each_live-not bounds now test h =
    let r = each_task_not bounds.tasks (λ t. on_live true (test t) (now t)) h in
    let s = not_if bounds now test r.0 r.1 r.2 (now r.0) refl r.3 in
    (r.0, s.0, s.1, s.2)

-- ---- Through a map

on_live-map : {A B C : Type 0} (other : C) (f : A → B) (g : B → C) (fate : Fate A) → on_live other g (map_live f fate) ≡ on_live other (λ x. g (f x)) fate
on_live-map other f g Unused = refl
on_live-map other f g (Live x) = refl
on_live-map other f g Dead = refl

pub some_live-map : {A B : Type 0} (bounds : Bounds) (f : A → B) (now : ℕ → Fate A) (test : ℕ → B → Bool) → some_live bounds (λ t. map_live f (now t)) test ≡ some_live bounds now (λ t x. test t (f x))
unfolding some_live
some_live-map bounds f now test = ap (some_task bounds.tasks) (fun_ext (λ t. on_live-map false f (test t) (now t)))

pub each_live-map : {A B : Type 0} (bounds : Bounds) (f : A → B) (now : ℕ → Fate A) (test : ℕ → B → Bool) → each_live bounds (λ t. map_live f (now t)) test ≡ each_live bounds now (λ t x. test t (f x))
unfolding each_live
each_live-map bounds f now test = ap (each_task bounds.tasks) (fun_ext (λ t. on_live-map true f (test t) (now t)))

-- two tests that hold together are one
pub same_bool : (a b : Bool) → (a ≡ true → b ≡ true) → (b ≡ true → a ≡ true) → a ≡ b
same_bool true b h k = sym (h refl)
same_bool false true h k = k refl
same_bool false false h k = refl
