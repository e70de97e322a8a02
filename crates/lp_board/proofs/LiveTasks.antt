-- What is shown of the tasks that live, by the set of their numbers.
use Rattle.std.proofs.Common.{◌≡◌, ℕ, Bool, true, false, List, [], ◌∷◌, map, Option, None, Some, is_some, if◌then◌else◌, nat_lt, get_or, refl, ap, sym, ◌∙◌}
use Rattle.std.proofs.lemmas.Bool.{cond-true, cond-false}
use Rattle.std.specs.List.{filter, filter_map, cons_option, range_with_len}
use Rattle.lp_numbers.specs.Numbers.{Numbers, has}
use Rattle.lp_stack.specs.declared.number.Level.{Level}
use Rattle.lp_stack.specs.declared.number.TaskId.{TaskId}
use Rattle.lp_tasks.specs.Passing.{passing}
use Rattle.lp_board.specs.declared.shown.Shown.{Shown}
use Rattle.lp_board.specs.declared.shown.Shown.TheVariants.{Settled, Unpatched, Patched}
use Rattle.lp_board.specs.declared.sheet.Heading.{Heading}
use Rattle.lp_board.specs.inside.Levels.{AreLive}
use Rattle.lp_board.specs.Pages.{shown_by}
use Rattle.lp_board.specs.Words.{all_shown, if_live}

-- a task with what is shown of it
abbrev pub entry : Heading → List (Option Level) → ℕ → TaskId × Shown
entry heading levels t = (record { 0 = t }, shown_by heading (get_or levels t None))

lives : (t : ℕ) (in_transition above : Bool) → if_live t (if in_transition then (if above then Patched else Unpatched) else Settled) ≡ Some (record { 0 = t }, if in_transition then (if above then Patched else Unpatched) else Settled)
lives t false above = refl
lives t true true = refl
lives t true false = refl

-- who has a level is live
if_has : (heading : Heading) (t : ℕ) (level : Option Level) → if_live t (shown_by heading level) ≡ (if is_some level then Some (record { 0 = t }, shown_by heading level) else None)
if_has heading t None = refl
if_has heading t (Some level) = lives t heading.in_transition (nat_lt heading.lower.0 level.0)

one_more : {X : Type 0} (f : ℕ → X) (g : ℕ → Option X) (test : ℕ → Bool) (t : ℕ) (b : Bool) → test t ≡ b → g t ≡ (if b then Some (f t) else None) → (rest : List X) (ts : List ℕ) → rest ≡ map f (filter test ts) → cons_option (g t) rest ≡ map f (filter test (t ∷ ts))
one_more f g test t true e is rest ts so = ap (λ o. cons_option o rest) is ∙ ap (λ xs. f t ∷ xs) so ∙ sym (ap (map f) (cond-true (test t) (t ∷ filter test ts) (filter test ts) e))
one_more f g test t false e is rest ts so = ap (λ o. cons_option o rest) is ∙ so ∙ sym (ap (map f) (cond-false (test t) (t ∷ filter test ts) (filter test ts) e))

given_by : {X : Type 0} (f : ℕ → X) (g : ℕ → Option X) (test : ℕ → Bool) → ((t : ℕ) → g t ≡ (if test t then Some (f t) else None)) → (ts : List ℕ) → filter_map g ts ≡ map f (filter test ts)
given_by f g test is [] = refl
given_by f g test is (t ∷ ts) = one_more f g test t (test t) refl (is t) (filter_map g ts) ts (given_by f g test is ts)

-- those in the set of the live tasks are all that is shown
pub all_listed : (live : Numbers) (levels : List (Option Level)) (heading : Heading) → AreLive live levels → map (entry heading levels) (passing 0 65536 (has live)) ≡ all_shown (λ t. shown_by heading (get_or levels t None))
unfolding passing all_shown
all_listed live levels heading are =
    sym (given_by (entry heading levels) (λ t. if_live t (shown_by heading (get_or levels t None))) (has live) (λ t. if_has heading t (get_or levels t None) ∙ ap (λ b. if b then Some (entry heading levels t) else None) (sym (are t))) (range_with_len 0 65536))
