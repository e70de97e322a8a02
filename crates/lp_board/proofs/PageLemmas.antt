-- What is shown by a page, and a page after a change.
use Rattle.std.proofs.Common.{◌≡◌, ℕ, zero, suc, ◌<◌, ◌+◌, Bool, List, [], ◌∷◌, ◌++◌, length, fold, get_or, set, Option, Some, None, nat_eq, if◌then◌else◌, refl, sym, ap, subst, ◌∙◌, ⊎_elim, arith}
use Rattle.std.proofs.lemmas.Bool.{cases_eq, cond-true, cond-false}
use Rattle.std.proofs.lemmas.Bool.Decides.{nat_tests}
use Rattle.std.proofs.lemmas.List.{length-set, get_or-set_same, get_or-set_other, append-nil}
use Rattle.std.proofs.lemmas.List.Elements.{filter_map-append}
use Rattle.std.specs.List.{filter_map, cons_option, range_with_len}
use Rattle.lp_stack.specs.declared.number.Level.{Level}
use Rattle.lp_stack.specs.declared.number.TaskId.{TaskId}
use Rattle.lp_definitions.specs.declared.event.Event.{Event}
use Rattle.lp_definitions.specs.Tasks.{Fate, Unused, Live, Dead}
use Rattle.lp_definitions.specs.Leg.{LegTask, State}
use Rattle.lp_board.specs.declared.shown.Shown.{Shown}
use Rattle.lp_board.specs.declared.sheet.Heading.{Heading}
use Rattle.lp_board.specs.declared.sheet.Page.{Page}
use Rattle.lp_board.specs.declared.sheet.Update.{Update}
use Rattle.lp_board.specs.declared.sheet.Change.{Change}
use Rattle.lp_board.specs.Words.{shown_of, shown_word, is_in_transition, lower_level, if_live, all_shown}
use Rattle.lp_board.specs.Names.{Name, state_after}
use Rattle.lp_board.specs.Pages.{level_of, IsPageOf, IsPage, shown_by, shown_at, written, level_by, Leads, page_after}

-- ---- What is shown

shown-fate : (heading : Heading) (in_transition : Bool) (lower : ℕ) (fate : Fate LegTask) → heading.in_transition ≡ in_transition → heading.lower.0 ≡ lower → shown_by heading (level_of fate) ≡ shown_of in_transition lower fate
shown-fate heading in_transition lower Unused m l = refl
shown-fate heading in_transition lower (Live x) m l = rw (m, l) refl
shown-fate heading in_transition lower Dead m l = refl

-- a page shows of each task what is to be shown of it
pub shown-page : (page : Page) (s : State) → IsPageOf page s → (t : ℕ) → t < 65536 → shown_at page t ≡ shown_word s t
shown-page page s is t h = ap (shown_by page.heading) (is.levels t h) ∙ shown-fate page.heading (is_in_transition s) (lower_level s) (s.tasks t) is.heading.in_transition is.heading.lower

same-below : {A : Type 0} (f g : ℕ → Option A) (n a : ℕ) → ((t : ℕ) → t < a + n → f t ≡ g t) → filter_map f (range_with_len a n) ≡ filter_map g (range_with_len a n)
same-below f g zero a same = refl
same-below f g (suc n) a same =
    ap (λ o. cons_option o (filter_map f (range_with_len (a + 1) n))) (same a (omega arith))
    ∙ ap (cons_option (g a)) (same-below f g n (a + 1) (λ t h. same t (omega (arith, h))))

-- a page shows the live tasks as they are to be shown
pub all_shown-page : (page : Page) (s : State) → IsPageOf page s → all_shown (shown_at page) ≡ all_shown (shown_word s)
unfolding all_shown
all_shown-page page s is =
    let same : filter_map (λ t. if_live t (shown_at page t)) (range_with_len 0 65536) ≡ filter_map (λ t. if_live t (shown_word s t)) (range_with_len 0 65536) =
    same-below (λ t. if_live t (shown_at page t)) (λ t. if_live t (shown_word s t)) 65536 0 (λ t h. ap (if_live t) (shown-page page s is t (omega (arith, h)))) in
    same

last : (a n j : ℕ) → a + n ≡ j → range_with_len a (suc n) ≡ range_with_len a n ++ j ∷ []
last a zero j e = ap (λ k. k ∷ []) (omega (arith, e))
last a (suc n) j e = ap (λ ks. a ∷ ks) (last (a + 1) n j (omega (arith, e)))

-- one number more
pub list-more : {A : Type 0} (f : ℕ → Option A) (n : ℕ) → filter_map f (range_with_len 0 (n + 1)) ≡ filter_map f (range_with_len 0 n) ++ cons_option (f n) []
list-more f n =
    let on : n + 1 ≡ suc n = omega arith in
    ap (λ k. filter_map f (range_with_len 0 k)) on ∙ ap (filter_map f) (last 0 n n (omega arith)) ∙ filter_map-append f (range_with_len 0 n) (n ∷ [])

pub list-given : {A : Type 0} (f : ℕ → Option A) (n : ℕ) (xs : List A) (x : A) → f n ≡ Some x → xs ≡ filter_map f (range_with_len 0 n) → xs ++ x ∷ [] ≡ filter_map f (range_with_len 0 (n + 1))
list-given f n xs x given so = ap (λ ys. ys ++ x ∷ []) so ∙ ap (λ o. filter_map f (range_with_len 0 n) ++ cons_option o []) (sym given) ∙ sym (list-more f n)

pub list-none : {A : Type 0} (f : ℕ → Option A) (n : ℕ) (xs : List A) → f n ≡ None → xs ≡ filter_map f (range_with_len 0 n) → xs ≡ filter_map f (range_with_len 0 (n + 1))
list-none f n xs none so = so ∙ sym (append-nil (filter_map f (range_with_len 0 n))) ∙ ap (λ o. filter_map f (range_with_len 0 n) ++ cons_option o []) (sym none) ∙ sym (list-more f n)

-- all of them, once each number was looked at
pub all_listed : (page : Page) (xs : List (TaskId × Shown)) (n : ℕ) → n ≡ 65536 → xs ≡ filter_map (λ t. if_live t (shown_at page t)) (range_with_len 0 n) → xs ≡ all_shown (shown_at page)
unfolding all_shown
all_listed page xs n end so = so ∙ ap (λ k. filter_map (λ t. if_live t (shown_at page t)) (range_with_len 0 k)) end

-- ---- A change

pub written-length : (levels : List (Option Level)) (ms : List (TaskId × Option Level)) → length (written levels ms) ≡ length levels
written-length levels [] = refl
written-length levels (m ∷ ms) = written-length (set levels m.0.0 m.1) ms ∙ length-set levels m.0.0 m.1

one-written : (levels : List (Option Level)) (i t : ℕ) (v : Option Level) → t < length levels → get_or (set levels i v) t None ≡ (if nat_eq i t then v else get_or levels t None)
one-written levels i t v h =
    ⊎_elim
    (λ (e : i ≡ t). subst (λ j. get_or (set levels i v) j None ≡ (if nat_eq i j then v else get_or levels j None)) e (get_or-set_same levels i v None (omega (arith, h, e)) ∙ sym (cond-true (nat_eq i i) v (get_or levels i None) (grind (arith, nat_tests)))))
    (λ (ne : i ≡ t → ⊥). get_or-set_other levels i t v None (λ e. ne (sym e)) ∙ sym (cond-false (nat_eq i t) v (get_or levels t None) (grind (arith, nat_tests, ne))))
    (cases_eq i t)

pub written-at : (levels : List (Option Level)) (ms : List (TaskId × Option Level)) (t : ℕ) → t < length levels → get_or (written levels ms) t None ≡ level_by ms t (get_or levels t None)
written-at levels [] t h = refl
written-at levels (m ∷ ms) t h =
    written-at (set levels m.0.0 m.1) ms t (omega (arith, h, length-set levels m.0.0 m.1)) ∙ ap (level_by ms t) (one-written levels m.0.0 t m.1 h)

-- the page of the state after one event more
pub page-after : (name : Name) (page : Page) (events more : List Event) (update : Update) → IsPage name page → page.events ≡ events → Leads (state_after name events) update (state_after name more)
    → IsPage name (record { levels = written page.levels update.levels.items; heading = update.heading; events = more })
page-after name page events more update is same leads =
    let was : IsPageOf page (state_after name events) = subst (λ es. IsPageOf page (state_after name es)) same is in
    record {
      wide = written-length page.levels update.levels.items ∙ was.wide;
      levels = λ t h. written-at page.levels update.levels.items t (omega (arith, h, was.wide)) ∙ ap (level_by update.levels.items t) (was.levels t h) ∙ leads.levels t h;
      heading = leads.heading;
    }

module _ {N : Type 0} where
  -- one change is pending
  pub fold-one : (s now : Page) (pending : List (Change N)) (c : Change N) → now ≡ s → pending ≡ c ∷ [] → fold page_after now pending ≡ page_after s c
  fold-one s now pending c same one = rw (same, one) refl

  -- what is shown once it is published
  pub shows-after : (name : Name) (events more : List Event) (s now : Page) (pending : List (Change N)) (c : Change N) → IsPage name s → s.events ≡ events
      → Leads (state_after name events) c.update (state_after name more) → c.prefix ≡ more → now ≡ s → pending ≡ c ∷ []
      → IsPage name (fold page_after now pending)
  shows-after name events more s now pending c is are leads prefix same one =
      let p : IsPage name (page_after s c) = subst (λ es. IsPage name (record { levels = written s.levels c.update.levels.items; heading = c.update.heading; events = es })) (sym prefix) (page-after name s events more c.update is are leads) in
      subst (IsPage name) (sym (fold-one s now pending c same one)) p
