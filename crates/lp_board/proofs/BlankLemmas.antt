-- A board that shows the state of an engine.
use Rattle.std.proofs.Common.{◌≡◌, ℕ, ◌+◌, List, [], ◌∷◌, ◌++◌, length, map, get_or, not, min, Option, None, sym, ap, subst, ◌∙◌, arith}
use Rattle.std.proofs.lemmas.List.FromFn.{map-range_with_len_more, length-map-range_with_len, get_or-map-range_with_len}
use Rattle.std.specs.List.{range_with_len}
use Rattle.lp_stack.specs.declared.number.Level.{Level}
use Rattle.lp_definitions.specs.declared.event.Event.{Event}
use Rattle.lp_definitions.specs.Leg.{State}
use Rattle.lp_machine.specs.Machine.{complete_in}
use Rattle.lp_machine.specs.Steps.{StandsIn}
use Rattle.lp_machine.specs.Table.{Engine, leg_tasks, state_in}
use Rattle.lp_board.specs.declared.sheet.Heading.{Heading}
use Rattle.lp_board.specs.declared.sheet.Page.{Page}
use Rattle.lp_board.specs.inside.Starts.{levels_of}
use Rattle.lp_board.specs.Names.{Name, run_of, state_after}
use Rattle.lp_board.specs.Pages.{level_of, IsPageOf}

pub map-more : {A : Type 0} (f : ℕ → A) (n : ℕ) (xs : List A) (x : A) → x ≡ f n → xs ≡ map f (range_with_len 0 n) → xs ++ x ∷ [] ≡ map f (range_with_len 0 (n + 1))
map-more f n xs x is so = ap (λ ys. ys ++ x ∷ []) so ∙ ap (λ y. map f (range_with_len 0 n) ++ y ∷ []) is ∙ sym (map-range_with_len_more f 0 n n (omega arith))

-- the level of each number, once each was looked at
pub all_levels : (e : Engine) (xs : List (Option Level)) (n : ℕ) → n ≡ 65536 → xs ≡ map (λ t. level_of (leg_tasks e.table t)) (range_with_len 0 n) → xs ≡ levels_of e
unfolding levels_of
all_levels e xs n end so = so ∙ ap (λ k. map (λ t. level_of (leg_tasks e.table t)) (range_with_len 0 k)) end

pub levels_wide : (e : Engine) (xs : List (Option Level)) → xs ≡ levels_of e → length xs ≡ 65536
unfolding levels_of
levels_wide e xs is = ap length is ∙ length-map-range_with_len (λ t. level_of (leg_tasks e.table t)) 0 65536

-- such levels are a page of the engine's state
pub page-of : (e : Engine) (levels : List (Option Level)) (heading : Heading) (events : List Event) → levels ≡ levels_of e → heading.in_transition ≡ not (complete_in (state_in e)) → heading.lower.0 ≡ min e.from e.target
    → IsPageOf (record { levels = levels; heading = heading; events = events }) (state_in e)
unfolding levels_of
page-of e levels heading events is in_transition lower =
    let f = λ (t : ℕ). level_of (leg_tasks e.table t) in
    record {
      wide = ap length is ∙ length-map-range_with_len f 0 65536;
      levels = λ t h. ap (λ ls. get_or ls t None) is ∙ get_or-map-range_with_len f 0 65536 t t None h (omega arith);
      heading = record { in_transition = in_transition; lower = lower };
    }

-- where a run stands is the state after its events
pub stands-after : (name : Name) (events : List Event) (s : State) → StandsIn name.model (run_of name events) s → s ≡ state_after name events
unfolding state_after
stands-after name events s stands = stands.there

-- a page of the start, with no event
pub start-page : (name : Name) (e : Engine) (first : Page) (events : List Event) → state_in e ≡ state_after name [] → IsPageOf first (state_in e) → events ≡ []
    → IsPageOf (record { levels = first.levels; heading = first.heading; events = events }) (state_after name events)
start-page name e first events here is none =
    subst (λ (s : State). IsPageOf (record { levels = first.levels; heading = first.heading; events = events }) s) (here ∙ sym (ap (state_after name) none)) (record { wide = is.wide; levels = is.levels; heading = is.heading })
