-- Who waits once a control event has opened a transition. Before it each live task is on the target, or, in a transition, on the level that
-- it came from.
use Rattle.std.proofs.Common.{◌≡◌, ◌≢◌, ◌<◌, ◌≤◌, ℕ, zero, suc, pred, Bool, true, false, not, [], ◌∷◌, length, Option, Some, None, is_some, IsTrue, ◌↔◌, nat_eq, refl, sym, ap, ◌∙◌, subst, arith}
use Rattle.std.proofs.lemmas.Bool.{false≢true, eqb-true, ne_eqb, not-false}
use Rattle.lp_numbers.specs.Numbers.{Numbers, has}
use Rattle.lp_model.specs.Rules.{Rules, IsLawful}
use Rattle.lp_definitions.specs.declared.event.Event.{Event}
use Rattle.lp_definitions.specs.declared.event.Event.TheVariants.{Enable, Disable, Reverse}
use Rattle.lp_definitions.specs.declared.reply.What.TheVariants.{Done}
use Rattle.lp_definitions.specs.declared.refusal.Refusal.TheVariants.{InTransition, NotInTransition, AlreadyThere}
use Rattle.lp_definitions.specs.Events.{is_control}
use Rattle.lp_definitions.specs.Leg.{LegTask}
use Rattle.lp_definitions.specs.Run.{new_target}
use Rattle.lp_definitions.specs.Tasks.{fits, first_of}
use Rattle.lp_machine.specs.Machine.{complete_in, refusal_of, answer}
use Rattle.lp_machine.specs.Table.{Engine, slot, state_in}
use Rattle.lp_tasks.specs.inside.Table.{is_off}
use Rattle.lp_transition.specs.inside.Invariant.{IsBetween, IsEngine}
use Rattle.lp_transition.specs.inside.Turning.{waits_turned}
use Rattle.lp_transition.proofs.Effects.{HasTaken}
use Rattle.lp_transition.proofs.Turning.{on_level, turned_to, takes_turn, answer-turned}

-- ---- What an accepted control event finds

-- no transition is under way, and the level isn't the last one
free_to_open : (complete there : Bool) → first_of (fits (not complete) InTransition ∷ fits there AlreadyThere ∷ []) ≡ None → (complete ≡ true) × (there ≡ false)
free_to_open true false e = (refl, refl)
free_to_open true true e = absurd (cc)
free_to_open false there e = absurd (cc)

-- a transition is under way
free_to_turn : (complete : Bool) → first_of (fits complete NotInTransition ∷ []) ≡ None → complete ≡ false
free_to_turn false e = refl
free_to_turn true e = absurd (cc)

other_level : (target : ℕ) → nat_eq target 0 ≡ false → pred target ≢ target
other_level zero some same = absurd (cc)
other_level (suc target) some same = absurd (omega arith)

-- ---- One task

-- whoever is on a level is off any other
away : (x : LegTask) (level target : ℕ) → is_off target (Some x) ≡ false → level ≢ target → true ≡ is_off level (Some x)
away x level target on other =
    let here : x.level ≡ target = eqb-true x.level target (not-false (nat_eq x.level target) on) in
    sym (ap not (ne_eqb x.level level (λ same. other (sym same ∙ here))))

module _ (e : Engine) (waiting : Numbers) (kept : IsEngine e waiting) where
  -- where nobody waits, the live tasks wait against another level
  all_turn : (event : Event) (level : ℕ) (t : ℕ) → complete_in (state_in e) ≡ true → level ≢ e.target → (o : Option LegTask) → slot e.table t ≡ o → is_some o ≡ is_off level o
  all_turn event level t complete other None there = refl
  all_turn event level t complete other (Some x) there =
      away x level e.target (sym (ap (is_off e.target) there) ∙ (on_level e waiting kept e.target).1 complete t) other

  -- in a transition the two levels differ
  levels_differ : complete_in (state_in e) ≡ false → e.from ≢ e.target
  levels_differ busy same = false≢true (sym busy ∙ (on_level e waiting kept e.target).0 (λ t. by t (is_off e.target (slot e.table t)) refl))
    where
      by : (t : ℕ) (b : Bool) → is_off e.target (slot e.table t) ≡ b → is_off e.target (slot e.table t) ≡ false
      by t false off = off
      by t true off = subst (λ level. is_off level (slot e.table t) ≡ false) same (kept.between t off)

  -- and those wait against the level that they came from that didn't wait
  others_turn : complete_in (state_in e) ≡ false → (t : ℕ) (o : Option LegTask) → slot e.table t ≡ o → (b : Bool) → is_off e.target o ≡ b → waits_turned Reverse (is_some o) b ≡ is_off e.from o
  others_turn busy t None there b off = sym off
  others_turn busy t (Some x) there true off = sym (subst (λ o. is_off e.from o ≡ false) there (kept.between t (ap (is_off e.target) there ∙ off)))
  others_turn busy t (Some x) there false off = away x e.from e.target off (levels_differ busy)

  -- and whoever is off the level that they came from is on the one where they go
  still_between : (t : ℕ) (b : Bool) → is_off e.target (slot e.table t) ≡ b → is_off e.from (slot e.table t) ≡ true → is_off e.target (slot e.table t) ≡ false
  still_between t false off away_from = off
  still_between t true off away_from = absurd (false≢true (sym (kept.between t off) ∙ away_from))

  module _ (model : Rules) where
    -- each live task is on one of the two levels of the transition that an accepted control event opens
    pub between_turned : (event : Event) → refusal_of model (state_in e) event ≡ None → is_control event ≡ true → (t : ℕ) → IsBetween e.target (new_target (state_in e) event) (slot e.table t)
    unfolding refusal_of
    between_turned Enable accepted control t =
        let open_is = free_to_open (complete_in (state_in e)) (nat_eq e.target (length e.patches)) accepted in
        λ off. (on_level e waiting kept e.target).1 open_is.0 t
    between_turned Disable accepted control t =
        let open_is = free_to_open (complete_in (state_in e)) (nat_eq e.target 0) accepted in
        λ off. (on_level e waiting kept e.target).1 open_is.0 t
    between_turned Reverse accepted control t = still_between t (is_off e.target (slot e.table t)) refl
    between_turned _ accepted control t = absurd (cc)

    turned_here : (event : Event) → refusal_of model (state_in e) event ≡ None → is_control event ≡ true → (t : ℕ) → waits_turned event (is_some (slot e.table t)) (has waiting t) ≡ is_off (new_target (state_in e) event) (slot e.table t)
    unfolding refusal_of
    turned_here Enable accepted control t =
        let open_is = free_to_open (complete_in (state_in e)) (nat_eq e.target (length e.patches)) accepted in
        all_turn Enable (suc e.target) t open_is.0 (λ same. absurd (omega arith)) (slot e.table t) refl
    turned_here Disable accepted control t =
        let open_is = free_to_open (complete_in (state_in e)) (nat_eq e.target 0) accepted in
        all_turn Disable (pred e.target) t open_is.0 (other_level e.target open_is.1) (slot e.table t) refl
    turned_here Reverse accepted control t =
        others_turn (free_to_turn (complete_in (state_in e)) accepted) t (slot e.table t) refl (has waiting t) (sym (kept.waits t))
    turned_here _ accepted control t = absurd (cc)

    -- who waits once an accepted control event has opened a transition, by the sets that code has
    pub waits_turned-is : (event : Event) (level : ℕ) (live : Numbers) → ((t : ℕ) → has live t ≡ is_some (slot e.table t)) → refusal_of model (state_in e) event ≡ None → is_control event ≡ true → level ≡ new_target (state_in e) event
        → (t : ℕ) → waits_turned event (has live t) (has waiting t) ≡ is_off level (slot e.table t)
    waits_turned-is event level live lives accepted control at t =
        ap (λ b. waits_turned event b (has waiting t)) (lives t) ∙ turned_here event accepted control t ∙ ap (λ l. is_off l (slot e.table t)) (sym at)

    -- nobody waits then where nobody turns
    pub nobody_turns-is : (event : Event) (live : Numbers) (none : Bool) → ((t : ℕ) → has live t ≡ is_some (slot e.table t)) → refusal_of model (state_in e) event ≡ None → is_control event ≡ true
        → IsTrue none ↔ ((t : ℕ) → waits_turned event (has live t) (has waiting t) ≡ false) → IsTrue none ↔ ((t : ℕ) → is_off (new_target (state_in e) event) (slot e.table t) ≡ false)
    nobody_turns-is event live none lives accepted control tells =
        let same = waits_turned-is event (new_target (state_in e) event) live lives accepted control refl in
        (λ yes t. sym (same t) ∙ tells.0 yes t, λ all. tells.1 (λ t. same t ∙ all t))

module _ (model : Rules) where
  -- the engine after an accepted control event, by the sets that code has
  pub takes_turned : IsLawful model → (e old : Engine) (waiting now live : Numbers) (event : Event) (level : ℕ) → e ≡ old → IsEngine e waiting → ((t : ℕ) → has live t ≡ is_some (slot e.table t)) → length now ≡ 65536 → ((t : ℕ) → has now t ≡ waits_turned event (has live t) (has waiting t))
      → old.number < 1000000 → refusal_of model (state_in old) event ≡ None → is_control event ≡ true → level ≡ new_target (state_in old) event → level ≤ length e.patches → HasTaken model old event (turned_to level e) now
  takes_turned lawful e old waiting now live event level was kept lives wide members room accepted control at fits =
      let open_to = subst (λ o. refusal_of model (state_in o) event ≡ None) (sym was) accepted in
      let goes_to = subst (λ o. level ≡ new_target (state_in o) event) (sym was) at in
      takes_turn model lawful e old waiting now event level was kept wide (λ t. members t ∙ waits_turned-is e waiting kept model event level live lives open_to control goes_to t) (λ t. subst (λ l. IsBetween e.target l (slot e.table t)) (sym goes_to) (between_turned e waiting kept model event open_to control t)) room accepted control at fits

  -- and the answer to it
  pub answer_by_sets : (e old : Engine) (waiting live : Numbers) (event : Event) (none : Bool) → e ≡ old → IsEngine e waiting → ((t : ℕ) → has live t ≡ is_some (slot e.table t)) → refusal_of model (state_in old) event ≡ None → is_control event ≡ true
      → IsTrue none ↔ ((t : ℕ) → waits_turned event (has live t) (has waiting t) ≡ false) → record { what = Done; completed = none } ≡ answer model (state_in old) event
  answer_by_sets e old waiting live event none was kept lives accepted control tells =
      let open_to = subst (λ o. refusal_of model (state_in o) event ≡ None) (sym was) accepted in
      let level = new_target (state_in e) event in
      answer-turned model e old waiting event level none was kept accepted control (ap (λ o. new_target (state_in o) event) was) (nobody_turns-is e waiting kept model event live none lives open_to control tells)
