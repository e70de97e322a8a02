-- When an event completes a transition, and which groups it reports.
use Rattle.std.proofs.Common.{◌≡◌, ◌≢◌, ◌<◌, ℕ, Bool, true, false, not, ◌&&◌, length, set, None, IsTrue, refl, sym, ap, ◌∙◌, subst, ⊎_elim, ◌↔◌, arith}
use Rattle.std.proofs.lemmas.Bool.{cases_eq, cond-false}
use Rattle.std.proofs.lemmas.List.{get_or-set_same, get_or-set_other}
use Rattle.lp_numbers.specs.Numbers.{Numbers, has, IsEmpty}
use Rattle.lp_model.specs.Rules.{Rules}
use Rattle.lp_definitions.specs.declared.event.Event.{Event}
use Rattle.lp_definitions.specs.declared.reply.Reply.{Reply}
use Rattle.lp_definitions.specs.Events.{is_control}
use Rattle.lp_definitions.specs.Leg.{State}
use Rattle.lp_machine.specs.Machine.{complete_in, refusal_of, with_switches, next, told, answer}
use Rattle.lp_machine.specs.Table.{Engine, state_in}
use Rattle.lp_transition.specs.inside.Invariant.{IsEngine}
use Rattle.lp_machine.proofs.EngineLemmas.{next-accepted, answer-accepted}
use Rattle.lp_tasks.proofs.TableLemmas.{slot-zero}
use Rattle.lp_tasks.proofs.MemberLemmas.{on_target}

-- nobody waits exactly where the transition is complete
pub complete_is_empty : (e : Engine) (waiting : Numbers) → IsEngine e waiting → IsEmpty waiting ↔ IsTrue (complete_in (state_in e))
complete_is_empty e waiting kept = on_target e.table e.patches kept.wide (slot-zero e kept.sound) waiting e.target kept.waits

module _ (model : Rules) where
  -- the answer to an accepted event that is no control event
  pub answer-taken : (e new : Engine) (event : Event) → refusal_of model (state_in e) event ≡ None → is_control event ≡ false → state_in new ≡ next model (state_in e) event
      → answer model (state_in e) event ≡ record { what = told model (state_in e) event; completed = complete_in (state_in new) && not (complete_in (state_in e)) }
  answer-taken e new event accepted plain is =
      let s = state_in e in
      let there : with_switches model s event ≡ state_in new = sym (next-accepted model s event accepted plain) ∙ sym is in
      answer-accepted model s event accepted ∙ cond-false _ _ _ plain
      ∙ ap {A = State} {B = Reply} (λ now. record { what = told model s event; completed = complete_in now && not (complete_in s) }) there

-- ---- Whether it completes

empty_completes : (e : Engine) (waiting : Numbers) → IsEngine e waiting → IsEmpty waiting → complete_in (state_in e) ≡ true
empty_completes e waiting kept empty = (complete_is_empty e waiting kept).0 empty

-- not, where it was complete already if it is complete afterwards
pub not-completed : (e new : Engine) (waiting now : Numbers) → IsEngine e waiting → IsEngine new now → (IsEmpty now → IsEmpty waiting) → false ≡ (complete_in (state_in new) && not (complete_in (state_in e)))
not-completed e new waiting now kept kept' back = by (complete_in (state_in new)) refl
  where
    by : (b : Bool) → complete_in (state_in new) ≡ b → false ≡ (b && not (complete_in (state_in e)))
    by false e' = refl
    by true e' = ap not (sym (empty_completes e waiting kept (back ((complete_is_empty new now kept').1 e'))))

-- where a task leaves, the others are what is left to wait
pub completed_by : (e : Engine) (waiting : Numbers) (t : ℕ) (last after : Bool) → IsEngine e waiting → IsTrue after ↔ ((u : ℕ) → u ≢ t → has waiting u ≡ false)
    → IsTrue last ↔ ((has waiting t ≡ true) × ((u : ℕ) → u ≢ t → has waiting u ≡ false)) → last ≡ (after && not (complete_in (state_in e)))
completed_by e waiting t last after kept others lone = by after refl (complete_in (state_in e)) refl
  where
    emptied_all : ((u : ℕ) → u ≢ t → has waiting u ≡ false) → has waiting t ≡ false → IsEmpty waiting
    emptied_all alone none u = ⊎_elim (λ (same : u ≡ t). subst (λ v. has waiting v ≡ false) (sym same) none) (λ (ne : u ≡ t → ⊥). alone u ne) (cases_eq u t)

    by : (b : Bool) → after ≡ b → (a : Bool) → complete_in (state_in e) ≡ a → last ≡ (b && not a)
    by true e' true e'' = never last refl
      where
        never : (l : Bool) → last ≡ l → last ≡ false
        never false h = h
        never true h =
            let waits = (lone.0 h).0 in
            let none = (complete_is_empty e waiting kept).1 e'' t in
            absurd (cc)
    by true e' false e'' =
        let alone = others.0 e' in
        lone.1 (sure (has waiting t) refl alone, alone)
      where
        sure : (w : Bool) → has waiting t ≡ w → ((u : ℕ) → u ≢ t → has waiting u ≡ false) → has waiting t ≡ true
        sure true h alone = h
        sure false h alone = let quiet = empty_completes e waiting kept (emptied_all alone h) in absurd (cc)
    by false e' a e'' = never last refl
      where
        never : (l : Bool) → last ≡ l → last ≡ false
        never false h = h
        never true h = let quiet = others.1 (lone.0 h).1 in absurd (cc)

-- so where the last task that waits switches
pub completed : (e new : Engine) (waiting now : Numbers) (t : ℕ) (last : Bool) → IsEngine e waiting → IsEngine new now → t < 65536 → now ≡ set waiting t false
    → IsTrue last ↔ ((has waiting t ≡ true) × ((u : ℕ) → u ≢ t → has waiting u ≡ false)) → last ≡ (complete_in (state_in new) && not (complete_in (state_in e)))
completed e new waiting now t last kept kept' small removed lone =
    completed_by e waiting t last (complete_in (state_in new)) kept
    ((λ all_on. others ((complete_is_empty new now kept').1 all_on)), (λ alone. (complete_is_empty new now kept').0 (emptied alone)))
    lone
  where
    others : IsEmpty now → (u : ℕ) → u ≢ t → has waiting u ≡ false
    others empty u ne = sym (get_or-set_other waiting t u false false ne) ∙ sym (ap (λ n. has n u) removed) ∙ empty u

    emptied : ((u : ℕ) → u ≢ t → has waiting u ≡ false) → IsEmpty now
    emptied alone u =
        ap (λ n. has n u) removed
        ∙ ⊎_elim
        (λ (same : u ≡ t). let within : t < length waiting = omega (arith, kept.waiting_wide, small) in subst (λ v. has (set waiting t false) v ≡ false) (sym same) (get_or-set_same waiting t false false within))
        (λ (ne : u ≡ t → ⊥). get_or-set_other waiting t u false false ne ∙ alone u ne)
        (cases_eq u t)
