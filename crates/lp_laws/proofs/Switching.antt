-- What the replies to a leg's events name is whom its first-check schedule switches then.
use Rattle.std.proofs.Common.{◌≡◌, ◌≤◌, ℕ, zero, suc, Bool, true, false, List, [], ◌∷◌, length, filter, Option, Some, None, refl, sym, ap, ◌∙◌, subst, ⊎_elim, arith}
use mathlib.Core.Path.{fun_ext}
use Rattle.std.specs.List.{range_with_len}
use Rattle.std.proofs.lemmas.Bool.{cases_Bool, cond-false, eq-eqb, eqb-true, leb-true, false_from_ne_true}
use Rattle.lp_model.specs.Rules.{Rules}
use Rattle.lp_stack.specs.declared.number.TaskId.{TaskId}
use Rattle.lp_symbols.specs.declared.sym_id.SymId.{SymId}
use Rattle.lp_definitions.specs.declared.event.Event.{Event}
use Rattle.lp_definitions.specs.declared.event.Event.TheVariants.{Call, Enable, Disable, Reverse}
use Rattle.lp_definitions.specs.declared.refusal.Refusal.{Refusal}
use Rattle.lp_definitions.specs.Events.{is_control}
use Rattle.lp_definitions.specs.Tasks.{Bounds, Outlines, outlines, refusal}
use Rattle.lp_definitions.specs.Leg.{Leg, after, check, check_by, if_used, unless_refused}
use Rattle.lp_definitions.specs.Schedule.{has_come, allowed, first_check}
use Rattle.lp_definitions.specs.Run.{and_then, is_at, switched_at, switched, refused_by, done, unless_why, reply}
use Rattle.lp_laws.proofs.First.{first_check_is}
use Rattle.lp_laws.proofs.Prefix.{past_same}
use Rattle.lp_definitions.proofs.Quantifiers.{same_bool}
use Rattle.lp_laws.proofs.OneMore.{check_is, plain_refusal}
use Rattle.lp_laws.proofs.Waiting.{allowed-is, come_at, comes_now}
use Rattle.lp_definitions.specs.Headline.{switched_groups}

-- ---- Moments

at_is : (k : ℕ) (m : Option ℕ) → is_at k m ≡ true → m ≡ Some k
at_is k None e = absurd (cc)
at_is k (Some i) e = ap Some (eqb-true i k e)

at_from : (k : ℕ) (m : Option ℕ) → m ≡ Some k → is_at k m ≡ true
at_from k m e = ap (is_at k) e ∙ eq-eqb k k refl

come_at_zero : (m : Option ℕ) → has_come m zero ≡ true → m ≡ Some zero
come_at_zero None e = absurd (cc)
come_at_zero (Some i) e = ap Some (omega (arith, leb-true i zero e))

not_yet : (k : ℕ) → has_come (Some (suc k)) k ≡ false
not_yet k = false_from_ne_true _ (λ e. let le = leb-true (suc k) k e in absurd (omega arith))

-- moments that are one as far as k are both k or neither is
at_alike : (m n : Option ℕ) (k : ℕ) → ((j : ℕ) → j ≤ k → has_come m j ≡ has_come n j) → is_at k m ≡ true → is_at k n ≡ true
at_alike m n zero same e =
    at_from zero n (come_at_zero n (sym (same zero (omega arith)) ∙ (ap (λ o. has_come o zero) (at_is zero m e) ∙ come_at zero)))
at_alike m n (suc k) same e =
    let is = at_is (suc k) m e in
    at_from (suc k) n (comes_now n k (sym (same k (omega arith)) ∙ (ap (λ o. has_come o k) is ∙ not_yet k)) (sym (same (suc k) (omega arith)) ∙ (ap (λ o. has_come o (suc k)) is ∙ come_at (suc k))))

filter_none : (test : ℕ → Bool) (xs : List ℕ) → ((n : ℕ) → test n ≡ false) → filter test xs ≡ []
filter_none test [] h = refl
filter_none test (x ∷ xs) h = cond-false _ _ _ (h x) ∙ filter_none test xs h

module _ (model : Rules) where
  -- nobody switches at an opening
  pub none_at_opening : (leg : Leg) → switched_at leg (first_check model leg) zero ≡ []
  none_at_opening leg =
      filter_none (λ group. is_at zero (first_check model leg group)) (range_with_len 0 (suc leg.bounds.tasks)) (λ group.
      false_from_ne_true _ (λ e.
      let l = (first_check_is model leg).legal group zero (at_is zero (first_check model leg group) e) in
      absurd (omega (arith, l.1))))

  module _ (leg : Leg) (event : Event) where
    abbrev n : ℕ
    n = length leg.events

    abbrev longer : Leg
    longer = and_then leg event

    -- a further event changes nobody's moment so far
    pub past_switched : (k : ℕ) → k ≤ n → switched_at longer (first_check model longer) k ≡ switched_at leg (first_check model leg) k
    past_switched k le =
        ap (λ test. filter test (range_with_len 0 (suc leg.bounds.tasks))) (fun_ext (λ group.
        let new = first_check model longer group in
        let old = first_check model leg group in
        let same : (j : ℕ) → j ≤ k → has_come new j ≡ has_come old j = λ j less. past_same model leg event group j (omega arith) in
        same_bool (is_at k new) (is_at k old) (at_alike new old k same) (at_alike old new k (λ j less. sym (same j less)))))

    -- where an event is no check, nobody switches
    quiet : ((group : ℕ) → check model longer n group ≡ None) → switched_at longer (first_check model longer) (suc n) ≡ []
    quiet unchecked =
        filter_none (λ group. is_at (suc n) (first_check model longer group)) (range_with_len 0 (suc leg.bounds.tasks)) (λ group.
        false_from_ne_true _ (λ e.
        let l = (first_check_is model longer).legal group (suc n) (at_is (suc n) (first_check model longer group) e) in
        let same : l.0 ≡ n = omega (arith, l.1) in
        let a = allowed-is model longer (first_check model longer) n group (subst (λ i. IsAllowed i group) same l.3) in
        absurd (cc (a.1, unchecked group))))
      where
        IsAllowed : ℕ → ℕ → Type 0
        IsAllowed i group = allowed model longer (first_check model longer) i group ≡ true

    -- ---- What the reply names

    -- no control event is a check, nor is a call or an event that is refused
    control_no_check : (bounds : Bounds) (seen : Outlines) (group : ℕ) (why : Option Refusal) (e : Event) → is_control e ≡ true → check_by bounds seen (unless_refused why e) group ≡ None
    control_no_check bounds seen group (Some r) e c = refl
    control_no_check bounds seen group None Enable c = refl
    control_no_check bounds seen group None Disable c = refl
    control_no_check bounds seen group None Reverse c = refl
    control_no_check bounds seen group None _ c = absurd (cc)

    call_no_check : (bounds : Bounds) (seen : Outlines) (group : ℕ) (why : Option Refusal) (t : TaskId) (f : SymId) → check_by bounds seen (unless_refused why (Call t f)) group ≡ None
    call_no_check bounds seen group (Some r) t f = refl
    call_no_check bounds seen group None t f = refl

    -- the refusal of the event, as for a task's event or a scan
    abbrev plain : Option Refusal
    plain = refusal leg.bounds (after model leg n) event

    unchecked : ((group : ℕ) → check_by leg.bounds (outlines (after model longer (suc n))) (unless_refused plain event) group ≡ None) → (group : ℕ) → check model longer n group ≡ None
    unchecked h group = check_is model leg event group ∙ ap (if_used model.uses) (h group)

    pub control_switches_none : is_control event ≡ true → switched_at longer (first_check model longer) (suc n) ≡ []
    control_switches_none c = quiet (unchecked (λ group. control_no_check leg.bounds (outlines (after model longer (suc n))) group plain event c))

    refused_switches_none : (why : Refusal) → refused_by model leg event ≡ Some why → switched_at longer (first_check model longer) (suc n) ≡ []
    refused_switches_none why e =
        ⊎_elim
        (λ (c : is_control event ≡ true). control_switches_none c)
        (λ (c : is_control event ≡ false).
        let is : plain ≡ Some why = sym (plain_refusal model leg event c) ∙ e in
        quiet (unchecked (λ group. ap (λ r. check_by leg.bounds (outlines (after model longer (suc n))) (unless_refused r event) group) is)))
        (cases_Bool (is_control event))

  -- the groups that a reply names are those that switch at its event
  switched_names : (groups : List ℕ) → switched_groups (switched groups) ≡ groups
  switched_names [] = refl
  switched_names (group ∷ groups) = refl

  done_names : (leg : Leg) (event : Event) → switched_groups (done model leg event) ≡ switched_at (and_then leg event) (first_check model (and_then leg event)) (suc (length leg.events))
  done_names leg (Call t f) = sym (quiet leg (Call t f) (unchecked leg (Call t f) (λ group. call_no_check leg (Call t f) leg.bounds _ group _ t f)))
  done_names leg event = switched_names (switched_at (and_then leg event) (first_check model (and_then leg event)) (suc (length leg.events)))

  pub reply_names : (leg : Leg) (event : Event) → switched_groups (reply model leg event).what ≡ switched_at (and_then leg event) (first_check model (and_then leg event)) (suc (length leg.events))
  unfolding reply
  reply_names leg event = by (refused_by model leg event) refl
    where
      by : (why : Option Refusal) → refused_by model leg event ≡ why → switched_groups (unless_why model why (done model leg event)) ≡ switched_at (and_then leg event) (first_check model (and_then leg event)) (suc (length leg.events))
      by None e = done_names leg event
      by (Some why) e = sym (refused_switches_none leg event why e)
