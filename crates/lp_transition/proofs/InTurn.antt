-- One turn of the loop that asks candidates.
use Rattle.std.proofs.Common.{◌≡◌, ℕ, ◌+◌, ◌<◌, Bool, true, false, not, ◌&&◌, List, [], ◌∷◌, ◌++◌, Option, Some, None, if◌then◌else◌, refl, sym, ap, subst, ◌∙◌, arith}
use Rattle.std.proofs.lemmas.Bool.{cond-true, and_from, false_from_ne_true}
use Rattle.lp_numbers.specs.Numbers.{Numbers, has, IsEmpty}
use Rattle.lp_numbers.specs.Ascending.{members_from}
use Rattle.lp_model.specs.Rules.{Rules}
use Rattle.lp_model.specs.declared.check.CheckKind.{CheckKind}
use Rattle.lp_model.specs.declared.verdict.Verdict.{Verdict}
use Rattle.lp_definitions.specs.Leg.{LegTask}
use Rattle.lp_machine.specs.Machine.{view_of}
use Rattle.lp_transition.specs.Scan.{verdict_of}
use Rattle.lp_machine.specs.Table.{Table, Engine, state_in}
use Rattle.lp_transition.specs.inside.Invariant.{IsEngine}
use Rattle.lp_transition.specs.inside.ScanSteps.{waiting_slot, task_switches, is_found}
use Rattle.lp_transition.specs.inside.FirstRefusals.{asked_slot, HasAsked}
use Rattle.lp_tasks.specs.Passing.{place_of}
use Rattle.lp_tasks.proofs.AscendingLemmas.{IsBefore, members-before}
use Rattle.lp_transition.proofs.FirstRefusals.{pass-begins, pass-ends, pass-over, pass-asks}

module _ (table : Table) (waiting may_refuse unrefused : Numbers) (t : ℕ) where
  asked : Bool
  asked = has may_refuse t && task_switches (has unrefused) (waiting_slot table waiting t)

  -- who is asked waits, and its group isn't refused so far
  asked_some : (x : LegTask) → asked_slot table waiting may_refuse unrefused t ≡ Some x → (waiting_slot table waiting t ≡ Some x) × (has unrefused x.group ≡ true)
  asked_some x h = by (has may_refuse t) (waiting_slot table waiting t) h
    where
      by : (b : Bool) (o : Option LegTask) → (if b && task_switches (has unrefused) o then o else None) ≡ Some x → (o ≡ Some x) × (has unrefused x.group ≡ true)
      by false o e = absurd (cc)
      by true None e = absurd (cc)
      by true (Some y) e = of (has unrefused y.group) refl e
        where
          of : (c : Bool) → has unrefused y.group ≡ c → (if c then Some y else None) ≡ Some x → (Some y ≡ Some x) × (has unrefused x.group ≡ true)
          of false is f = absurd (cc)
          of true is f = let same : y ≡ x = cc in (f, ap (λ (z : LegTask). has unrefused z.group) (sym same) ∙ is)

  -- who waits and may be refused, and isn't asked, is of a refused group
  asked_none : asked_slot table waiting may_refuse unrefused t ≡ None → (x : LegTask) → waiting_slot table waiting t ≡ Some x → has may_refuse t ≡ true → has unrefused x.group ≡ false
  asked_none none x waits may =
      false_from_ne_true (has unrefused x.group) (λ still.
      let on = and_from (has may_refuse t) (task_switches (has unrefused) (waiting_slot table waiting t)) may (ap (task_switches (has unrefused)) waits ∙ still) in
      let some = sym none ∙ (cond-true (has may_refuse t && task_switches (has unrefused) (waiting_slot table waiting t)) (waiting_slot table waiting t) None on ∙ waits) in
      absurd (cc))

module _ (e : Engine) (waiting : Numbers) (kept : IsEngine e waiting) (model : Rules) (kind : CheckKind) (candidates may_refuse : Numbers) (groups : ℕ → Bool) where
  abbrev Turn : List ℕ → List Verdict → Numbers → Type 0
  Turn left vs unrefused = HasAsked model kind e (has candidates) (has may_refuse) groups (place_of left) vs (has unrefused)

  pub turn-begins : (left : List ℕ) (vs : List Verdict) → vs ≡ [] → left ≡ members_from 0 candidates → HasAsked model kind e (has candidates) (has may_refuse) groups (place_of left) vs groups
  turn-begins left vs none all =
      subst (λ ws. HasAsked model kind e (has candidates) (has may_refuse) groups (place_of left) ws groups) (sym none)
      (pass-begins e waiting kept model kind (has candidates) (has may_refuse) groups (place_of left) (λ t h. (members-before candidates 0 left (omega arith) all).none t (omega arith) h))

  module _ (now : List ℕ) (n : ℕ) (left : List ℕ) (vs : List Verdict) (unrefused : Numbers) (is : now ≡ n ∷ left) (few : n < 65536) (h : Turn now vs unrefused) where
    here : Turn (n ∷ left) vs unrefused
    here = subst (λ ns. Turn ns vs unrefused) is h

    pub turn-ends : IsEmpty unrefused → Turn [] vs unrefused
    turn-ends none = pass-ends e waiting kept model kind (has candidates) (has may_refuse) groups n 65536 vs (has unrefused) (omega arith) none here

    module _ (rest : left ≡ members_from (n + 1) candidates) where
      before : IsBefore candidates (n + 1) left
      before = members-before candidates (n + 1) left (omega arith) rest

      further : n < place_of left
      further = let low = before.low in omega (arith, low)

      pub turn-over : asked_slot e.table waiting may_refuse unrefused n ≡ None → Turn left vs unrefused
      turn-over none =
          pass-over e waiting kept model kind (has candidates) (has may_refuse) groups n (place_of left) vs (has unrefused) further (λ t low high. before.none t (omega arith) high) here
          (λ x waits may. asked_none e.table waiting may_refuse unrefused n none x waits may)

      pub turn-asks : (x : LegTask) (v : Verdict) (ws : List Verdict) (unrefused_after : Numbers) → asked_slot e.table waiting may_refuse unrefused n ≡ Some x → v ≡ verdict_of model kind (state_in e).aim (view_of n x) → ws ≡ vs ++ v ∷ []
          → ((group : ℕ) → has unrefused_after group ≡ (has unrefused group && not (is_found e.table true group v))) → Turn left ws unrefused_after
      turn-asks x v ws unrefused_after some told more closes =
          let w = asked_some e.table waiting may_refuse unrefused n x some in
          subst (λ us. Turn left us unrefused_after) (sym (more ∙ ap (λ u. vs ++ u ∷ []) told))
          (pass-asks e waiting kept model kind (has candidates) (has may_refuse) groups n (place_of left) vs (has unrefused) further (λ t low high. before.none t (omega arith) high) here
          x (has unrefused_after) few w.0 w.1 (λ group. closes group ∙ ap (λ u. has unrefused group && not (is_found e.table true group u)) told))
