-- The verdicts of those who were asked, with the members of the groups that aren't refused.
use Rattle.std.proofs.Common.{◌≡◌, ℕ, ◌<◌, Bool, true, false, not, ◌&&◌, ◌||◌, List, map, nat_eq, refl, sym, ap, inl, inr, ◌∙◌, ⊎_elim}
use Rattle.std.proofs.lemmas.Bool.{false≢true, and_parts, and_from, or_left, or_right, or_cases, eqb-true, eq-eqb}
use Rattle.std.specs.List.{list_any}
use Rattle.lp_numbers.specs.Numbers.{Numbers, has}
use Rattle.lp_model.specs.Rules.{Rules}
use Rattle.lp_model.specs.declared.check.CheckKind.{CheckKind}
use Rattle.lp_model.specs.declared.verdict.Verdict.{Verdict}
use Rattle.lp_definitions.specs.Tasks.{Live, on_live}
use Rattle.lp_definitions.specs.Leg.{LegTask}
use Rattle.lp_transition.specs.Scan.{verdict_of, verdicts_of, verdicts_at, is_asked}
use Rattle.lp_tasks.specs.Passing.{passing}
use Rattle.lp_machine.specs.Table.{Engine, slot, leg_tasks, state_in}
use Rattle.lp_tasks.specs.inside.Table.{is_in}
use Rattle.lp_transition.specs.inside.Invariant.{IsEngine}
use Rattle.lp_transition.specs.inside.ScanSteps.{IsOwnGroup, is_found, is_judged}
use Rattle.lp_transition.specs.inside.FirstRefusals.{AdmitsOthers, HasAsked, AreTold}
use Rattle.lp_transition.proofs.AskedScans.{among_views, any-filter, verdicts-agree}
use Rattle.lp_transition.proofs.FirstRefusals.{pass-told}
use Rattle.lp_transition.proofs.OwnGroups.{own-agrees, member-agrees}
use Rattle.lp_transition.proofs.ScanLemmas.{views-asked, views-in_order}
use Rattle.lp_transition.proofs.ScanLists.{any-map, verdict-is, verdict-from}

module _ (e : Engine) (waiting : Numbers) (kept : IsEngine e waiting) (model : Rules) (kind : CheckKind) where
  -- the group of a live task
  group_asked : (groups : ℕ → Bool) (t : ℕ) (x : LegTask) → leg_tasks e.table t ≡ Live x → is_asked (state_in e) groups t ≡ groups x.group
  group_asked groups t x live = ap (on_live false (λ (y : LegTask). groups y.group)) live

  -- each live member of some groups is a candidate
  pub members-cover : (groups set : Numbers) → ((task : ℕ) → has set task ≡ list_any (λ group. is_in group (slot e.table task)) (passing 0 65536 (has groups))) → (t : ℕ) (x : LegTask) → leg_tasks e.table t ≡ Live x → has groups x.group ≡ true → has set t ≡ true
  members-cover groups set told t x live mine = member-agrees e waiting kept groups set told t x live ∙ (group_asked (has groups) t x live ∙ mine)

  -- the tasks of own groups are their members
  pub own-listed : (groups : Numbers) → ((group : ℕ) → group < 65536 → has groups group ≡ true → IsOwnGroup e.table group) → verdicts_at model kind (state_in e) (has groups) ≡ verdicts_at model kind (state_in e) (is_asked (state_in e) (has groups))
  own-listed groups own = verdicts-agree model kind (state_in e) (has groups) (is_asked (state_in e) (has groups)) (λ t x live off. own-agrees e waiting kept groups own t x live)

  -- the verdicts of the waiting set are those of all
  pub all-listed : verdicts_at model kind (state_in e) (has waiting) ≡ verdicts_of model kind (state_in e)
  all-listed =
      among_views model kind (state_in e) (has waiting)
      ∙ ap (map (verdict_of model kind (state_in e).aim)) (sym (views-asked e waiting kept (has waiting)) ∙ views-in_order e waiting kept)

  -- a set of the members of some groups and of the tasks of verdicts
  pub members-judged : (groups set more : Numbers) (vs : List Verdict) → ((task : ℕ) → has set task ≡ list_any (λ group. is_in group (slot e.table task)) (passing 0 65536 (has groups))) → ((t : ℕ) → has more t ≡ (has set t || is_judged vs t))
      → verdicts_at model kind (state_in e) (has more) ≡ verdicts_at model kind (state_in e) (λ t. is_asked (state_in e) (has groups) t || is_judged vs t)
  members-judged groups set more vs told added =
      verdicts-agree model kind (state_in e) (has more) (λ t. is_asked (state_in e) (has groups) t || is_judged vs t) (λ t x live off. added t ∙ ap (λ b. b || is_judged vs t) (member-agrees e waiting kept groups set told t x live))

  module _ (looked : ℕ → Bool) (vs : List Verdict) (found : vs ≡ verdicts_at model kind (state_in e) looked) where
    judged_by : (t : ℕ) → is_judged vs t ≡ list_any (λ v. looked v.task.0 && nat_eq t v.task.0) (verdicts_of model kind (state_in e))
    judged_by t =
        any-map (λ (v : Verdict). v.task.0) (nat_eq t) vs
        ∙ ap (list_any (λ (v : Verdict). nat_eq t v.task.0)) found
        ∙ any-filter (λ (v : Verdict). looked v.task.0) (λ v. nat_eq t v.task.0) (verdicts_of model kind (state_in e))

    -- who is judged was looked at
    judged_looked : (t : ℕ) → is_judged vs t ≡ true → looked t ≡ true
    judged_looked t h =
        let j = verdict-is model kind (state_in e) (λ v. looked v.task.0 && nat_eq t v.task.0) (sym (judged_by t) ∙ h) in
        let parts = and_parts (looked j.number) (nat_eq t j.number) j.passed in
        ap looked (eqb-true t j.number parts.1) ∙ parts.0

    -- and who waits, and was looked at, is judged
    looked_judged : (t : ℕ) (x : LegTask) → leg_tasks e.table t ≡ Live x → nat_eq x.level e.target ≡ false → looked t ≡ true → is_judged vs t ≡ true
    looked_judged t x live off seen =
        let bounds = kept.sound.numbered t x live in
        judged_by t
        ∙ verdict-from model kind (state_in e) (λ v. looked v.task.0 && nat_eq t v.task.0) (record {
          number = t;
          task = x;
          live = live;
          off = off;
          passed = and_from (looked t) (nat_eq t t) seen (eq-eqb t t refl);
        }) bounds.0 bounds.1

  module _ (may_refuse asked : ℕ → Bool) (vs : List Verdict) (unrefused : ℕ → Bool) (sure : AdmitsOthers model kind (state_in e) may_refuse) (h : HasAsked model kind e (λ t. true) may_refuse asked 65536 vs unrefused) where
    -- where each group is refused
    pub told-refused : ((group : ℕ) → unrefused group ≡ false) → AreTold model kind (state_in e) asked vs
    told-refused none =
        pass-told e waiting kept model kind (λ t. true) may_refuse asked vs vs unrefused h (λ t. refl) sure h.looked
        (λ t x live off. ((λ seen. inl seen), (λ either. ⊎_elim (λ seen. seen) (λ still. absurd (false≢true (sym (none x.group) ∙ still))) either)))
        h.only h.found

    -- with the members of the groups that aren't
    pub told-whole : (ws : List Verdict) → ws ≡ verdicts_at model kind (state_in e) (λ t. is_asked (state_in e) unrefused t || is_judged vs t) → AreTold model kind (state_in e) asked ws
    told-whole ws found =
        pass-told e waiting kept model kind (λ t. true) may_refuse asked vs ws unrefused h (λ t. refl) sure (λ t. is_asked (state_in e) unrefused t || is_judged vs t)
        (λ t x live off. (
          (λ taken.
              ⊎_elim
              (λ mine. inr (sym (group_asked unrefused t x live) ∙ mine))
              (λ judged. inl (judged_looked h.looked vs h.found t judged))
              (or_cases (is_asked (state_in e) unrefused t) (is_judged vs t) taken)),
          (λ either.
              ⊎_elim
              (λ seen. or_right (is_asked (state_in e) unrefused t) (is_judged vs t) (looked_judged h.looked vs h.found t x live off seen))
              (λ still. or_left (is_asked (state_in e) unrefused t) (is_judged vs t) (group_asked unrefused t x live ∙ still))
              either),
        ))
        (λ t x live taken.
        ⊎_elim
        (λ mine. (and_parts (asked x.group) (not (list_any (is_found e.table true x.group) vs)) (sym (h.left x.group) ∙ (sym (group_asked unrefused t x live) ∙ mine))).0)
        (λ judged. h.only t x live (judged_looked h.looked vs h.found t judged))
        (or_cases (is_asked (state_in e) unrefused t) (is_judged vs t) taken))
        found
