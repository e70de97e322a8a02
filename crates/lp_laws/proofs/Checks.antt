-- What a check is: its event is accepted, its kind is used, and it has a live member to look at.
use Rattle.std.proofs.Common.{◌≡◌, ℕ, suc, Bool, true, false, Option, Some, None, IsTrue, nat_eq, refl, sym, ap, ◌∙◌, subst}
use Rattle.std.proofs.lemmas.Bool.{and_parts, eqb-true}
use Rattle.lp_model.specs.declared.check.CheckKind.{CheckKind}
use Rattle.lp_model.specs.declared.check.CheckKind.TheVariants.{Walk, Stop}
use Rattle.lp_model.specs.declared.check.ForkKind.{ForkKind}
use Rattle.lp_model.specs.Rules.{Rules}
use Rattle.lp_definitions.specs.declared.event.Event.{Event}
use Rattle.lp_definitions.specs.declared.event.Event.TheVariants.{Exit, Idle, Resched, Walk, Stop}
use Rattle.lp_definitions.specs.declared.refusal.Refusal.{Refusal}
use Rattle.lp_definitions.specs.Tasks.{Life, Fate, Unused, Live, Dead, Tasks, on_live, map_live, outline, outlines, Bounds, refusal}
use Rattle.lp_definitions.specs.Leg.{Leg, unless_refused, accept, accepted, has_member, is_alone, when, check_by, after, if_used, check}
use Rattle.lp_definitions.proofs.Quantifiers.{some_live-is, some_live-map}
use Rattle.lp_definitions.specs.Events.{fork}

-- a check has a live member to look at
pub record Member (now : Tasks) (group : ℕ) : Type 0 where
  pub task : ℕ
  pub life : Life
  pub live : now task ≡ Live life
  pub is : life.group ≡ group

when_true : (b : Bool) (kind found : CheckKind) → when b kind ≡ Some found → b ≡ true
when_true true kind found e = refl
when_true false kind found e = absurd (cc)

when_is : (b : Bool) (kind found : CheckKind) → when b kind ≡ Some found → kind ≡ found
when_is true kind found e = cc
when_is false kind found e = absurd (cc)

module _ (bounds : Bounds) (now : Tasks) where
  live_member : (group t : ℕ) (f : Fate Life) → now t ≡ f → on_live false (λ x. nat_eq x.group group) (map_live outline f) ≡ true → Member now group
  live_member group t Unused e h = absurd (cc)
  live_member group t (Live x) e h = record { task = t; life = x; live = e; is = eqb-true _ _ h }
  live_member group t Dead e h = absurd (cc)

  one_alone : (group t : ℕ) → is_alone bounds (outlines now) group t ≡ true → Member now group
  one_alone group t h = live_member group t (now t) refl (and_parts _ _ h).0

  pub one_there : (group : ℕ) → has_member bounds (outlines now) group ≡ true → Member now group
  one_there group h =
      let p = some_live-is bounds now (λ t x. nat_eq x.group group) (sym (some_live-map bounds outline now (λ t x. nat_eq x.group group)) ∙ h) in
      record { task = p.task; life = p.life; live = p.live; is = eqb-true _ _ p.passed }

  pub checked_member : (event : Option Event) (group : ℕ) (kind : CheckKind) → check_by bounds (outlines now) event group ≡ Some kind → Member now group
  checked_member (Some (Exit t)) group kind e = one_alone group t.0 (when_true _ _ _ e)
  checked_member (Some (Idle t)) group kind e = one_alone group t.0 (when_true _ _ _ e)
  checked_member (Some (Resched t)) group kind e = one_alone group t.0 (when_true _ _ _ e)
  checked_member (Some Walk) group kind e = one_there group (when_true _ _ _ e)
  checked_member (Some Stop) group kind e = one_there group (when_true _ _ _ e)
  checked_member (Some _) group kind e = absurd (cc)
  checked_member None group kind e = absurd (cc)

used_kind : (uses : CheckKind → Bool) (o : Option CheckKind) (kind : CheckKind) → if_used uses o ≡ Some kind → (o ≡ Some kind) × IsTrue (uses kind)
used_kind uses None kind e = absurd (cc)
used_kind uses (Some found) kind e =
    let is = when_is (uses found) found kind e in
    (ap Some is, subst (λ c. IsTrue (uses c)) is (when_true (uses found) found kind e))

module _ (model : Rules) (leg : Leg) where
  pub check-is : (k group : ℕ) (kind : CheckKind) → check model leg k group ≡ Some kind → (check_by leg.bounds (outlines (after model leg (suc k))) (accepted model leg k) group ≡ Some kind) × IsTrue (model.uses kind)
  unfolding check
  check-is k group kind e = used_kind model.uses _ kind e

  pub check-from : (k group : ℕ) (kind : CheckKind) → check_by leg.bounds (outlines (after model leg (suc k))) (accepted model leg k) group ≡ Some kind → IsTrue (model.uses kind) → check model leg k group ≡ Some kind
  unfolding check
  check-from k group kind e u = ap (if_used model.uses) e ∙ ap (λ b. when b kind) u

-- ---- A fork is no check

accepted_event : (bounds : Bounds) (now : Tasks) (event wanted : Event) (r : Option Refusal) → refusal bounds now event ≡ r → unless_refused r event ≡ Some wanted → refusal bounds now wanted ≡ None
accepted_event bounds now event wanted None e h = let same : event ≡ wanted = cc in subst (λ v. refusal bounds now v ≡ None) same e
accepted_event bounds now event wanted (Some why) e h = absurd (cc)

pub accepted-is : (bounds : Bounds) (now : Tasks) (o : Option Event) (wanted : Event) → accept bounds now o ≡ Some wanted → refusal bounds now wanted ≡ None
accepted-is bounds now None wanted h = absurd (cc)
accepted-is bounds now (Some event) wanted h = accepted_event bounds now event wanted (refusal bounds now event) refl h

pub fork_no_check : (model : Rules) (leg : Leg) (k group p c : ℕ) (how : ForkKind) (kind : CheckKind) → accepted model leg k ≡ Some (fork p c how) → check model leg k group ≡ Some kind → ⊥
fork_no_check model leg k group p c how kind e h =
    let is = subst (λ o. check_by leg.bounds (outlines (after model leg (suc k))) o group ≡ Some kind) e (check-is model leg k group kind h).0 in cc
