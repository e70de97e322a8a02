-- A model that is at least as permissive never completes a leg later.
use Rattle.std.proofs.Common.{◌≡◌, ℕ, suc, Some, IsTrue, slice_get, sym, ap, ◌∙◌, subst}
use mathlib.Core.Path.{fun_ext}
use Rattle.lp_model.specs.Rules.{Rules, IsLawful}
use Rattle.lp_definitions.specs.Tasks.{Life, Live, outlines}
use Rattle.lp_definitions.specs.Leg.{Leg, tasks_after, accept, accepted, check_by, after}
use Rattle.lp_definitions.specs.Schedule.{Schedule, view, waits, allowed, complete, IsLegal, IsFirstCheck}
use Rattle.lp_definitions.specs.Sound.{IsSound}
use Rattle.lp_definitions.specs.Order.{IsAtLeastAsPermissive}
use Rattle.lp_laws.proofs.Checks.{checked_member, check-is, check-from}
use Rattle.lp_laws.proofs.NextTasks.{numbered}
use Rattle.lp_laws.proofs.Waiting.{waits-is, waits-from, allowed-is, allowed-from, complete-is, complete-from}
use Rattle.lp_laws.proofs.NoEarlier.{completes_too}

module _ (a b : Rules) (leg : Leg) (lawful_a : IsLawful a) (lawful_b : IsLawful b) (sound : IsSound leg.opening) (more : IsAtLeastAsPermissive a b) where
  groups_same : b.child_group ≡ a.child_group
  groups_same = fun_ext (λ g. fun_ext (λ t. fun_ext (λ how. sym (more.child_group g t how))))

  after_same : (k : ℕ) → after b leg k ≡ after a leg k
  after_same k = ap (λ grouping. tasks_after grouping leg k) groups_same

  live_same : (k t : ℕ) (x : Life) → after b leg k t ≡ Live x → after a leg k t ≡ Live x
  live_same k t x e = sym (ap (λ now. now t) (after_same k)) ∙ e

  live_back : (k t : ℕ) (x : Life) → after a leg k t ≡ Live x → after b leg k t ≡ Live x
  live_back k t x e = ap (λ now. now t) (after_same k) ∙ e

  module _ (s : Schedule) where
    waits_under : (k group : ℕ) → IsTrue (waits b leg s k group) → IsTrue (waits a leg s k group)
    waits_under k group e =
        let w = waits-is b leg s k group e in
        waits-from a leg s k group (record { task = w.task; life = w.life; positive = w.positive; within = w.within; live = live_same k w.task w.life w.live; member = w.member; off = w.off })

    allowed_under : (k group : ℕ) → IsTrue (allowed b leg s k group) → IsTrue (allowed a leg s k group)
    allowed_under k group e =
        let d = allowed-is b leg s k group e in
        let c = check-is b leg k group d.0 d.1 in
        let m = checked_member leg.bounds (after b leg (suc k)) (accepted b leg k) group d.0 c.0 in
        let at = numbered b.child_group leg sound (suc k) m.task m.life m.live in
        let admitted = more.admits d.0 (view leg s m.task m.life) leg.aim (d.2 m.task m.life at.0 at.1 m.live m.is) in
        let same = subst (λ grouping. check_by leg.bounds (outlines (tasks_after grouping leg (suc k))) (accept leg.bounds (tasks_after grouping leg k) (slice_get leg.events k)) group ≡ Some d.0) groups_same c.0 in
        allowed-from a leg s k group d.0 (check-from a leg k group d.0 same (lawful_a.unused d.0 (view leg s m.task m.life) leg.aim admitted)) (λ t x positive within live member. more.admits d.0 (view leg s t x) leg.aim (d.2 t x positive within (live_back (suc k) t x live) member))

    legal_under : IsLegal b leg s → IsLegal a leg s
    legal_under h = λ group moment e. let l = h group moment e in (l.0, l.1, waits_under l.0 group l.2, allowed_under l.0 group l.3)

    complete_under : (k : ℕ) → IsTrue (complete b leg s k) → IsTrue (complete a leg s k)
    complete_under k h = complete-from a leg s k (λ t x positive within live. complete-is b leg s k h t x positive within (live_back k t x live))

  pub never_loses : (s r : Schedule) → IsFirstCheck a leg s → IsFirstCheck b leg r → (k : ℕ) → IsTrue (complete b leg r k) → IsTrue (complete a leg s k)
  never_loses s r is_s is_r k h = completes_too a leg lawful_a sound s r is_s (legal_under r is_r.legal) k (complete_under r k h)
