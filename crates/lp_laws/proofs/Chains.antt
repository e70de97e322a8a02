-- A group that waits under the first-check schedule has been refused at each of its checks, and a chain leads to it.
use Rattle.std.proofs.Common.{◌≡◌, ℕ, zero, suc, ◌<◌, ◌≤◌, true, false, not, ◌||◌, Some, nat_eq, slice_get, sym, ap, ◌∙◌, subst, ⊎_elim, arith}
use Rattle.std.proofs.lemmas.Bool.{false_from_ne_true, cases_eq, cases_lt, or_parts, eqb-true, not-false}
use Rattle.lp_model.specs.declared.check.CheckKind.{CheckKind}
use Rattle.lp_model.specs.Rules.{Rules, IsLawful}
use Rattle.lp_definitions.specs.Leg.{Leg, accepted, after, check}
use Rattle.lp_definitions.specs.Schedule.{Schedule, has_come, view, allowed, admits_each, IsLegal, IsFirstCheck}
use Rattle.lp_definitions.specs.Sound.{IsSound}
use Rattle.lp_definitions.specs.Chain.{IsRefused, IsRefusedBetween, Chain, FromOpening, FromBirth}
use Rattle.lp_definitions.proofs.Quantifiers.{each_live-not}
use Rattle.lp_laws.proofs.NoEarlier.{waits_too, allowed_back}
use Rattle.lp_laws.proofs.Checks.{checked_member, check-is, accepted-is, fork_no_check}
use Rattle.lp_laws.proofs.NextTasks.{forks, no_member}
use Rattle.lp_laws.proofs.Waiting.{come_at, Waiter, waits-from, not_gone, Waited, InGroup, InParent, waited}
use Rattle.lp_definitions.specs.Events.{fork}

module _ (model : Rules) (leg : Leg) (schedule : Schedule) where
  -- a check that doesn't allow has a member that isn't admitted
  refused_by_one : (kind : CheckKind) (k group : ℕ) → admits_each model leg schedule (Some kind) (after model leg k) group ≡ false → IsRefused model leg schedule kind k group
  refused_by_one kind k group h =
      let r = each_live-not leg.bounds (after model leg k) (λ t x. not (nat_eq x.group group) || model.admits kind (view leg schedule t x) leg.aim) h in
      let parts = or_parts _ _ r.3 in
      record { task = r.0; life = r.1; live = r.2; member = eqb-true _ _ (not-false _ parts.0); refused = parts.1 }

  not_allowed : (k group : ℕ) (kind : CheckKind) → allowed model leg schedule k group ≡ false → check model leg k group ≡ Some kind → IsRefused model leg schedule kind (suc k) group
  unfolding allowed
  not_allowed k group kind h e = refused_by_one kind (suc k) group (subst (λ o. admits_each model leg schedule o (after model leg (suc k)) group ≡ false) e h)

module _ (model : Rules) (leg : Leg) (lawful : IsLawful model) (sound : IsSound leg.opening) (first : Schedule) (is_first : IsFirstCheck model leg first) (schedule : Schedule) (is_legal : IsLegal model leg schedule) where
  abbrev Refused : ℕ → ℕ → ℕ → Type 0
  Refused i k group = IsRefusedBetween model leg schedule i k group

  -- who waits on after an event that it waited before isn't allowed at it, under any legal schedule
  stays_refused : (k group : ℕ) → Waiter model leg first k group → Waiter model leg first (suc k) group → allowed model leg schedule k group ≡ false
  stays_refused k group before now =
      false_from_ne_true _ (λ (in' : allowed model leg schedule k group ≡ true).
      let e = waits-from model leg first k group before in
      let switched_then = is_first.first k group e (allowed_back model leg lawful sound first schedule is_first is_legal k group e in') in
      let gone = ap (λ m. has_come m (suc k)) switched_then ∙ come_at (suc k) in
      let still = not_gone model leg first (suc k) group now in
      absurd (cc (gone, still)))

  one_more : (i k group : ℕ) → Refused i k group → allowed model leg schedule k group ≡ false → Refused i (suc k) group
  one_more i k group h out j kind low high e =
      ⊎_elim
      (λ (same : j ≡ k). subst (λ n. check model leg n group ≡ Some kind → IsRefused model leg schedule kind (suc n) group) (sym same) (λ at. not_allowed model leg schedule k group kind out at) e)
      (λ (ne : j ≡ k → ⊥). h j kind low (omega (arith, ne)) e)
      (cases_eq j k)

  longer : (group k : ℕ) → Chain model leg schedule group k → allowed model leg schedule k group ≡ false → Chain model leg schedule group (suc k)
  longer group k (FromOpening g n there refused) out = FromOpening g (suc n) there (one_more zero n g refused out)
  longer group k (FromBirth g n parent_group place chain birth lt refused) out = FromBirth g (suc n) parent_group place chain birth (omega arith) (one_more (suc place) n g refused out)

  chain_next : (k group : ℕ) (w : Waiter model leg first (suc k) group) → ((g : ℕ) → Waiter model leg first k g → Chain model leg schedule g k) → Waited model leg first k group w.task w.life → Chain model leg schedule group (suc k)
  chain_next k group w before (InGroup v) = longer group k (before group v) (stays_refused k group v w)
  chain_next k group w before (InParent g how v event origin own is unused positive) =
      FromBirth group (suc k) g k (before g v) (record { parent = v.task; how = how; event = subst (λ n. accepted model leg k ≡ Some (fork v.task n how)) is event; own = subst (λ n. model.child_group g n how ≡ n) is own; life = v.life; live = v.live; member = v.member }) (omega arith) (λ j kind low high e. absurd (omega arith))

  pub chain : (k group : ℕ) → Waiter model leg first k group → Chain model leg schedule group k
  chain zero group w = FromOpening group zero (waits_too model leg lawful sound first schedule is_first is_legal zero group (waits-from model leg first zero group w)) (λ j kind low high e. absurd (omega arith))
  chain (suc k) group w = chain_next k group w (λ g v. chain k g v) (waited model leg lawful sound first k group w)

  -- ---- Refused since the opening: a group has no check before its birth

  since_opening : (group k : ℕ) → Chain model leg schedule group k → Refused zero k group
  since_opening group k (FromOpening g n there refused) = refused
  since_opening group k (FromBirth g n parent_group place chain birth lt refused) =
      λ j kind low high e.
      ⊎_elim
      (λ (late : place < j). refused j kind late high e)
      (λ (early : j ≤ place).
      ⊎_elim
      (λ (at : j ≡ place). absurd (fork_no_check model leg place g birth.parent g birth.how kind birth.event (subst (λ i. check model leg i g ≡ Some kind) at e)))
      (λ (ne : j ≡ place → ⊥).
      let c = check-is model leg j g kind e in
      let m = checked_member leg.bounds (after model leg (suc j)) (accepted model leg j) g kind c.0 in
      let f = forks leg.bounds (after model leg place) birth.parent g birth.how (accepted-is leg.bounds (after model leg place) (slice_get leg.events place) (fork birth.parent g birth.how) birth.event) in
      absurd (no_member model.child_group leg sound lawful.child (suc j) place g m.task m.life (omega (arith, ne)) f.unused f.positive m.live m.is))
      (cases_eq j place))
      (cases_lt place j)

  pub refused_so_far : (k group : ℕ) → Waiter model leg first k group → Refused zero k group
  refused_so_far k group w = since_opening group k (chain k group w)
