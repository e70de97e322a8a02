-- A chain that was judged with nobody switching holds under every legal schedule: its last group waits.
use Rattle.std.proofs.Common.{◌≡◌, ◌≢◌, ℕ, zero, suc, ◌≤◌, true, false, Option, Some, IsTrue, IsFalse, slice_get, refl, sym, ap, ◌∙◌, subst, ⊎_elim, inr, arith}
use Rattle.std.proofs.lemmas.Bool.{false_from_ne_true, cases_eq, eq-eqb, cond-true}
use Rattle.lp_model.specs.declared.check.CheckKind.{CheckKind}
use Rattle.lp_model.specs.declared.check.ForkKind.{ForkKind}
use Rattle.lp_model.specs.Rules.{Rules, IsLawful}
use Rattle.lp_definitions.specs.declared.event.Event.{Event}
use Rattle.lp_definitions.specs.declared.event.Event.TheVariants.{Fork}
use Rattle.lp_definitions.specs.Tasks.{Life, Unused, Live, map_live, child, effect}
use Rattle.lp_definitions.specs.Leg.{Leg, take_effect, tasks_after, accepted, after, check}
use Rattle.lp_definitions.specs.Schedule.{Schedule, has_come, level, waits, allowed, IsLegal}
use Rattle.lp_definitions.specs.Sound.{IsSound}
use Rattle.lp_definitions.specs.Chain.{nobody, IsRefused, IsRefusedBetween, IsBirth, Chain, FromOpening, FromBirth}
use Rattle.lp_laws.proofs.Checks.{accepted-is}
use Rattle.lp_laws.proofs.NextTasks.{Forks, forks, opens, numbered, grouped, IsKnown, known_later, made_before, no_member}
use Rattle.lp_laws.proofs.Waiting.{level_before, level_still, comes_now, none_at_zero, waits-is, waits-from, allowed-is, view_same, Descends, FromMember, FromParent, descends, live_same, level_waiting, fresh_still}
use Rattle.lp_definitions.specs.Events.{fork}

-- the task that forks
abbrev forker : Option Event → ℕ
forker (Some (Fork parent child how)) = parent.0
forker _ = 0

module _ (model : Rules) (leg : Leg) (lawful : IsLawful model) (sound : IsSound leg.opening) (schedule : Schedule) (is_legal : IsLegal model leg schedule) where
  -- a task is off the target with nobody switching, and on the same level under the schedule
  record IsStillOff (x : Life) : Type 0 where
    alike : level_before leg.target nobody x.origin ≡ level_before leg.target schedule x.origin
    off : level_before leg.target nobody x.origin ≢ leg.target

  -- after k events the group hasn't switched, and its members are still off the target
  record Holds (k group : ℕ) : Type 0 where
    still : has_come (schedule group) k ≡ false
    still_off : (t : ℕ) (x : Life) → after model leg k t ≡ Live x → x.group ≡ group → IsStillOff x
    known : IsKnown model.child_group leg sound k group

  off_next : (k group : ℕ) → Holds k group → (t : ℕ) (x : Life) → after model leg (suc k) t ≡ Live x → x.group ≡ group → IsStillOff x
  off_next k group h t x live member = from (descends model leg lawful k group t x live member)
    where
      from : Descends model leg k group t x → IsStillOff x
      from (FromMember u y was is same) =
          let y_off = h.still_off u y was is in
          record { alike = same nobody refl ∙ (y_off.alike ∙ sym (same schedule h.still)); off = λ e. y_off.off (sym (same nobody refl) ∙ e) }
      from (FromParent p how y event was origin own is unused positive) =
          absurd (⊎_elim (λ (e : group ≡ 0). absurd (omega arith)) (λ (ne : after model leg k group ≢ Unused). ne (subst (λ n. after model leg k n ≡ Unused) is unused)) h.known)

  -- a check that refuses doesn't switch the group
  holds_on : (k group : ℕ) → Holds k group → ((kind : CheckKind) → check model leg k group ≡ Some kind → IsRefused model leg nobody kind (suc k) group) → Holds (suc k) group
  holds_on k group h refused = record { still = false_from_ne_true _ contradiction; still_off = off_next k group h; known = known_later model.child_group leg sound k group h.known }
    where
      not_admitted : (j : ℕ) → suc k ≡ suc j → IsTrue (allowed model leg schedule j group) → ⊥
      not_admitted j e a =
          let same : j ≡ k = omega arith in
          let b = allowed-is model leg schedule k group (subst (λ n. IsTrue (allowed model leg schedule n group)) same a) in
          let r = refused b.0 b.1 in
          let at = numbered model.child_group leg sound (suc k) r.task r.life r.live in
          let views = view_same leg nobody schedule k r.task r.life (made_before model.child_group leg (suc k) r.task r.life r.live) refl (subst (λ g. has_come (schedule g) k ≡ false) (sym r.member) h.still) (off_next k group h r.task r.life r.live r.member).alike in
          let admitted = b.2 r.task r.life at.0 at.1 r.live r.member in
          let refused_too = subst (λ v. IsFalse (model.admits b.0 v leg.aim)) views r.refused in
          cc

      contradiction : has_come (schedule group) (suc k) ≡ true → ⊥
      contradiction come = let r = is_legal group (suc k) (comes_now (schedule group) k h.still come) in not_admitted r.0 r.1 r.3

  holds_through : (i k group : ℕ) → i ≤ k → Holds i group → IsRefusedBetween model leg nobody i k group → Holds k group
  holds_through i zero group le h refused = let same : i ≡ zero = omega arith in subst (λ n. Holds n group) same h
  holds_through i (suc k) group le h refused =
      ⊎_elim
      (λ (same : i ≡ suc k). subst (λ n. Holds n group) same h)
      (λ (ne : i ≡ suc k → ⊥). holds_on k group (holds_through i k group (omega (arith, ne)) h (λ j kind low high e. refused j kind low (omega arith) e)) (λ kind e. refused k kind (omega (arith, ne)) (omega arith) e))
      (cases_eq i (suc k))

  at_opening : (group : ℕ) → IsTrue (waits model leg nobody zero group) → Holds zero group
  at_opening group e =
      let w = waits-is model leg nobody zero group e in
      let a = opens model.child_group leg w.task w.life w.live in
      let level_a : level leg nobody zero w.life ≡ a.0.level = level_still leg.target nobody zero w.life.group w.life.origin refl ∙ ap (λ z. level_before leg.target nobody z.origin) a.2 in
      record {
        still = none_at_zero (schedule group) (λ i e. let r = is_legal group i e in (r.0, r.1));
        still_off = λ t x live member.
            let b = opens model.child_group leg t x live in
            let same : b.0.group ≡ a.0.group = sym (ap (λ z. z.group) b.2) ∙ (member ∙ (sym w.member ∙ ap (λ z. z.group) a.2)) in
            let level_b = sound.one_side t w.task b.0 a.0 b.1 a.1 same in
            record {
              alike = ap (λ z. level_before leg.target nobody z.origin) b.2 ∙ sym (ap (λ z. level_before leg.target schedule z.origin) b.2);
              off = λ on. w.off (level_a ∙ (sym level_b ∙ (sym (ap (λ z. level_before leg.target nobody z.origin) b.2) ∙ on)));
            };
        known = subst (IsKnown model.child_group leg sound zero) w.member (grouped model.child_group leg sound lawful.child zero w.task w.life w.live);
      }

  child_is_live : (place p c : ℕ) (how : ForkKind) (y : Life) → accepted model leg place ≡ Some (fork p c how) → after model leg place p ≡ Live y → after model leg (suc place) c ≡ Live (child model.child_group place c how y)
  unfolding tasks_after effect
  child_is_live place p c how y event live =
      ap (λ o. take_effect model.child_group place o (after model leg place) c) event ∙ (cond-true _ _ _ (eq-eqb c c refl) ∙ ap (map_live (child model.child_group place c how)) live)

  at_birth : (place parent_group group : ℕ) → Holds place parent_group → IsBirth model leg nobody place parent_group group → Holds (suc place) group
  at_birth place parent_group group h birth =
      record {
        still = fresh_still model leg lawful sound schedule is_legal place group is_fork.unused is_fork.positive (schedule group) refl;
        still_off = λ t x live member. from t x (descends model leg lawful place group t x live member);
        known = inr (λ none. let born = child_is_live place birth.parent group birth.how birth.life birth.event birth.live in cc);
      }
    where
      is_fork : Forks leg.bounds (after model leg place) birth.parent group
      is_fork = forks leg.bounds (after model leg place) birth.parent group birth.how (accepted-is leg.bounds (after model leg place) (slice_get leg.events place) (fork birth.parent group birth.how) birth.event)

      from : (t : ℕ) (x : Life) → Descends model leg place group t x → IsStillOff x
      from t x (FromMember u y was is same) = absurd (no_member model.child_group leg sound lawful.child place place group u y (omega arith) is_fork.unused is_fork.positive was is)
      from t x (FromParent p how y event was origin own is unused positive) =
          let one : p ≡ birth.parent = ap forker (sym event ∙ birth.event) in
          let same : birth.life ≡ y = live_same birth.life y (after model leg place p) (ap (after model leg place) one ∙ birth.live) was in
          let parent = subst IsStillOff same (h.still_off birth.parent birth.life birth.live birth.member) in
          let still : has_come (schedule y.group) place ≡ false = subst (λ g. has_come (schedule g) place ≡ false) (sym birth.member ∙ ap (λ z. z.group) same) h.still in
          let by_nobody : level_before leg.target nobody x.origin ≡ level_before leg.target nobody y.origin = ap (level_before leg.target nobody) origin ∙ level_still leg.target nobody place y.group y.origin refl in
          let by_schedule : level_before leg.target schedule x.origin ≡ level_before leg.target schedule y.origin = ap (level_before leg.target schedule) origin ∙ level_still leg.target schedule place y.group y.origin still in
          record { alike = by_nobody ∙ (parent.alike ∙ sym by_schedule); off = λ on. parent.off (sym by_nobody ∙ on) }

  holds : (group k : ℕ) → Chain model leg nobody group k → Holds k group
  holds group k (FromOpening g n there refused) = holds_through zero n g (omega arith) (at_opening g there) refused
  holds group k (FromBirth g n parent_group place chain birth lt refused) =
      holds_through (suc place) n g (omega arith) (at_birth place parent_group g (holds parent_group place chain) birth) refused

  pub certified : (k group t : ℕ) (x : Life) → Chain model leg nobody group k → after model leg k t ≡ Live x → x.group ≡ group → IsTrue (waits model leg schedule k group)
  certified k group t x chain live member =
      let h = holds group k chain in
      let x_off = h.still_off t x live member in
      let at = numbered model.child_group leg sound k t x live in
      waits-from model leg schedule k group (record { task = t; life = x; positive = at.0; within = at.1; live = live; member = member; off = λ e. x_off.off (x_off.alike ∙ (sym (level_waiting model leg schedule k group t x h.still member) ∙ e)) })
