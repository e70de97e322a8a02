-- No legal schedule switches a group, or completes the leg, before the first-check schedule does.
use Rattle.std.proofs.Common.{◌≡◌, ℕ, zero, suc, true, false, Option, Some, None, IsTrue, refl, sym, ap, ◌∙◌, subst, ⊎_elim, arith}
use Rattle.std.proofs.lemmas.Bool.{false_from_ne_true, cases_eq}
use Rattle.std.proofs.lemmas.List.Elements.{All-weaker}
use Rattle.lp_model.specs.Rules.{Rules, IsLawful}
use Rattle.lp_definitions.specs.Tasks.{Forked, Life, Live}
use Rattle.lp_definitions.specs.Leg.{Leg, after}
use Rattle.lp_definitions.specs.Schedule.{Schedule, has_come, level, view, waits, allowed, complete, IsLegal, IsFirstCheck}
use Rattle.lp_definitions.specs.Sound.{IsSound}
use Rattle.lp_laws.proofs.NextTasks.{IsMadeBefore, made_later, opens, made_before, no_member}
use Rattle.lp_laws.proofs.Waiting.{level_before, level_still, comes_now, come_at, none_at_zero, Waiter, waits-is, waits-from, allowed-is, allowed-from, complete-is, complete-from, view_same, Descends, FromMember, FromParent, descends, only_child, Waited, InGroup, InParent, not_gone, level_waiting, waited, fresh_still}

module _ (model : Rules) (leg : Leg) (lawful : IsLawful model) (sound : IsSound leg.opening) (first other : Schedule) (is_first : IsFirstCheck model leg first) (is_legal : IsLegal model leg other) where
  -- a task was on one level under both schedules, as long as its group hasn't switched
  abbrev Alike : Life → Type 0
  Alike x = level_before leg.target first x.origin ≡ level_before leg.target other x.origin

  -- after k events the group hasn't switched under the other schedule, and its members are alike
  record Follows (k group : ℕ) : Type 0 where
    still : has_come (other group) k ≡ false
    alike : (t : ℕ) (x : Life) → after model leg k t ≡ Live x → x.group ≡ group → Alike x

  -- a member just after an event, of a group that waits before it
  alike_next : (k group : ℕ) → Waiter model leg first k group → Follows k group → (t : ℕ) (x : Life) → after model leg (suc k) t ≡ Live x → x.group ≡ group → Alike x
  alike_next k group w h t x live member = from (descends model leg lawful k group t x live member)
    where
      from : Descends model leg k group t x → Alike x
      from (FromMember u y was is same) = same first (not_gone model leg first k group w) ∙ (h.alike u y was is ∙ sym (same other h.still))
      from (FromParent p how y event was origin own is unused positive) = absurd (no_member model.child_group leg sound lawful.child k k t w.task w.life (omega arith) unused positive w.live (w.member ∙ sym is))

  view_next : (k group : ℕ) → Waiter model leg first k group → Follows k group → (t : ℕ) (x : Life) → after model leg (suc k) t ≡ Live x → x.group ≡ group → view leg first t x ≡ view leg other t x
  view_next k group w h t x live member =
      view_same leg first other k t x (made_before model.child_group leg (suc k) t x live) (subst (λ g. has_come (first g) k ≡ false) (sym member) (not_gone model leg first k group w)) (subst (λ g. has_come (other g) k ≡ false) (sym member) h.still) (alike_next k group w h t x live member)

  group_next : (k group : ℕ) → Waiter model leg first k group → has_come (first group) (suc k) ≡ false → Follows k group → Follows (suc k) group
  group_next k group w stays h = record { still = false_from_ne_true _ contradiction; alike = alike_next k group w h }
    where
      allowed_first : (j : ℕ) → suc k ≡ suc j → IsTrue (allowed model leg other j group) → IsTrue (allowed model leg first k group)
      allowed_first j e a =
          let same : j ≡ k = omega arith in
          let b = allowed-is model leg other k group (subst (λ n. IsTrue (allowed model leg other n group)) same a) in
          allowed-from model leg first k group b.0 b.1 (λ t x positive within live member. subst (λ v. IsTrue (model.admits b.0 v leg.aim)) (sym (view_next k group w h t x live member)) (b.2 t x positive within live member))

      -- were this the other schedule's moment, the first check would have switched the group
      contradiction : has_come (other group) (suc k) ≡ true → ⊥
      contradiction come =
          let r = is_legal group (suc k) (comes_now (other group) k h.still come) in
          let switched_then = is_first.first k group (waits-from model leg first k group w) (allowed_first r.0 r.1 r.3) in
          let gone = ap (λ m. has_come m (suc k)) switched_then ∙ come_at (suc k) in
          absurd (cc (stays, gone))

  follow_next : (k group : ℕ) (w : Waiter model leg first (suc k) group) → ((g : ℕ) → Waiter model leg first k g → Follows k g) → Waited model leg first k group w.task w.life → Follows (suc k) group
  follow_next k group w before (InGroup v) = group_next k group v (not_gone model leg first (suc k) group w) (before group v)
  follow_next k group w before (InParent g how v event origin own is unused positive) =
      let h = before g v in
      let alike : Alike w.life = ap (level_before leg.target first) origin ∙ (level_parent first (not_gone model leg first k g v) ∙ (h.alike v.task v.life v.live v.member ∙ (sym (level_parent other h.still) ∙ sym (ap (level_before leg.target other) origin)))) in
      subst (Follows (suc k)) is (record {
        still = fresh_still model leg lawful sound other is_legal k w.task unused positive (other w.task) refl;
        alike = λ t x live member. subst Alike (only_child model leg lawful sound k w.task w.life unused positive w.live t x live member) alike;
      })
    where
      level_parent : (s : Schedule) → has_come (s g) k ≡ false → level_before leg.target s (Forked g v.life.origin k) ≡ level_before leg.target s v.life.origin
      level_parent s still = level_still leg.target s k g v.life.origin still

  follow : (k group : ℕ) → Waiter model leg first k group → Follows k group
  follow zero group w =
      record {
        still = none_at_zero (other group) (λ i e. let r = is_legal group i e in (r.0, r.1));
        alike = λ t x live member. let y = opens model.child_group leg t x live in subst Alike (sym y.2) refl;
      }
  follow (suc k) group w = follow_next k group w (λ g v. follow k g v) (waited model leg lawful sound first k group w)

  -- ---- What follows for a group that waits

  module _ (k group : ℕ) (e : IsTrue (waits model leg first k group)) where
    waiter : Waiter model leg first k group
    waiter = waits-is model leg first k group e

    pub levels_alike : (t : ℕ) (x : Life) → after model leg k t ≡ Live x → x.group ≡ group → level leg first k x ≡ level leg other k x
    levels_alike t x live member =
        let h = follow k group waiter in
        level_waiting model leg first k group t x (not_gone model leg first k group waiter) member ∙ (h.alike t x live member ∙ sym (level_waiting model leg other k group t x h.still member))

    pub waits_too : IsTrue (waits model leg other k group)
    waits_too =
        let w = waiter in
        waits-from model leg other k group (record { task = w.task; life = w.life; positive = w.positive; within = w.within; live = w.live; member = w.member; off = λ on. w.off (levels_alike w.task w.life w.live w.member ∙ on) })

    pub views_alike : (t : ℕ) (x : Life) → after model leg k t ≡ Live x → x.group ≡ group → view leg first t x ≡ view leg other t x
    views_alike t x live member =
        let h = follow k group waiter in
        let made = All-weaker (IsMadeBefore k) (IsMadeBefore (suc k)) (made_later k (suc k) (omega arith)) x.calls (made_before model.child_group leg k t x live) in
        view_same leg first other k t x made (subst (λ g. has_come (first g) k ≡ false) (sym member) (not_gone model leg first k group waiter)) (subst (λ g. has_come (other g) k ≡ false) (sym member) h.still) (h.alike t x live member)

    -- where it is allowed, it is allowed under the other schedule too
    pub allowed_too : IsTrue (allowed model leg first k group) → IsTrue (allowed model leg other k group)
    allowed_too a =
        let b = allowed-is model leg first k group a in
        allowed-from model leg other k group b.0 b.1 (λ t x positive within live member. subst (λ v. IsTrue (model.admits b.0 v leg.aim)) (view_next k group waiter (follow k group waiter) t x live member) (b.2 t x positive within live member))

    -- and the other way round
    pub allowed_back : IsTrue (allowed model leg other k group) → IsTrue (allowed model leg first k group)
    allowed_back a =
        let b = allowed-is model leg other k group a in
        allowed-from model leg first k group b.0 b.1 (λ t x positive within live member. subst (λ v. IsTrue (model.admits b.0 v leg.aim)) (sym (view_next k group waiter (follow k group waiter) t x live member)) (b.2 t x positive within live member))

  -- who has completed the leg completes it under the first-check schedule too
  pub completes_too : (k : ℕ) → IsTrue (complete model leg other k) → IsTrue (complete model leg first k)
  completes_too k done =
      complete-from model leg first k (λ t x positive within live.
      ⊎_elim (λ (on : level leg first k x ≡ leg.target). on) (λ (off : level leg first k x ≡ leg.target → ⊥).
      let e = waits-from model leg first k x.group (record { task = t; life = x; positive = positive; within = within; live = live; member = refl; off = off }) in
      levels_alike k x.group e t x live refl ∙ complete-is model leg other k done t x positive within live) (cases_eq (level leg first k x) leg.target))

-- ---- A leg has one first-check schedule at most

one_answer : (a b : Option ℕ) → ((m : ℕ) → a ≡ Some m → b ≡ Some m) → ((m : ℕ) → b ≡ Some m → a ≡ Some m) → a ≡ b
one_answer (Some m) b f g = sym (f m refl)
one_answer None (Some m) f g = g m refl
one_answer None None f g = refl

module _ (model : Rules) (leg : Leg) (lawful : IsLawful model) (sound : IsSound leg.opening) where
  moves_too : (s r : Schedule) → IsFirstCheck model leg s → IsFirstCheck model leg r → (group moment : ℕ) → s group ≡ Some moment → r group ≡ Some moment
  moves_too s r is_s is_r group moment e =
      let l = is_s.legal group moment e in
      is_r.first l.0 group (waits_too model leg lawful sound s r is_s is_r.legal l.0 group l.2) (allowed_too model leg lawful sound s r is_s is_r.legal l.0 group l.2 l.3) ∙ ap Some (sym l.1)

  pub one_first_check : (s r : Schedule) → IsFirstCheck model leg s → IsFirstCheck model leg r → (group : ℕ) → s group ≡ r group
  one_first_check s r is_s is_r group = one_answer (s group) (r group) (moves_too s r is_s is_r group) (moves_too r s is_r is_s group)
