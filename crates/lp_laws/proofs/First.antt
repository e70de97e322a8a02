-- The computed schedule is the first-check schedule.
use Rattle.std.proofs.Common.{◌≡◌, ℕ, zero, suc, ◌+◌, ◌<◌, ◌≤◌, Bool, true, false, ◌&&◌, length, All, Some, None, IsTrue, if◌then◌else◌, refl, sym, ap, ap₂, ◌∙◌, subst, ⊎_elim, arith}
use Rattle.std.proofs.lemmas.Bool.{cases_Bool, and_parts, and_from, lt-leb, le-leb, false_from_ne_true, cases_lt, cases_eq, cond-true, cond-false}
use Rattle.std.proofs.lemmas.List.Elements.{All-weaker}
use Rattle.std.proofs.lemmas.Option.{slice_get_past}
use Rattle.lp_model.specs.Rules.{Rules}
use Rattle.lp_definitions.specs.Tasks.{Origin, Stood, Forked, Pushed, Kept, Made, Life, outlines}
use Rattle.lp_definitions.specs.Leg.{Leg, accept, after, check_by, if_used, check}
use Rattle.lp_definitions.specs.Schedule.{Schedule, has_come, level_by, frame_of, view, waits, allowed, IsFirstCheck, first_checks, first_check}
use Rattle.lp_definitions.proofs.Quantifiers.{map_same}
use Rattle.lp_laws.proofs.NextTasks.{IsMadeBefore, IsFrom, from_later, come_from, made_before}
use Rattle.lp_laws.proofs.Waiting.{still_before, waits-is, waits-from, allowed-is, allowed-from, not_gone}

-- two schedules that are one as far as k
unfoldable pub Agree : ℕ → Schedule → Schedule → Type 0
Agree k s r = (group j : ℕ) → j ≤ k → has_come (s group) j ≡ has_come (r group) j

pub agree_back : (k : ℕ) (s r : Schedule) → Agree k s r → Agree k r s
unfolding Agree
agree_back k s r h group j le = sym (h group j le)

agree_less : (j k : ℕ) (s r : Schedule) → j ≤ k → Agree k s r → Agree j s r
unfolding Agree
agree_less j k s r le h group i small = h group i (omega arith)

-- levels as far as k rest on the moments as far as k
pub level_agrees : (target k j group : ℕ) (s r : Schedule) → Agree k s r → j ≤ k → (o : Origin) → IsFrom (suc k) o → level_by target s j group o ≡ level_by target r j group o
unfolding Agree level_by
level_agrees target k j group s r h le (Stood l) from = ap (λ b. if b then target else l) (h group j le)
level_agrees target k j group s r h le (Forked g p i) from =
    ap₂ (λ b l. if b then target else l) (h group j le) (level_agrees target k i g s r h (omega (arith, from.0)) p (from_later i (suc k) (omega (arith, from.0)) p from.1))

pub view_agrees : (leg : Leg) (k t : ℕ) (s r : Schedule) (x : Life) → Agree k s r → IsFrom (suc k) x.origin → All (IsMadeBefore (suc k)) x.calls → view leg s t x ≡ view leg r t x
view_agrees leg k t s r x h from made =
    ap (λ frames. record { task = t; class = x.class; mode = x.mode; frames = frames }) (map_same (frame_of leg s x) (frame_of leg r x) x.calls (All-weaker (IsMadeBefore (suc k)) (λ call. frame_of leg s x call ≡ frame_of leg r x call) each x.calls made))
  where
    each : (call : Pushed) → IsMadeBefore (suc k) call → frame_of leg s x call ≡ frame_of leg r x call
    each (Kept frame) m = refl
    each (Made func place) m =
        ap (λ l. record { func = func; level = record { 0 = l }; serial = leg.number + suc place }) (level_agrees leg.target k place x.group s r h (omega arith) x.origin from)

module _ (model : Rules) (leg : Leg) where
  pub waits_agrees : (k group : ℕ) (s r : Schedule) → Agree k s r → IsTrue (waits model leg s k group) → IsTrue (waits model leg r k group)
  waits_agrees k group s r h e =
      let w = waits-is model leg s k group e in
      let from = from_later k (suc k) (omega arith) w.life.origin (come_from model.child_group leg k w.task w.life w.live) in
      let one = level_agrees leg.target k k w.life.group s r h (omega arith) w.life.origin from in
      waits-from model leg r k group (record { task = w.task; life = w.life; positive = w.positive; within = w.within; live = w.live; member = w.member; off = λ on. w.off (one ∙ on) })

  allowed_agrees : (k group : ℕ) (s r : Schedule) → Agree k s r → IsTrue (allowed model leg s k group) → IsTrue (allowed model leg r k group)
  allowed_agrees k group s r h e =
      let b = allowed-is model leg s k group e in
      allowed-from model leg r k group b.0 b.1 (λ t x positive within live member.
      subst (λ v. IsTrue (model.admits b.0 v leg.aim)) (view_agrees leg k t s r x h (come_from model.child_group leg (suc k) t x live) (made_before model.child_group leg (suc k) t x live)) (b.2 t x positive within live member))

  abbrev pub so_far : ℕ → Schedule
  so_far n = first_checks model leg n

  abbrev pub switches : ℕ → ℕ → Bool
  switches n group = waits model leg (so_far n) n group && allowed model leg (so_far n) n group

  pub switches_now : (n group : ℕ) → switches n group ≡ true → so_far (suc n) group ≡ Some (suc n)
  unfolding first_checks
  switches_now n group e = cond-true _ _ _ e

  pub switches_not : (n group : ℕ) → switches n group ≡ false → so_far (suc n) group ≡ so_far n group
  unfolding first_checks
  switches_not n group e = cond-false _ _ _ e

  pub agree_next : (n : ℕ) → Agree n (so_far n) (so_far (suc n))
  unfolding Agree
  agree_next n group j le =
      ⊎_elim
      (λ (e : switches n group ≡ true).
      let w = waits-is model leg (so_far n) n group (and_parts _ _ e).0 in
      still_before (so_far n group) j n le (not_gone model leg (so_far n) n group w) ∙ sym (ap (λ m. has_come m j) (switches_now n group e) ∙ lt-leb (suc n) j (omega arith)))
      (λ (e : switches n group ≡ false). ap (λ m. has_come m j) (sym (switches_not n group e)))
      (cases_Bool (switches n group))

  -- a moment of the schedule so far
  pub record HasSwitched (n group moment : ℕ) : Type 0 where
    pub place : ℕ
    pub is : moment ≡ suc place
    pub early : place < n
    pub waited : IsTrue (waits model leg (so_far n) place group)
    pub was_allowed : IsTrue (allowed model leg (so_far n) place group)

  has_switched_on : (n group moment : ℕ) → HasSwitched n group moment → HasSwitched (suc n) group moment
  has_switched_on n group moment h =
      let agree = agree_less h.place n (so_far n) (so_far (suc n)) (omega (arith, h.early)) (agree_next n) in
      record { place = h.place; is = h.is; early = omega (arith, h.early); waited = waits_agrees h.place group _ _ agree h.waited; was_allowed = allowed_agrees h.place group _ _ agree h.was_allowed }

  none_at_first : (group moment : ℕ) → so_far zero group ≡ Some moment → ⊥
  unfolding first_checks
  none_at_first group moment e = cc

  pub has_switched : (n group moment : ℕ) → so_far n group ≡ Some moment → HasSwitched n group moment
  has_switched zero group moment e = absurd (none_at_first group moment e)
  has_switched (suc n) group moment e =
      ⊎_elim
      (λ (now : switches n group ≡ true).
      let both = and_parts _ _ now in
      let same : Some moment ≡ Some (suc n) = sym e ∙ switches_now n group now in
      record { place = n; is = cc; early = omega arith; waited = waits_agrees n group _ _ (agree_next n) both.0; was_allowed = allowed_agrees n group _ _ (agree_next n) both.1 })
      (λ (not_now : switches n group ≡ false). has_switched_on n group moment (has_switched n group moment (sym (switches_not n group not_now) ∙ e)))
      (cases_Bool (switches n group))

  -- who waits just before an event that allows it switches in it
  first_so_far : (n k group : ℕ) → k < n → IsTrue (waits model leg (so_far n) k group) → IsTrue (allowed model leg (so_far n) k group) → so_far n group ≡ Some (suc k)
  first_so_far zero k group lt w a = absurd (omega arith)
  first_so_far (suc n) k group lt w a =
      let agree = agree_back k (so_far n) (so_far (suc n)) (agree_less k n (so_far n) (so_far (suc n)) (omega arith) (agree_next n)) in
      let w_before = waits_agrees k group (so_far (suc n)) (so_far n) agree w in
      let a_before = allowed_agrees k group (so_far (suc n)) (so_far n) agree a in
      ⊎_elim
      (λ (e : k ≡ n). switches_now n group (subst (λ i. switches_if i n group ≡ true) e (and_from _ _ w_before a_before)) ∙ ap (λ i. Some (suc i)) (sym e))
      (λ (ne : k ≡ n → ⊥).
      let gone = first_so_far n k group (omega (arith, ne)) w_before a_before in
      switches_not n group (false_from_ne_true _ (λ e.
      let v = not_gone model leg (so_far n) n group (waits-is model leg (so_far n) n group (and_parts _ _ e).0) in
      let come : has_come (so_far n group) n ≡ true = ap (λ m. has_come m n) gone ∙ le-leb (suc k) n (omega (arith, ne)) in
      cc)) ∙ gone)
      (cases_eq k n)
    where
      switches_if : ℕ → ℕ → ℕ → Bool
      switches_if i n group = waits model leg (so_far n) i group && allowed model leg (so_far n) i group

  no_check : (k group : ℕ) → length leg.events ≤ k → check model leg k group ≡ None
  unfolding check
  no_check k group past = ap (λ o. if_used model.uses (check_by leg.bounds (outlines (after model leg (suc k))) (accept leg.bounds (after model leg k) o) group)) (slice_get_past leg.events k past)

  pub first_check_is : IsFirstCheck model leg (first_check model leg)
  first_check_is =
      record {
        legal = λ group moment e. let m = has_switched (length leg.events) group moment e in (m.place, m.is, m.waited, m.was_allowed);
        first = λ k group w a. ⊎_elim (λ (lt : k < length leg.events). first_so_far (length leg.events) k group lt w a) (λ (past : length leg.events ≤ k). let b = allowed-is model leg (first_check model leg) k group a in absurd (cc (b.1, no_check k group past))) (cases_lt k (length leg.events));
      }
