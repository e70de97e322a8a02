-- Levels, waiting and admission under a schedule, as facts.
use Rattle.std.proofs.Common.{◌≡◌, ◌≢◌, ℕ, zero, suc, ◌+◌, ◌<◌, ◌≤◌, Bool, true, false, not, ◌&&◌, ◌||◌, All, Option, Some, None, IsTrue, nat_eq, refl, sym, ap, ◌∙◌, subst, ⊎_elim, arith}
use Rattle.std.proofs.lemmas.Bool.{and_parts, and_from, or_left, or_right, or_cases, cases_eq, cases_lt, eqb-true, eqb-false, eq-eqb, ne_eqb, leb-true, leb-false, le-leb, lt-leb, not-true, not_from_false, false_from_ne_true, cond-true, cond-false}
use Rattle.std.proofs.lemmas.List.Elements.{All-weaker}
use Rattle.lp_model.specs.declared.check.CheckKind.{CheckKind}
use Rattle.lp_model.specs.declared.check.ForkKind.{ForkKind}
use Rattle.lp_model.specs.Rules.{Rules, IsLawful}
use Rattle.lp_definitions.specs.Tasks.{Origin, Stood, Forked, Pushed, Kept, Made, Life, Fate, Unused, Live}
use Rattle.lp_definitions.specs.Leg.{Leg, accepted, after, check}
use Rattle.lp_definitions.specs.Schedule.{Schedule, has_come, level_by, level, frame_of, view, waits, admits_each, allowed, complete, IsLegal}
use Rattle.lp_definitions.proofs.Quantifiers.{some_live-from, some_live-is, each_live-at, each_live-from, map_same}
use Rattle.lp_definitions.specs.Sound.{IsSound}
use Rattle.lp_laws.proofs.NextTasks.{IsMadeBefore, Came, Stayed, Born, changed_group, changed_origin, came, numbered, no_member}
use Rattle.lp_definitions.specs.Events.{fork}

-- ---- Levels

-- the level of a task whose group hasn't switched
abbrev pub level_before : ℕ → Schedule → Origin → ℕ
level_before target schedule (Stood l) = l
level_before target schedule (Forked group parent place) = level_by target schedule place group parent

pub level_gone : (target : ℕ) (schedule : Schedule) (k group : ℕ) (o : Origin) → has_come (schedule group) k ≡ true → level_by target schedule k group o ≡ target
unfolding level_by
level_gone target schedule k group (Stood l) e = cond-true _ _ _ e
level_gone target schedule k group (Forked g p j) e = cond-true _ _ _ e

pub level_still : (target : ℕ) (schedule : Schedule) (k group : ℕ) (o : Origin) → has_come (schedule group) k ≡ false → level_by target schedule k group o ≡ level_before target schedule o
unfolding level_by
level_still target schedule k group (Stood l) e = cond-false _ _ _ e
level_still target schedule k group (Forked g p j) e = cond-false _ _ _ e

-- who is off the target has not switched
pub off_still : (target : ℕ) (schedule : Schedule) (k group : ℕ) (o : Origin) → level_by target schedule k group o ≢ target → has_come (schedule group) k ≡ false
off_still target schedule k group o ne = false_from_ne_true _ (λ e. ne (level_gone target schedule k group o e))

-- ---- Moments

pub come_later : (m : Option ℕ) (j k : ℕ) → j ≤ k → has_come m j ≡ true → has_come m k ≡ true
come_later None j k le e = e
come_later (Some i) j k le e = le-leb i k (omega (arith, leb-true i j e))

pub still_before : (m : Option ℕ) (j k : ℕ) → j ≤ k → has_come m k ≡ false → has_come m j ≡ false
still_before m j k le e = false_from_ne_true _ (λ (come : has_come m j ≡ true). let later = come_later m j k le come in cc)

-- a moment that comes between k and k + 1 is k + 1
pub comes_now : (m : Option ℕ) (k : ℕ) → has_come m k ≡ false → has_come m (suc k) ≡ true → m ≡ Some (suc k)
comes_now None k a b = absurd (cc)
comes_now (Some i) k a b = ap Some (omega (arith, leb-false i k a, leb-true i (suc k) b))

pub come_at : (k : ℕ) → has_come (Some k) k ≡ true
come_at k = le-leb k k (omega arith)

pub none_at_zero : (m : Option ℕ) → ((moment : ℕ) → m ≡ Some moment → (k : ℕ) × (moment ≡ suc k)) → has_come m zero ≡ false
none_at_zero None h = refl
none_at_zero (Some i) h = let r = h i refl in lt-leb i zero (omega (arith, r.1))

-- ---- Waiting

-- a live member that is off the target
pub record Waiter (model : Rules) (leg : Leg) (schedule : Schedule) (k group : ℕ) : Type 0 where
  pub task : ℕ
  pub life : Life
  pub positive : 0 < task
  pub within : task ≤ leg.bounds.tasks
  pub live : after model leg k task ≡ Live life
  pub member : life.group ≡ group
  pub off : level leg schedule k life ≢ leg.target

module _ (model : Rules) (leg : Leg) (schedule : Schedule) where
  abbrev is_waiter : ℕ → ℕ → ℕ → Life → Bool
  is_waiter k group t x = nat_eq x.group group && not (nat_eq (level leg schedule k x) leg.target)

  pub waits-is : (k group : ℕ) → IsTrue (waits model leg schedule k group) → Waiter model leg schedule k group
  unfolding waits
  waits-is k group w =
      let p = some_live-is leg.bounds (after model leg k) (is_waiter k group) w in
      let both = and_parts _ _ p.passed in
      record { task = p.task; life = p.life; positive = p.positive; within = p.within; live = p.live; member = eqb-true _ _ both.0; off = eqb-false _ _ (not-true _ both.1) }

  pub waits-from : (k group : ℕ) → Waiter model leg schedule k group → IsTrue (waits model leg schedule k group)
  unfolding waits
  waits-from k group w =
      some_live-from leg.bounds (after model leg k) (is_waiter k group) (record { task = w.task; life = w.life; positive = w.positive; within = w.within; live = w.live; passed = and_from _ _ (eq-eqb _ _ w.member) (not_from_false _ (ne_eqb _ _ w.off)) })

  -- each live member is admitted
  abbrev pub AdmitsEach : CheckKind → ℕ → ℕ → Type 0
  AdmitsEach kind k group = (t : ℕ) (x : Life) → 0 < t → t ≤ leg.bounds.tasks → after model leg k t ≡ Live x → x.group ≡ group → IsTrue (model.admits kind (view leg schedule t x) leg.aim)

  abbrev is_admitted : CheckKind → ℕ → ℕ → Life → Bool
  is_admitted kind group t x = not (nat_eq x.group group) || model.admits kind (view leg schedule t x) leg.aim

  admits_each-is : (o : Option CheckKind) (k group : ℕ) → IsTrue (admits_each model leg schedule o (after model leg k) group) → (kind : CheckKind) × (o ≡ Some kind) × AdmitsEach kind k group
  admits_each-is None k group h = absurd (cc)
  admits_each-is (Some kind) k group h = (
    kind,
    refl,
    λ t x positive within live member.
        ⊎_elim (λ (e : not (nat_eq x.group group) ≡ true). absurd (eqb-false _ _ (not-true _ e) member)) (λ (e : model.admits kind (view leg schedule t x) leg.aim ≡ true). e) (or_cases _ _ (each_live-at leg.bounds (after model leg k) (is_admitted kind group) h t x positive within live)),
  )

  pub allowed-is : (k group : ℕ) → IsTrue (allowed model leg schedule k group) → (kind : CheckKind) × (check model leg k group ≡ Some kind) × AdmitsEach kind (suc k) group
  unfolding allowed
  allowed-is k group h = admits_each-is (check model leg k group) (suc k) group h

  pub allowed-from : (k group : ℕ) (kind : CheckKind) → check model leg k group ≡ Some kind → AdmitsEach kind (suc k) group → IsTrue (allowed model leg schedule k group)
  unfolding allowed
  allowed-from k group kind e h =
      subst (λ o. IsTrue (admits_each model leg schedule o (after model leg (suc k)) group)) (sym e) (each_live-from leg.bounds (after model leg (suc k)) (is_admitted kind group) (λ t x positive within live.
      ⊎_elim (λ (is : x.group ≡ group). or_right (not (nat_eq x.group group)) _ (h t x positive within live is)) (λ (ne : x.group ≡ group → ⊥). or_left _ _ (not_from_false _ (ne_eqb _ _ ne))) (cases_eq x.group group)))

  pub complete-is : (k : ℕ) → IsTrue (complete model leg schedule k) → (t : ℕ) (x : Life) → 0 < t → t ≤ leg.bounds.tasks → after model leg k t ≡ Live x → level leg schedule k x ≡ leg.target
  unfolding complete
  complete-is k h t x positive within live = eqb-true _ _ (each_live-at leg.bounds (after model leg k) (λ t x. nat_eq (level leg schedule k x) leg.target) h t x positive within live)

  pub complete-from : (k : ℕ) → ((t : ℕ) (x : Life) → 0 < t → t ≤ leg.bounds.tasks → after model leg k t ≡ Live x → level leg schedule k x ≡ leg.target) → IsTrue (complete model leg schedule k)
  unfolding complete
  complete-from k h = each_live-from leg.bounds (after model leg k) (λ t x. nat_eq (level leg schedule k x) leg.target) (λ t x positive within live. eq-eqb _ _ (h t x positive within live))

-- ---- Views

-- frames are alike under two schedules where the task's group has switched under neither, and its level before is one
pub view_same : (leg : Leg) (s r : Schedule) (k t : ℕ) (x : Life) → All (IsMadeBefore (suc k)) x.calls → has_come (s x.group) k ≡ false → has_come (r x.group) k ≡ false → level_before leg.target s x.origin ≡ level_before leg.target r x.origin → view leg s t x ≡ view leg r t x
view_same leg s r k t x made s_still r_still same =
    ap (λ frames. record { task = t; class = x.class; mode = x.mode; frames = frames }) (map_same (frame_of leg s x) (frame_of leg r x) x.calls (All-weaker (IsMadeBefore (suc k)) (λ call. frame_of leg s x call ≡ frame_of leg r x call) each x.calls made))
  where
    each : (call : Pushed) → IsMadeBefore (suc k) call → frame_of leg s x call ≡ frame_of leg r x call
    each (Kept frame) h = refl
    each (Made func place) h =
        ap (λ l. record { func = func; level = record { 0 = l }; serial = leg.number + suc place }) (level_still leg.target s place x.group x.origin (still_before (s x.group) place k (omega arith) s_still) ∙ (same ∙ sym (level_still leg.target r place x.group x.origin (still_before (r x.group) place k (omega arith) r_still))))

-- ---- Where a member comes from

pub live_same : {A : Type 0} (x y : A) (f : Fate A) → f ≡ Live x → f ≡ Live y → x ≡ y
live_same x y f a b = cc

-- a member just after an event had a member of its group before it, on the same level before the group switches;
-- or it is a child that was just forked into a group of its own
pub data Descends (model : Rules) (leg : Leg) (k group t : ℕ) (x : Life) : Type 0 where
  FromMember : (u : ℕ) (y : Life) → after model leg k u ≡ Live y → y.group ≡ group → ((s : Schedule) → has_come (s group) k ≡ false → level_before leg.target s x.origin ≡ level_before leg.target s y.origin) → Descends model leg k group t x
  FromParent : (p : ℕ) (how : ForkKind) (y : Life) → accepted model leg k ≡ Some (fork p t how) → after model leg k p ≡ Live y → x.origin ≡ Forked y.group y.origin k → model.child_group y.group t how ≡ t → t ≡ group → after model leg k t ≡ Unused → 0 < t → Descends model leg k group t x

module _ (model : Rules) (leg : Leg) (lawful : IsLawful model) where
  descends_from : (k group t : ℕ) (x : Life) → x.group ≡ group → Came model.child_group leg.bounds k (after model leg k) (accepted model leg k) t x → Descends model leg k group t x
  descends_from k group t x member (Stayed y c was is) =
      FromMember t y was (sym (ap (λ z. z.group) is ∙ changed_group k c y) ∙ member) (λ s still. ap (level_before leg.target s) (ap (λ z. z.origin) is ∙ changed_origin k c y))
  descends_from k group t x member (Born p how y event was unused positive within is) =
      let from : group ≡ model.child_group y.group t how = sym member ∙ ap (λ z. z.group) is in
      ⊎_elim
      (λ (e : model.child_group y.group t how ≡ y.group).
      let same : y.group ≡ group = sym (from ∙ e) in
      FromMember p y was same (λ s still. ap (λ z. level_before leg.target s z.origin) is ∙ level_still leg.target s k y.group y.origin (subst (λ g. has_come (s g) k ≡ false) (sym same) still)))
      (λ (e : model.child_group y.group t how ≡ t). FromParent p how y event was (ap (λ z. z.origin) is) e (sym (from ∙ e)) unused positive)
      (lawful.child y.group t how)

  pub descends : (k group t : ℕ) (x : Life) → after model leg (suc k) t ≡ Live x → x.group ≡ group → Descends model leg k group t x
  descends k group t x live member = descends_from k group t x member (came model.child_group leg k t x live)

  -- a child in a group of its own is the group's only live member
  pub only_child : (sound : IsSound leg.opening) (k c : ℕ) (x : Life) → after model leg k c ≡ Unused → 0 < c → after model leg (suc k) c ≡ Live x → (t : ℕ) (z : Life) → after model leg (suc k) t ≡ Live z → z.group ≡ c → x ≡ z
  only_child sound k c x unused positive now t z live member = from (descends k c t z live member)
    where
      from : Descends model leg k c t z → x ≡ z
      from (FromMember u y was is same) = absurd (no_member model.child_group leg sound lawful.child k k c u y (omega arith) unused positive was is)
      from (FromParent p how y event was origin own is none ok) = live_same x z (after model leg (suc k) c) now (ap (after model leg (suc k)) (sym is) ∙ live)

-- ---- Who waited before

-- a group that waits after an event waited before it, or it is a child's own group and the parent's group waited
pub data Waited (model : Rules) (leg : Leg) (schedule : Schedule) (k group t : ℕ) (x : Life) : Type 0 where
  InGroup : Waiter model leg schedule k group → Waited model leg schedule k group t x
  InParent : (g : ℕ) (how : ForkKind) (w : Waiter model leg schedule k g) → accepted model leg k ≡ Some (fork w.task t how) → x.origin ≡ Forked g w.life.origin k → model.child_group g t how ≡ t → t ≡ group → after model leg k t ≡ Unused → 0 < t → Waited model leg schedule k group t x

module _ (model : Rules) (leg : Leg) (schedule : Schedule) where
  pub not_gone : (k group : ℕ) → Waiter model leg schedule k group → has_come (schedule group) k ≡ false
  not_gone k group w = subst (λ g. has_come (schedule g) k ≡ false) w.member (off_still leg.target schedule k w.life.group w.life.origin w.off)

  -- the level of a member of a waiting group
  pub level_waiting : (k group t : ℕ) (x : Life) → has_come (schedule group) k ≡ false → x.group ≡ group → level leg schedule k x ≡ level_before leg.target schedule x.origin
  level_waiting k group t x still member = level_still leg.target schedule k x.group x.origin (subst (λ g. has_come (schedule g) k ≡ false) (sym member) still)

module _ (model : Rules) (leg : Leg) (lawful : IsLawful model) (sound : IsSound leg.opening) (schedule : Schedule) where
  waited_from : (k group : ℕ) (w : Waiter model leg schedule (suc k) group) → Descends model leg k group w.task w.life → Waited model leg schedule k group w.task w.life
  waited_from k group w (FromMember u y was is same) =
      let still = not_gone model leg schedule (suc k) group w in
      let still_before_it = still_before (schedule group) k (suc k) (omega arith) still in
      let at = numbered model.child_group leg sound k u y was in
      InGroup (record {
        task = u;
        life = y;
        positive = at.0;
        within = at.1;
        live = was;
        member = is;
        off = λ e. w.off (level_waiting model leg schedule (suc k) group w.task w.life still w.member ∙ (same schedule still_before_it ∙ (sym (level_waiting model leg schedule k group u y still_before_it is) ∙ e)));
      })
  waited_from k group w (FromParent p how y event was origin own is unused positive) =
      let at = numbered model.child_group leg sound k p y was in
      InParent y.group how (record {
        task = p;
        life = y;
        positive = at.0;
        within = at.1;
        live = was;
        member = refl;
        off = λ e. w.off (level_waiting model leg schedule (suc k) group w.task w.life (not_gone model leg schedule (suc k) group w) w.member ∙ (ap (level_before leg.target schedule) origin ∙ e));
      }) event origin own is unused positive

  pub waited : (k group : ℕ) (w : Waiter model leg schedule (suc k) group) → Waited model leg schedule k group w.task w.life
  waited k group w = waited_from k group w (descends model leg lawful k group w.task w.life w.live w.member)

  -- no legal schedule switches a group before it has a member
  pub fresh_still : IsLegal model leg schedule → (k t : ℕ) → after model leg k t ≡ Unused → 0 < t → (m : Option ℕ) → schedule t ≡ m → has_come m (suc k) ≡ false
  fresh_still is_legal k t unused positive None e = refl
  fresh_still is_legal k t unused positive (Some i) e =
      let r = is_legal t i e in
      let w = waits-is model leg schedule r.0 t r.2 in
      ⊎_elim (λ (late : k < r.0). lt-leb i (suc k) (omega (arith, r.1))) (λ (early : r.0 ≤ k). absurd (no_member model.child_group leg sound lawful.child r.0 k t w.task w.life early unused positive w.live w.member)) (cases_lt k r.0)

  -- a leg that is complete stays complete
  complete_next : (k : ℕ) → IsTrue (complete model leg schedule k) → IsTrue (complete model leg schedule (suc k))
  complete_next k done =
      complete-from model leg schedule (suc k) (λ t x positive within live.
      ⊎_elim (λ (on : level leg schedule (suc k) x ≡ leg.target). on) (λ (off : level leg schedule (suc k) x ≡ leg.target → ⊥).
      absurd (none_waited t x (waited k x.group (record { task = t; life = x; positive = positive; within = within; live = live; member = refl; off = off })))) (cases_eq (level leg schedule (suc k) x) leg.target))
    where
      none_waits : (group : ℕ) → Waiter model leg schedule k group → ⊥
      none_waits group w = w.off (complete-is model leg schedule k done w.task w.life w.positive w.within w.live)

      none_waited : (t : ℕ) (x : Life) → Waited model leg schedule k x.group t x → ⊥
      none_waited t x (InGroup w) = none_waits x.group w
      none_waited t x (InParent g how w event origin own is unused positive) = none_waits g w

  pub complete_later : (j k : ℕ) → j ≤ k → IsTrue (complete model leg schedule j) → IsTrue (complete model leg schedule k)
  complete_later j zero le done = let same : j ≡ zero = omega arith in subst (λ n. IsTrue (complete model leg schedule n)) same done
  complete_later j (suc k) le done =
      ⊎_elim (λ (same : j ≡ suc k). subst (λ n. IsTrue (complete model leg schedule n)) same done) (λ (ne : j ≡ suc k → ⊥). complete_next k (complete_later j k (omega (arith, ne)) done)) (cases_eq j (suc k))
