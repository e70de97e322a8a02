-- The machine under `hybrid`, where each task is a group of its own.
use Rattle.std.proofs.Common.{◌≡◌, ℕ, ◌<◌, ◌≤◌, Bool, true, false, not, ◌&&◌, ◌||◌, List, ◌∷◌, ◌++◌, Option, Some, None, if◌then◌else◌, nat_eq, nat_lt, refl, sym, ap, ap₂, ◌∙◌, subst, arith}
use Rattle.std.proofs.lemmas.Bool.{eq-eqb, eqb-true, eqb-false, ltb-false, and_parts, or_parts}
use Rattle.lp_stack.specs.declared.view.Mode.TheVariants.{User, Kernel, Asleep}
use Rattle.lp_stack.specs.declared.view.Class.TheVariants.{Normal, Idle}
use Rattle.lp_stack.specs.declared.number.TaskId.{TaskId}
use Rattle.lp_model.specs.declared.check.CheckKind.{CheckKind}
use Rattle.lp_model.specs.declared.check.CheckKind.TheVariants.{KernelExit, IdlePoint, Resched, Walk, Stop}
use Rattle.lp_model.specs.declared.check.ForkKind.{ForkKind}
use Rattle.lp_model.specs.Rules.{Rules}
use Rattle.lp_model.specs.Row.{rules_of}
use Rattle.lp_models.specs.Models.{hybrid}
use Rattle.lp_definitions.specs.declared.event.Event.{Event}
use Rattle.lp_definitions.specs.declared.event.Event.TheVariants.{Call, Ret, Sleep, Wake, Enter, Exit, Idle, Resched, Fork, Die, Walk, Stop, Enable, Disable, Reverse}
use Rattle.lp_definitions.specs.declared.refusal.Refusal.{Refusal}
use Rattle.lp_definitions.specs.declared.refusal.Refusal.TheVariants.{TaskRange}
use Rattle.lp_definitions.specs.Tasks.{Fate, Unused, Live, Dead, on_live, map_live, first_of, Outline, Outlines, Bounds, tests, unknown_task, out_of_range, used, not_of, not_in}
use Rattle.lp_definitions.specs.Leg.{LegTask, State, each_live, some_live, has_member, is_alone, when, check_by, if_used}
use Rattle.lp_machine.specs.Machine.{LegTasks, outline_of, outlines_of, view_of, put_in, calling, returning, bearing, own_effect, waits_in, admits_all, switches_at}
use Rattle.lp_definitions.proofs.Quantifiers.{some_live-from, some_live-is, each_live-at, each_live-from}
use Rattle.lp_laws.proofs.NextTasks.{none_first, unfit}

-- the model
abbrev pub h : Rules
h = rules_of hybrid

pub same_bool : (a b : Bool) → (a ≡ true → b ≡ true) → (b ≡ true → a ≡ true) → a ≡ b
same_bool true b f g = sym (f refl)
same_bool false true f g = g refl
same_bool false false f g = refl

-- ---- What each live task keeps

-- a task with a number in range, which is its group's, on a level of a kind
pub record Fit (n : ℕ) (R : ℕ → Type 0) (t : ℕ) (x : LegTask) : Type 0 where
  pub positive : 0 < t
  pub within : t ≤ n
  pub own : x.group ≡ t
  pub level : R x.level

abbrev pub Fits : ℕ → (ℕ → Type 0) → LegTasks → Type 0
Fits n R tasks = (t : ℕ) (x : LegTask) → tasks t ≡ Live x → Fit n R t x

-- what a fork's tests say
pub fork_range : (bounds : Bounds) (seen : Outlines) (p c : ℕ) (rest : List (Option Refusal)) → first_of (unknown_task seen p ∷ out_of_range bounds c ∷ rest) ≡ None → (0 < c) × (c ≤ bounds.tasks)
fork_range bounds seen p c rest e =
    let a = none_first (unknown_task seen p) (out_of_range bounds c ∷ rest) e in
    let b = none_first (out_of_range bounds c) rest a.1 in
    let range = or_parts (nat_eq c 0) (nat_lt bounds.tasks c) (unfit (nat_eq c 0 || nat_lt bounds.tasks c) TaskRange b.0) in
    let ne = eqb-false c 0 range.0 in
    (omega (arith, ne), ltb-false bounds.tasks c range.1)

module _ (n : ℕ) (R : ℕ → Type 0) (tasks : LegTasks) (fits : Fits n R tasks) where
  -- a task is changed, but not its group and level
  changed_fits : (f : LegTask → LegTask) → ((x : LegTask) → (f x).group ≡ x.group) → ((x : LegTask) → (f x).level ≡ x.level) → (t : ℕ) (x : LegTask) (b : Bool) (fate : Fate LegTask) → tasks t ≡ fate → (if b then map_live f fate else fate) ≡ Live x → Fit n R t x
  changed_fits f groups levels t x true Unused e h = absurd (cc)
  changed_fits f groups levels t x true (Live y) e h =
      let was = fits t y e in
      let is : f y ≡ x = cc in
      record {
        positive = was.positive;
        within = was.within;
        own = ap (λ z. z.group) (sym is) ∙ (groups y ∙ was.own);
        level = subst (λ z. R z.level) is (subst R (sym (levels y)) was.level);
      }
  changed_fits f groups levels t x true Dead e h = absurd (cc)
  changed_fits f groups levels t x false fate e h = fits t x (e ∙ h)

  born_fits : (p c : ℕ) (how : ForkKind) → (0 < c) × (c ≤ n) → (t : ℕ) (x : LegTask) (b : Bool) → nat_eq t c ≡ b → (fate : Fate LegTask) → tasks p ≡ fate → (if b then map_live (bearing h.child_group c how) fate else tasks t) ≡ Live x → Fit n R t x
  born_fits p c how range t x true e Unused l g = absurd (cc)
  born_fits p c how range t x true e (Live y) l g =
      let was = fits p y l in
      let same : t ≡ c = eqb-true t c e in
      let is : bearing h.child_group c how y ≡ x = cc in
      record {
        positive = subst (λ k. 0 < k) (sym same) range.0;
        within = subst (λ k. k ≤ n) (sym same) range.1;
        own = ap (λ z. z.group) (sym is) ∙ sym same;
        level = subst (λ z. R z.level) is was.level;
      }
  born_fits p c how range t x true e Dead l g = absurd (cc)
  born_fits p c how range t x false e fate l g = fits t x g

  died_fits : (t : ℕ) (x : LegTask) (b : Bool) → (if b then Dead else tasks t) ≡ Live x → Fit n R t x
  died_fits t x true g = absurd (cc)
  died_fits t x false g = fits t x g

pub effect_fits : (R : ℕ → Type 0) (s : State) (rest : List (Option Refusal)) → Fits s.bounds.tasks R s.tasks → (event : Event) → first_of (tests s.bounds (outlines_of s.tasks) event ++ rest) ≡ None → (number : ℕ) → Fits s.bounds.tasks R (own_effect h.child_group number event s.tasks)
effect_fits R s rest fits (Call a f) ok number t x g = changed_fits s.bounds.tasks R s.tasks fits (calling number f) (λ x. refl) (λ x. refl) t x (nat_eq t a.0) (s.tasks t) refl g
effect_fits R s rest fits (Ret a) ok number t x g = changed_fits s.bounds.tasks R s.tasks fits returning (λ x. refl) (λ x. refl) t x (nat_eq t a.0) (s.tasks t) refl g
effect_fits R s rest fits (Sleep a) ok number t x g = changed_fits s.bounds.tasks R s.tasks fits (put_in Asleep) (λ x. refl) (λ x. refl) t x (nat_eq t a.0) (s.tasks t) refl g
effect_fits R s rest fits (Wake a) ok number t x g = changed_fits s.bounds.tasks R s.tasks fits (put_in Kernel) (λ x. refl) (λ x. refl) t x (nat_eq t a.0) (s.tasks t) refl g
effect_fits R s rest fits (Enter a) ok number t x g = changed_fits s.bounds.tasks R s.tasks fits (put_in Kernel) (λ x. refl) (λ x. refl) t x (nat_eq t a.0) (s.tasks t) refl g
effect_fits R s rest fits (Exit a) ok number t x g = changed_fits s.bounds.tasks R s.tasks fits (put_in User) (λ x. refl) (λ x. refl) t x (nat_eq t a.0) (s.tasks t) refl g
effect_fits R s rest fits (Idle a) ok number t x g = fits t x g
effect_fits R s rest fits (Resched a) ok number t x g = fits t x g
effect_fits R s rest fits (Fork p c how) ok number t x g =
    let range = fork_range s.bounds (outlines_of s.tasks) p.0 c.0 (used (outlines_of s.tasks) c.0 ∷ not_of Normal (outlines_of s.tasks) p.0 ∷ not_in Kernel (outlines_of s.tasks) p.0 ∷ rest) ok in
    born_fits s.bounds.tasks R s.tasks fits p.0 c.0 how range t x (nat_eq t c.0) refl (s.tasks p.0) refl g
effect_fits R s rest fits (Die a) ok number t x g = died_fits s.bounds.tasks R s.tasks fits t x (nat_eq t a.0) g
effect_fits R s rest fits Walk ok number t x g = fits t x g
effect_fits R s rest fits Stop ok number t x g = fits t x g
effect_fits R s rest fits Enable ok number t x g = fits t x g
effect_fits R s rest fits Disable ok number t x g = fits t x g
effect_fits R s rest fits Reverse ok number t x g = fits t x g

-- ---- Tests of a group are tests of its task

module _ {A : Type 0} (bounds : Bounds) (now : ℕ → Fate A) (group : A → ℕ) (own : (t : ℕ) (x : A) → now t ≡ Live x → group x ≡ t) (u : ℕ) (x : A) (positive : 0 < u) (within : u ≤ bounds.tasks) (live : now u ≡ Live x) where
  the_one : (t : ℕ) (y : A) → now t ≡ Live y → nat_eq (group y) u ≡ true → (t ≡ u) × (y ≡ x)
  the_one t y there e =
      let same : t ≡ u = sym (own t y there) ∙ eqb-true (group y) u e in
      let both : Live y ≡ Live x = sym there ∙ (ap now same ∙ live) in
      (same, cc)

  is_its : nat_eq (group x) u ≡ true
  is_its = eq-eqb (group x) u (own u x live)

  each_own : (test : ℕ → A → Bool) → each_live bounds now (λ t y. not (nat_eq (group y) u) || test t y) ≡ test u x
  each_own test =
      same_bool (each_live bounds now (λ t y. not (nat_eq (group y) u) || test t y)) (test u x)
      (λ e. sym (ap (λ b. not b || test u x) is_its) ∙ each_live-at bounds now (λ t y. not (nat_eq (group y) u) || test t y) e u x positive within live)
      (λ e. each_live-from bounds now (λ t y. not (nat_eq (group y) u) || test t y) (λ t y p w there. by t y there (nat_eq (group y) u) refl e))
    where
      by : (t : ℕ) (y : A) → now t ≡ Live y → (b : Bool) → nat_eq (group y) u ≡ b → test u x ≡ true → (not (nat_eq (group y) u) || test t y) ≡ true
      by t y there true e yes_x =
          let same = the_one t y there e in
          ap (λ b. not b || test t y) e ∙ (ap₂ (λ k z. test k z) same.0 same.1 ∙ yes_x)
      by t y there false e yes_x = ap (λ b. not b || test t y) e

  some_own : (test : A → Bool) → some_live bounds now (λ t y. nat_eq (group y) u && test y) ≡ test x
  some_own test =
      same_bool (some_live bounds now (λ t y. nat_eq (group y) u && test y)) (test x)
      (λ e.
      let w = some_live-is bounds now (λ t y. nat_eq (group y) u && test y) e in
      let both = and_parts (nat_eq (group w.life) u) (test w.life) w.passed in
      ap test (sym (the_one w.task w.life w.live both.0).1) ∙ both.1)
      (λ e. some_live-from bounds now (λ t y. nat_eq (group y) u && test y) (record { task = u; life = x; positive = positive; within = within; live = live; passed = ap₂ (λ a b. a && b) is_its e }))

  some_member : some_live bounds now (λ t y. nat_eq (group y) u) ≡ true
  some_member = some_live-from bounds now (λ t y. nat_eq (group y) u) (record { task = u; life = x; positive = positive; within = within; live = live; passed = is_its })

-- ---- Who switches

module _ (R : ℕ → Type 0) (s : State) (fits : Fits s.bounds.tasks R s.tasks) (u : ℕ) (x : LegTask) (live : s.tasks u ≡ Live x) where
  own_of : (t : ℕ) (y : LegTask) → s.tasks t ≡ Live y → y.group ≡ t
  own_of t y there = (fits t y there).own

  own_outline : (t : ℕ) (o : Outline) → outlines_of s.tasks t ≡ Live o → o.group ≡ t
  own_outline t o there = by (s.tasks t) refl there
    where
      by : (fate : Fate LegTask) → s.tasks t ≡ fate → map_live outline_of fate ≡ Live o → o.group ≡ t
      by Unused e g = absurd (cc)
      by (Live y) e g = let is : outline_of y ≡ o = cc in ap (λ z. z.group) (sym is) ∙ own_of t y e
      by Dead e g = absurd (cc)

  live_outline : outlines_of s.tasks u ≡ Live (outline_of x)
  live_outline = ap (map_live outline_of) live

  place : Fit s.bounds.tasks R u x
  place = fits u x live

  pub waits_own : waits_in s u ≡ not (nat_eq x.level s.target)
  waits_own = some_own s.bounds s.tasks (λ y. y.group) own_of u x place.positive place.within live (λ y. not (nat_eq y.level s.target))

  pub admits_own : (kind : CheckKind) → admits_all h s (Some kind) u ≡ h.admits kind (view_of u x) s.aim
  admits_own kind = each_own s.bounds s.tasks (λ y. y.group) own_of u x place.positive place.within live (λ t y. h.admits kind (view_of t y) s.aim)

  alone_own : (t : ℕ) → is_alone s.bounds (outlines_of s.tasks) u t ≡ nat_eq u t
  alone_own t =
      let only : each_live s.bounds (outlines_of s.tasks) (λ other y. not (nat_eq y.group u) || nat_eq other t) ≡ nat_eq u t = each_own s.bounds (outlines_of s.tasks) (λ y. y.group) own_outline u (outline_of x) place.positive place.within live_outline (λ other y. nat_eq other t) in
      ap (λ b. on_live false (λ y. nat_eq y.group u) (outlines_of s.tasks t) && b) only ∙ by (nat_eq u t) refl
    where
      by : (b : Bool) → nat_eq u t ≡ b → (on_live false (λ y. nat_eq y.group u) (outlines_of s.tasks t) && nat_eq u t) ≡ nat_eq u t
      by true e =
          let same : u ≡ t = eqb-true u t e in
          ap (λ b. on_live false (λ y. nat_eq y.group u) (outlines_of s.tasks t) && b) e
          ∙ (ap (λ k. on_live false (λ y. nat_eq y.group u) (outlines_of s.tasks k) && true) (sym same)
          ∙ (ap (λ f. on_live false (λ y. nat_eq y.group u) f && true) live_outline ∙ (ap (λ b. b && true) (eq-eqb x.group u place.own) ∙ sym e)))
      by false e = ap (λ b. on_live false (λ y. nat_eq y.group u) (outlines_of s.tasks t) && b) e ∙ (none_of (on_live false (λ y. nat_eq y.group u) (outlines_of s.tasks t)) ∙ sym e)
        where
          none_of : (a : Bool) → (a && false) ≡ false
          none_of true = refl
          none_of false = refl

  member_own : has_member s.bounds (outlines_of s.tasks) u ≡ true
  member_own = some_member s.bounds (outlines_of s.tasks) (λ y. y.group) own_outline u (outline_of x) place.positive place.within live_outline

  -- a check of this kind, if it is one
  abbrev pub asks : Option CheckKind → Bool
  asks None = false
  asks (Some kind) = not (nat_eq x.level s.target) && h.admits kind (view_of u x) s.aim

  abbrev kind_of : Option CheckKind → Option CheckKind
  kind_of kind = if_used h.uses kind

  asked_own : (kind : Option CheckKind) → (waits_in s u && admits_all h s kind u) ≡ asks kind
  asked_own None = by (waits_in s u)
    where
      by : (a : Bool) → (a && false) ≡ false
      by true = refl
      by false = refl
  asked_own (Some kind) = ap₂ (λ a b. a && b) waits_own (admits_own kind)

  switches_by : (event : Event) (kind : Option CheckKind) → if_used h.uses (check_by s.bounds (outlines_of s.tasks) (Some event) u) ≡ kind → switches_at h s event u ≡ asks kind
  unfolding switches_at
  switches_by event kind e = ap (λ k. waits_in s u && admits_all h s k u) e ∙ asked_own kind

  pub exit_own : (t : TaskId) → switches_at h s (Exit t) u ≡ asks (if_used h.uses (when (nat_eq u t.0) KernelExit))
  exit_own t = switches_by (Exit t) (if_used h.uses (when (nat_eq u t.0) KernelExit)) (ap (λ b. if_used h.uses (when b KernelExit)) (alone_own t.0))

  pub idle_own : (t : TaskId) → switches_at h s (Idle t) u ≡ asks (if_used h.uses (when (nat_eq u t.0) IdlePoint))
  idle_own t = switches_by (Idle t) (if_used h.uses (when (nat_eq u t.0) IdlePoint)) (ap (λ b. if_used h.uses (when b IdlePoint)) (alone_own t.0))

  pub resched_own : (t : TaskId) → switches_at h s (Resched t) u ≡ asks (if_used h.uses (when (nat_eq u t.0) Resched))
  resched_own t = switches_by (Resched t) (if_used h.uses (when (nat_eq u t.0) Resched)) (ap (λ b. if_used h.uses (when b Resched)) (alone_own t.0))

  pub walk_own : switches_at h s Walk u ≡ asks (Some Walk)
  walk_own = switches_by Walk (Some Walk) (ap (λ b. if_used h.uses (when b Walk)) member_own)

  -- no other event is a check
  pub quiet_own : (event : Event) → if_used h.uses (check_by s.bounds (outlines_of s.tasks) (Some event) u) ≡ None → switches_at h s event u ≡ false
  quiet_own event e = switches_by event None e
