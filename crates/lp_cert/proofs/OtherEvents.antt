-- An event that is no scan, no fork and no own check in the kernel brings no line: a check of a task alone finds an empty stack, which each model admits.
use Rattle.std.proofs.Common.{◌≡◌, ℕ, suc, ◌+◌, Bool, true, false, not, ◌||◌, List, [], ◌∷◌, length, map, Option, Some, None, IsTrue, if◌then◌else◌, nat_eq, refl, sym, ap, subst, ◌∙◌, arith}
use Rattle.std.specs.List.{range_with_len}
use Rattle.std.specs.Option.{option_map}
use Rattle.std.proofs.lemmas.Bool.{and_parts, eqb-true, eq-eqb, cond-true}
use Rattle.lp_stack.specs.declared.view.Class.TheVariants as class
use Rattle.lp_stack.specs.declared.view.Mode.{Mode}
use Rattle.lp_stack.specs.declared.view.Mode.TheVariants.{User, Kernel, Asleep}
use Rattle.lp_model.specs.declared.check.CheckKind.{CheckKind}
use Rattle.lp_model.specs.declared.check.CheckKind.TheVariants as kind
use Rattle.lp_model.specs.declared.check.Blame.{Blame}
use Rattle.lp_model.specs.Rules.{Rules, IsLawful, AdmitsEmptyIn}
use Rattle.lp_stack.specs.declared.number.TaskId.{TaskId}
use Rattle.lp_definitions.specs.declared.event.Event.{Event}
use Rattle.lp_definitions.specs.declared.event.Event.TheVariants.{Call, Ret, Sleep, Wake, Enter, Exit, Idle, Resched, Fork, Die, Walk, Stop, Enable, Disable, Reverse}
use Rattle.lp_definitions.specs.declared.refusal.Refusal.{Refusal}
use Rattle.lp_definitions.specs.Events.{is_scan}
use Rattle.lp_definitions.specs.Tasks.{Pushed, Life, Fate, Unused, Live, Dead, Tasks, on_live, map_live, same_mode, outline, outlines, first_of, unknown_task, not_of, not_in, stack_not_empty, depth, refusal, change, in_mode, effect}
use Rattle.lp_definitions.specs.Leg.{Leg, after, accept, accepted, check, check_by, is_alone, if_used, when, unless_refused, take_effect}
use Rattle.lp_definitions.specs.Schedule.{frame_of, view, first_check}
use Rattle.lp_definitions.specs.Run.{and_then}
use Rattle.lp_definitions.specs.Sound.{IsSound}
use Rattle.lp_definitions.proofs.Quantifiers.{each_live-at}
use Rattle.lp_laws.proofs.NextTasks.{none_first, unfit, numbered}
use Rattle.lp_laws.proofs.OneMore.{accepted_is, after_is, check_is}
use Rattle.lp_definitions.specs.declared.line.Line.{Line}
use Rattle.lp_definitions.specs.Certificates.{after_check, has_frame, first_blamed, member_blame, with_birth, lines}
use Rattle.lp_laws.proofs.Past.{lines_past}
use Rattle.lp_cert.specs.EventLines.{is_resched, is_fork}

-- ---- What an accepted exit and an accepted idle point tell

live_mapped : (f : Life → Life) (fate : Fate Life) (x : Life) → map_live f fate ≡ Live x → (y : Life) × (fate ≡ Live y) × (f y ≡ x)
live_mapped f Unused x e = absurd (cc)
live_mapped f (Live y) x e = (y, refl, cc)
live_mapped f Dead x e = absurd (cc)

no_calls : (calls : List Pushed) → length calls ≡ 0 → calls ≡ []
no_calls [] e = refl
no_calls (call ∷ calls) e = absurd (omega arith)

not_false : (b : Bool) → not b ≡ false → b ≡ true
not_false true e = refl
not_false false e = absurd (cc)

-- where the stack isn't too full to leave, there is no call on it
empty_stack : (now : Tasks) (t : ℕ) (y : Life) → now t ≡ Live y → stack_not_empty (outlines now) t ≡ None → y.calls ≡ []
empty_stack now t y live e =
    let zero : nat_eq (depth (outlines now) t) 0 ≡ true = not_false (nat_eq (depth (outlines now) t) 0) (unfit _ _ e) in
    let deep : depth (outlines now) t ≡ length y.calls = ap (λ f. on_live 0 (λ x. x.depth) (map_live outline f)) live in
    no_calls y.calls (sym deep ∙ eqb-true (depth (outlines now) t) 0 zero)

kernel_mode : (mode : Mode) → same_mode mode Kernel ≡ true → mode ≡ Kernel
kernel_mode User e = absurd (cc)
kernel_mode Kernel e = refl
kernel_mode Asleep e = absurd (cc)

in_kernel : (now : Tasks) (t : ℕ) (y : Life) → now t ≡ Live y → not_in Kernel (outlines now) t ≡ None → y.mode ≡ Kernel
in_kernel now t y live e =
    let there : on_live false (λ x. same_mode x.mode Kernel) (outlines now t) ≡ true = not_false _ (unfit _ _ e) in
    let this : on_live false (λ x. same_mode x.mode Kernel) (outlines now t) ≡ same_mode y.mode Kernel = ap (λ f. on_live false (λ x. same_mode x.mode Kernel) (map_live outline f)) live in
    kernel_mode y.mode (sym this ∙ there)

-- the last two of four tests that don't fit
last_tests : (a b c d : Option Refusal) → first_of (a ∷ b ∷ c ∷ d ∷ []) ≡ None → (c ≡ None) × (d ≡ None)
last_tests a b c d e =
    let one = none_first a (b ∷ c ∷ d ∷ []) e in
    let two = none_first b (c ∷ d ∷ []) one.1 in
    let three = none_first c (d ∷ []) two.1 in
    (three.0, (none_first d [] three.1).0)

none_found : (at : ℕ → Option Blame) (ts : List ℕ) → ((t : ℕ) → at t ≡ None) → first_of {A = ℕ × Blame} (map (λ t. option_map (λ why. (t, why)) (at t)) ts) ≡ None
none_found at [] none = refl
none_found at (t ∷ ts) none =
    ap (λ o. first_of {A = ℕ × Blame} (option_map (λ why. (t, why)) o ∷ map (λ u. option_map (λ why. (u, why)) (at u)) ts)) (none t) ∙ none_found at ts none

module _ (model : Rules) (lawful : IsLawful model) (leg : Leg) (sound : IsSound leg.opening) (event : Event) where
  abbrev k : ℕ
  k = length leg.events

  abbrev longer : Leg
  longer = and_then leg event

  abbrev now : Tasks
  now = after model leg k

  abbrev later : Tasks
  later = after model longer (suc k)

  abbrev told : Option Event
  told = accept leg.bounds now (Some event)

  -- nobody is blamed and nobody is born
  quiet : (group : ℕ) → first_blamed model longer (check model longer k group) (suc k) group ≡ None
      → ((ls : ℕ → List Line) → with_birth model longer k group told ls ≡ ls group)
      → lines model longer (suc k) group ≡ lines model leg k group
  unfolding lines
  quiet group none no_birth =
      ap (λ b. after_check (has_frame model longer (suc k)) group (leg.number + suc k) b (with_birth model longer k group (accepted model longer k) (lines model longer k))) none
      ∙ (ap (λ o. with_birth model longer k group o (lines model longer k)) (accepted_is model leg event)
      ∙ (no_birth (lines model longer k) ∙ lines_past model leg event k group (omega arith)))

  unchecked : (group : ℕ) → check_by leg.bounds (outlines later) told group ≡ None → first_blamed model longer (check model longer k group) (suc k) group ≡ None
  unchecked group e = ap (λ o. first_blamed model longer o (suc k) group) (check_is model leg event group ∙ ap (if_used model.uses) e)

  -- ---- A check of a task alone

  module _ (t : ℕ) (on : CheckKind) (in_mode : (x : Life) → later t ≡ Live x → AdmitsEmptyIn on x.mode × (x.calls ≡ [])) where
    none_at : (group u : ℕ) → is_alone leg.bounds (outlines later) group t ≡ true → IsTrue (model.uses on) → member_blame model longer on (suc k) group u ≡ None
    none_at group u alone used = at (later u) refl
      where
        by : (x : Life) → later u ≡ Live x → (b : Bool) → nat_eq x.group group ≡ b → (if b then model.blame on (view longer (first_check model longer) u x) leg.aim else None) ≡ None
        by x e false m = refl
        by x e true m =
            let parts = and_parts _ _ alone in
            let range = numbered model.child_group longer sound (suc k) u x e in
            let h = each_live-at leg.bounds (outlines later) (λ other y. not (nat_eq y.group group) || nat_eq other t) parts.1 u (outline x) range.0 range.1 (ap (map_live outline) e) in
            let same : u ≡ t = eqb-true u t (subst (λ b. (not b || nat_eq u t) ≡ true) m h) in
            let is = in_mode x (subst (λ v. later v ≡ Live x) same e) in
            let seen = view longer (first_check model longer) u x in
            lawful.blames_none on seen leg.aim (lawful.empties on seen leg.aim used is.0 (ap (map (frame_of longer (first_check model longer) x)) is.1))

        at : (fate : Fate Life) → later u ≡ fate → on_live None (λ x. if nat_eq x.group group then model.blame on (view longer (first_check model longer) u x) leg.aim else None) fate ≡ None
        at Unused e = refl
        at (Live x) e = by x e (nat_eq x.group group) refl
        at Dead e = refl

    by_test : (group : ℕ) (a u : Bool) → is_alone leg.bounds (outlines later) group t ≡ a → model.uses on ≡ u → first_blamed model longer (if_used model.uses (when a on)) (suc k) group ≡ None
    by_test group false u ea eu = refl
    by_test group true false ea eu = ap (λ b. first_blamed model longer (when b on) (suc k) group) eu
    by_test group true true ea eu =
        ap (λ b. first_blamed model longer (when b on) (suc k) group) eu
        ∙ none_found (member_blame model longer on (suc k) group) (range_with_len 1 leg.bounds.tasks) (λ v. none_at group v ea eu)

    lone_check : (group : ℕ) → check_by leg.bounds (outlines later) told group ≡ when (is_alone leg.bounds (outlines later) group t) on → first_blamed model longer (check model longer k group) (suc k) group ≡ None
    lone_check group e =
        ap (λ o. first_blamed model longer o (suc k) group) (check_is model leg event group ∙ ap (if_used model.uses) e)
        ∙ by_test group (is_alone leg.bounds (outlines later) group t) (model.uses on) refl refl

module _ (model : Rules) (lawful : IsLawful model) (leg : Leg) (sound : IsSound leg.opening) where
  abbrev n : ℕ
  n = length leg.events

  abbrev before : Tasks
  before = after model leg n

  exit_mode : (a : TaskId) → refusal leg.bounds before (Exit a) ≡ None → (x : Life) → after model (and_then leg (Exit a)) (suc n) a.0 ≡ Live x → AdmitsEmptyIn kind.KernelExit x.mode × (x.calls ≡ [])
  unfolding refusal effect
  exit_mode a ok x live =
      let seen = outlines before in
      let late : after model (and_then leg (Exit a)) (suc n) ≡ change a.0 (in_mode User) before =
      after_is model leg (Exit a) ∙ ap (λ r. take_effect model.child_group n (unless_refused r (Exit a)) before) ok in
      let mine : map_live (in_mode User) (before a.0) ≡ Live x =
      sym (cond-true (nat_eq a.0 a.0) _ _ (eq-eqb a.0 a.0 refl)) ∙ (sym (ap (λ ts. ts a.0) late) ∙ live) in
      let w = live_mapped (in_mode User) (before a.0) x mine in
      let tests = last_tests (unknown_task seen a.0) (not_of class.Normal seen a.0) (not_in Kernel seen a.0) (stack_not_empty seen a.0) ok in
      (sym (ap (λ (y : Life). y.mode) w.2), sym (ap (λ (y : Life). y.calls) w.2) ∙ empty_stack before a.0 w.0 w.1 tests.1)

  idle_mode : (a : TaskId) → refusal leg.bounds before (Idle a) ≡ None → (x : Life) → after model (and_then leg (Idle a)) (suc n) a.0 ≡ Live x → AdmitsEmptyIn kind.IdlePoint x.mode × (x.calls ≡ [])
  unfolding refusal effect
  idle_mode a ok x live =
      let seen = outlines before in
      let late : after model (and_then leg (Idle a)) (suc n) ≡ before =
      after_is model leg (Idle a) ∙ ap (λ r. take_effect model.child_group n (unless_refused r (Idle a)) before) ok in
      let mine : before a.0 ≡ Live x = sym (ap (λ ts. ts a.0) late) ∙ live in
      let tests = last_tests (unknown_task seen a.0) (not_of class.Idle seen a.0) (not_in Kernel seen a.0) (stack_not_empty seen a.0) ok in
      (in_kernel before a.0 x mine tests.0, empty_stack before a.0 x mine tests.1)

  -- a refused event
  refused_quiet : (event : Event) (group : ℕ) (why : Refusal) → refusal leg.bounds before event ≡ Some why → lines model (and_then leg event) (suc n) group ≡ lines model leg n group
  refused_quiet event group why e =
      let none : accept leg.bounds before (Some event) ≡ None = ap (λ r. unless_refused r event) e in
      quiet model lawful leg sound event group
      (unchecked model lawful leg sound event group (ap (λ o. check_by leg.bounds (outlines (after model (and_then leg event) (suc n))) o group) none))
      (λ ls. ap (λ o. with_birth model (and_then leg event) n group o ls) none)

  -- an accepted event that is no check
  plain_quiet : (event : Event) (group : ℕ) → refusal leg.bounds before event ≡ None
      → check_by leg.bounds (outlines (after model (and_then leg event) (suc n))) (Some event) group ≡ None
      → ((ls : ℕ → List Line) → with_birth model (and_then leg event) n group (Some event) ls ≡ ls group)
      → lines model (and_then leg event) (suc n) group ≡ lines model leg n group
  plain_quiet event group ok none no_birth =
      let told_is = ap (λ r. unless_refused r event) ok in
      quiet model lawful leg sound event group
      (unchecked model lawful leg sound event group (ap (λ o. check_by leg.bounds (outlines (after model (and_then leg event) (suc n))) o group) told_is ∙ none))
      (λ ls. ap (λ o. with_birth model (and_then leg event) n group o ls) told_is ∙ no_birth ls)

  -- an accepted one
  accepted_quiet : (event : Event) (group : ℕ) → is_scan event ≡ false → is_fork event ≡ false → is_resched event ≡ false → refusal leg.bounds before event ≡ None → lines model (and_then leg event) (suc n) group ≡ lines model leg n group
  accepted_quiet (Exit a) group s f o ok =
      let told_is = ap (λ r. unless_refused r (Exit a)) ok in
      quiet model lawful leg sound (Exit a) group
      (lone_check model lawful leg sound (Exit a) a.0 kind.KernelExit (exit_mode a ok) group (ap (λ o. check_by leg.bounds (outlines (after model (and_then leg (Exit a)) (suc n))) o group) told_is))
      (λ ls. ap (λ o. with_birth model (and_then leg (Exit a)) n group o ls) told_is)
  accepted_quiet (Idle a) group s f o ok =
      let told_is = ap (λ r. unless_refused r (Idle a)) ok in
      quiet model lawful leg sound (Idle a) group
      (lone_check model lawful leg sound (Idle a) a.0 kind.IdlePoint (idle_mode a ok) group (ap (λ o. check_by leg.bounds (outlines (after model (and_then leg (Idle a)) (suc n))) o group) told_is))
      (λ ls. ap (λ o. with_birth model (and_then leg (Idle a)) n group o ls) told_is)
  accepted_quiet (Resched a) group s f o ok = absurd (cc)
  accepted_quiet (Fork p c how) group s f o ok = absurd (cc)
  accepted_quiet Walk group s f o ok = absurd (cc)
  accepted_quiet Stop group s f o ok = absurd (cc)
  accepted_quiet (Call t f) group s fork o ok = plain_quiet (Call t f) group ok refl (λ ls. refl)
  accepted_quiet (Ret t) group s f o ok = plain_quiet (Ret t) group ok refl (λ ls. refl)
  accepted_quiet (Sleep t) group s f o ok = plain_quiet (Sleep t) group ok refl (λ ls. refl)
  accepted_quiet (Wake t) group s f o ok = plain_quiet (Wake t) group ok refl (λ ls. refl)
  accepted_quiet (Enter t) group s f o ok = plain_quiet (Enter t) group ok refl (λ ls. refl)
  accepted_quiet (Die t) group s f o ok = plain_quiet (Die t) group ok refl (λ ls. refl)
  accepted_quiet Enable group s f o ok = plain_quiet Enable group ok refl (λ ls. refl)
  accepted_quiet Disable group s f o ok = plain_quiet Disable group ok refl (λ ls. refl)
  accepted_quiet Reverse group s f o ok = plain_quiet Reverse group ok refl (λ ls. refl)

  pub lines_at_others : (event : Event) (group : ℕ) → is_scan event ≡ false → is_fork event ≡ false → is_resched event ≡ false → lines model (and_then leg event) (suc n) group ≡ lines model leg n group
  lines_at_others event group s f o = by (refusal leg.bounds before event) refl
    where
      by : (r : Option Refusal) → refusal leg.bounds before event ≡ r → lines model (and_then leg event) (suc n) group ≡ lines model leg n group
      by None ok = accepted_quiet event group s f o ok
      by (Some why) e = refused_quiet event group why e

  pub lines_at_refused : (event : Event) (group : ℕ) (why : Refusal) → refusal leg.bounds before event ≡ Some why → lines model (and_then leg event) (suc n) group ≡ lines model leg n group
  lines_at_refused event group why e = refused_quiet event group why e
