-- What a scan and a fork make of the lines, by the state before them.
use Rattle.std.proofs.Common.{◌≡◌, ℕ, suc, ◌+◌, Bool, true, false, not, ◌&&◌, List, ◌∷◌, length, map, Option, Some, None, IsTrue, IsFalse, if◌then◌else◌, nat_eq, refl, sym, ap, ap₂, subst, ◌∙◌, arith}
use mathlib.Core.Path.{fun_ext}
use Rattle.std.specs.List.{range_with_len, list_any}
use Rattle.std.specs.Option.{option_map}
use Rattle.std.proofs.lemmas.Bool.{and_parts}
use Rattle.lp_stack.specs.declared.number.TaskId.{TaskId}
use Rattle.lp_stack.specs.TaskView.{TaskView}
use Rattle.lp_model.specs.declared.check.CheckKind.{CheckKind}
use Rattle.lp_model.specs.declared.check.CheckKind.TheVariants as kind
use Rattle.lp_model.specs.declared.check.ForkKind.{ForkKind}
use Rattle.lp_model.specs.declared.check.Blame.{Blame}
use Rattle.lp_model.specs.Rules.{Rules}
use Rattle.lp_definitions.specs.declared.event.Event.{Event}
use Rattle.lp_definitions.specs.declared.event.Event.TheVariants.{Resched, Fork, Walk, Stop}
use Rattle.lp_definitions.specs.Tasks.{Life, Fate, Unused, Live, Dead, Tasks, Outlines, on_live, map_live, outlines, first_of, refusal, effect}
use Rattle.lp_definitions.specs.Leg.{LegTask, Leg, after, accept, accepted, check, check_by, has_member, is_alone, take_effect, if_used, when, some_live, unless_refused}
use Rattle.lp_definitions.specs.Schedule.{leg_task, view, first_check}
use Rattle.lp_definitions.specs.Run.{and_then, refused_by, shown}
use Rattle.lp_transition.specs.Scan.{is_scan_kind, scan_event}
use Rattle.lp_machine.specs.Machine.{outline_of, outlines_of, waits_in, state_of}
use Rattle.lp_definitions.proofs.Quantifiers.{some_live-is, some_live-from}
use Rattle.lp_machine_laws.proofs.Cut.{outlines_same}
use Rattle.lp_laws.proofs.Prefix.{after_same}
use Rattle.lp_laws.proofs.OneMore.{accepted_is, after_is, check_is, plain_refusal}
use Rattle.lp_definitions.specs.declared.line.Line.{Line}
use Rattle.lp_definitions.specs.Certificates.{after_check, birth_line, has_frame, first_blamed, member_blame, with_birth, lines}
use Rattle.lp_transition.specs.Blames.{has_frame_in, blame_in, first_blamed_in}
use Rattle.lp_cert.specs.EventLines.{lines_after_scan, lines_after_own_check, lines_after_fork}
use Rattle.lp_laws.proofs.Past.{on_live_same, seen_same, lines_past}

on_live_map : {A B C : Type 0} (other : C) (f : B → C) (g : A → B) (fate : Fate A) → on_live other f (map_live g fate) ≡ on_live other (λ x. f (g x)) fate
on_live_map other f g Unused = refl
on_live_map other f g (Live x) = refl
on_live_map other f g Dead = refl

module _ (model : Rules) (leg : Leg) (event : Event) where
  abbrev k : ℕ
  k = length leg.events

  abbrev longer : Leg
  longer = and_then leg event

  abbrev now : Tasks
  now = after model leg k

  -- where the tasks are as before, a check sees them as the state shows them
  module _ (same : after model longer (suc k) ≡ now) where
    frames_are : has_frame model longer (suc k) ≡ has_frame_in (state_of model leg)
    unfolding shown
    frames_are =
        fun_ext (λ t. fun_ext (λ serial.
        let has = λ (v : TaskView). list_any (λ frame. nat_eq frame.serial serial) v.frames in
        ap (λ ts. on_live false (λ x. has (view longer (first_check model longer) t x)) (ts t)) same
        ∙ (on_live_same false (λ x. has (view longer (first_check model longer) t x)) (λ x. has (view leg (first_check model leg) t x)) (now t) (λ x live. ap has (seen_same model leg event k t x (omega arith) live))
        ∙ sym (on_live_map false (λ y. list_any (λ frame. nat_eq frame.serial serial) y.frames) (leg_task leg (first_check model leg) k) (now t)))))

    blame_is : (on : CheckKind) (group t : ℕ) → member_blame model longer on (suc k) group t ≡ blame_in model (state_of model leg) on group t
    unfolding shown
    blame_is on group t =
        let blamed = λ (x : Life) (v : TaskView). if nat_eq x.group group then model.blame on v leg.aim else None in
        ap (λ ts. on_live None (λ x. blamed x (view longer (first_check model longer) t x)) (ts t)) same
        ∙ (on_live_same None (λ x. blamed x (view longer (first_check model longer) t x)) (λ x. blamed x (view leg (first_check model leg) t x)) (now t) (λ x live. ap (blamed x) (seen_same model leg event k t x (omega arith) live))
        ∙ sym (on_live_map None (λ y. if nat_eq y.group group then model.blame on (record { task = t; class = y.class; mode = y.mode; frames = y.frames }) leg.aim else None) (leg_task leg (first_check model leg) k) (now t)))

    blamed_are : (on : CheckKind) (group : ℕ) → first_blamed model longer (Some on) (suc k) group ≡ first_blamed_in model (state_of model leg) on group
    blamed_are on group =
        ap {A = ℕ → Option (ℕ × Blame)} (λ at. first_of (map at (range_with_len 1 leg.bounds.tasks))) (fun_ext (λ t. ap (option_map (λ why. (t, why))) (blame_is on group t)))

  -- a group that waits has a live member
  waiting_member : (group : ℕ) → IsTrue (waits_in (state_of model leg) group) → has_member leg.bounds (outlines now) group ≡ true
  unfolding shown
  waiting_member group it_waits =
      let w = some_live-is leg.bounds (shown model leg) (λ t x. nat_eq x.group group && not (nat_eq x.level leg.target)) it_waits in
      let one = and_parts (nat_eq w.life.group group) (not (nat_eq w.life.level leg.target)) w.passed in
      subst (λ seen. some_live leg.bounds seen (λ t x. nat_eq x.group group) ≡ true) (outlines_same leg (first_check model leg) k now)
      (some_live-from leg.bounds (outlines_of (shown model leg)) (λ t x. nat_eq x.group group) (record {
        task = w.task;
        life = outline_of w.life;
        positive = w.positive;
        within = w.within;
        live = ap (map_live outline_of) w.live;
        passed = one.0;
      }))

  -- ---- A check that leaves the tasks

  module _ (on : CheckKind) (told : accept leg.bounds now (Some event) ≡ Some event) (same : after model longer (suc k) ≡ now)
      (asks : ℕ → Bool) (kind_is : (group : ℕ) → check_by leg.bounds (outlines now) (Some event) group ≡ when (asks group) on)
      (no_birth : (group : ℕ) (ls : ℕ → List Line) → with_birth model longer k group (Some event) ls ≡ ls group) where
    check_as : (group : ℕ) → check model longer k group ≡ if_used model.uses (when (asks group) on)
    check_as group =
        check_is model leg event group
        ∙ (ap₂ (λ ts o. if_used model.uses (check_by leg.bounds (outlines ts) o group)) same told ∙ ap (if_used model.uses) (kind_is group))

    before_is : (group : ℕ) → with_birth model longer k group (accepted model longer k) (lines model longer k) ≡ lines model leg k group
    before_is group =
        ap (λ o. with_birth model longer k group o (lines model longer k)) (accepted_is model leg event ∙ told)
        ∙ (no_birth group (lines model longer k) ∙ lines_past model leg event k group (omega arith))

    used_check : (group : ℕ) → IsTrue (model.uses on) → asks group ≡ true
        → lines model longer (suc k) group ≡ lines_after_scan model (state_of model leg) on group (lines model leg k group)
    unfolding lines
    used_check group used asked =
        let checked : check model longer k group ≡ Some on =
        check_as group ∙ (ap (λ b. if_used model.uses (when b on)) asked ∙ ap (λ b. when b on) used) in
        let blamed = ap (λ o. first_blamed model longer o (suc k) group) checked ∙ blamed_are same on group in
        let number : leg.number + suc k ≡ suc (leg.number + k) = omega arith in
        ap₂ (λ has at. after_check has group at (first_blamed model longer (check model longer k group) (suc k) group) (with_birth model longer k group (accepted model longer k) (lines model longer k))) (frames_are same) number
        ∙ ap₂ (λ b ls. after_check (has_frame_in (state_of model leg)) group (suc (leg.number + k)) b ls) blamed (before_is group)

    not_used : (b : Bool) → model.uses on ≡ false → if_used model.uses (when b on) ≡ None
    not_used true e = ap (λ b. when b on) e
    not_used false e = refl

    no_check : (group : ℕ) → if_used model.uses (when (asks group) on) ≡ None → lines model longer (suc k) group ≡ lines model leg k group
    unfolding lines
    no_check group is =
        let none = check_as group ∙ is in
        ap (λ o. after_check (has_frame model longer (suc k)) group (leg.number + suc k) (first_blamed model longer o (suc k) group) (with_birth model longer k group (accepted model longer k) (lines model longer k))) none
        ∙ before_is group

    unused_check : (group : ℕ) → IsFalse (model.uses on) → lines model longer (suc k) group ≡ lines model leg k group
    unused_check group unused = no_check group (not_used (asks group) unused)

    unasked_check : (group : ℕ) → asks group ≡ false → lines model longer (suc k) group ≡ lines model leg k group
    unasked_check group unasked = no_check group (ap (λ b. if_used model.uses (when b on)) unasked)

-- a scan has no refusal and leaves the tasks
module _ (model : Rules) (leg : Leg) where
  scan_same : (on : CheckKind) → is_scan_kind on ≡ true → after model (and_then leg (scan_event on)) (suc (length leg.events)) ≡ after model leg (length leg.events)
  unfolding refusal effect
  scan_same kind.Walk e = after_is model leg Walk
  scan_same kind.Stop e = after_is model leg Stop
  scan_same kind.KernelExit e = absurd (cc)
  scan_same kind.IdlePoint e = absurd (cc)
  scan_same kind.Resched e = absurd (cc)

  pub lines_at_scan : (on : CheckKind) (group : ℕ) → is_scan_kind on ≡ true → IsTrue (model.uses on) → IsTrue (waits_in (state_of model leg) group)
      → lines model (and_then leg (scan_event on)) (suc (length leg.events)) group ≡ lines_after_scan model (state_of model leg) on group (lines model leg (length leg.events) group)
  unfolding refusal
  lines_at_scan kind.Walk group e used it_waits = used_check model leg Walk kind.Walk refl (scan_same kind.Walk e) (has_member leg.bounds (outlines (after model leg (length leg.events)))) (λ g. refl) (λ g ls. refl) group used (waiting_member model leg Walk group it_waits)
  lines_at_scan kind.Stop group e used it_waits = used_check model leg Stop kind.Stop refl (scan_same kind.Stop e) (has_member leg.bounds (outlines (after model leg (length leg.events)))) (λ g. refl) (λ g ls. refl) group used (waiting_member model leg Stop group it_waits)
  lines_at_scan kind.KernelExit group e used it_waits = absurd (cc)
  lines_at_scan kind.IdlePoint group e used it_waits = absurd (cc)
  lines_at_scan kind.Resched group e used it_waits = absurd (cc)

  pub lines_at_unused_scan : (on : CheckKind) (group : ℕ) → is_scan_kind on ≡ true → IsFalse (model.uses on)
      → lines model (and_then leg (scan_event on)) (suc (length leg.events)) group ≡ lines model leg (length leg.events) group
  unfolding refusal
  lines_at_unused_scan kind.Walk group e unused = unused_check model leg Walk kind.Walk refl (scan_same kind.Walk e) (has_member leg.bounds (outlines (after model leg (length leg.events)))) (λ g. refl) (λ g ls. refl) group unused
  lines_at_unused_scan kind.Stop group e unused = unused_check model leg Stop kind.Stop refl (scan_same kind.Stop e) (has_member leg.bounds (outlines (after model leg (length leg.events)))) (λ g. refl) (λ g ls. refl) group unused
  lines_at_unused_scan kind.KernelExit group e unused = absurd (cc)
  lines_at_unused_scan kind.IdlePoint group e unused = absurd (cc)
  lines_at_unused_scan kind.Resched group e unused = absurd (cc)

  -- ---- An own check in the kernel

  -- where it is accepted it leaves the tasks
  pub resched_same : (t : TaskId) → refusal leg.bounds (after model leg (length leg.events)) (Resched t) ≡ None → after model (and_then leg (Resched t)) (suc (length leg.events)) ≡ after model leg (length leg.events)
  unfolding effect
  resched_same t ok =
      after_is model leg (Resched t) ∙ ap (λ r. take_effect model.child_group (length leg.events) (unless_refused r (Resched t)) (after model leg (length leg.events))) ok

  pub lines_at_own_check : (t : TaskId) (group : ℕ) → refused_by model leg (Resched t) ≡ None
      → lines model (and_then leg (Resched t)) (suc (length leg.events)) group ≡ lines_after_own_check model (state_of model leg) t group (lines model leg (length leg.events) group)
  unfolding shown
  lines_at_own_check t group ok = by (model.uses kind.Resched) refl (is_alone leg.bounds (outlines (after model leg n)) group t.0) refl
    where
      n : ℕ
      n = length leg.events

      accepted_so : refusal leg.bounds (after model leg n) (Resched t) ≡ None
      accepted_so = sym (plain_refusal model leg (Resched t) refl) ∙ ok

      asks : ℕ → Bool
      asks g = is_alone leg.bounds (outlines (after model leg n)) g t.0

      told : accept leg.bounds (after model leg n) (Some (Resched t)) ≡ Some (Resched t)
      told = ap (λ r. unless_refused r (Resched t)) accepted_so

      after_lines : Bool → Bool → List Line
      after_lines used alone = if used && alone then lines_after_scan model (state_of model leg) kind.Resched group (lines model leg n group) else lines model leg n group

      goal_is : lines_after_own_check model (state_of model leg) t group (lines model leg n group) ≡ after_lines (model.uses kind.Resched) (asks group)
      goal_is = ap (λ (seen : Outlines). after_lines (model.uses kind.Resched) (is_alone leg.bounds seen group t.0)) (outlines_same leg (first_check model leg) n (after model leg n))

      by : (used : Bool) → model.uses kind.Resched ≡ used → (alone : Bool) → asks group ≡ alone
          → lines model (and_then leg (Resched t)) (suc n) group ≡ lines_after_own_check model (state_of model leg) t group (lines model leg n group)
      by true u true a =
          used_check model leg (Resched t) kind.Resched told (resched_same t accepted_so) asks (λ g. refl) (λ g ls. refl) group u a
          ∙ sym (goal_is ∙ ap₂ after_lines u a)
      by true u false a =
          unasked_check model leg (Resched t) kind.Resched told (resched_same t accepted_so) asks (λ g. refl) (λ g ls. refl) group a
          ∙ sym (goal_is ∙ ap₂ after_lines u a)
      by false u alone a =
          unused_check model leg (Resched t) kind.Resched told (resched_same t accepted_so) asks (λ g. refl) (λ g ls. refl) group u
          ∙ sym (goal_is ∙ ap₂ after_lines u a)

  -- ---- A fork

  pub lines_at_fork : (p c : TaskId) (how : ForkKind) (group : ℕ) → refused_by model leg (Fork p c how) ≡ None
      → lines model (and_then leg (Fork p c how)) (suc (length leg.events)) group ≡ lines_after_fork model (state_of model leg) p c how (lines model leg (length leg.events)) group
  unfolding lines shown
  lines_at_fork p c how group ok =
      let event = Fork p c how in
      let n = length leg.events in
      let more = and_then leg event in
      let told : accept leg.bounds (after model leg n) (Some event) ≡ Some event =
      ap (λ r. unless_refused r event) (sym (plain_refusal model leg event refl) ∙ ok) in
      let none : check model more n group ≡ None =
      check_is model leg event group ∙ ap (λ o. if_used model.uses (check_by leg.bounds (outlines (after model more (suc n))) o group)) told in
      let parents : on_live 0 (λ x. x.group) (after model more n p.0) ≡ on_live 0 (λ y. y.group) (shown model leg p.0) =
      ap (λ (ts : Tasks). on_live 0 (λ x. x.group) (ts p.0)) (after_same model leg event n (omega arith))
      ∙ sym (on_live_map 0 (λ (y : LegTask). y.group) (leg_task leg (first_check model leg) n) (after model leg n p.0)) in
      let number : leg.number + suc n ≡ suc (leg.number + n) = omega arith in
      ap₂ (λ o e. after_check (has_frame model more (suc n)) group (leg.number + suc n) (first_blamed model more o (suc n) group) (with_birth model more n group e (lines model more n))) none (accepted_is model leg event ∙ told)
      ∙ (ap₂ (λ (g : ℕ) (ls : ℕ → List Line). if nat_eq group c.0 && nat_eq group (model.child_group g c.0 how) then birth_line group p (leg.number + suc n) ∷ ls g else ls group) parents (fun_ext (λ g. lines_past model leg event n g (omega arith)))
      ∙ ap (λ at. let g = on_live 0 (λ y. y.group) (shown model leg p.0) in if nat_eq group c.0 && nat_eq group (model.child_group g c.0 how) then birth_line group p at ∷ lines model leg n g else lines model leg n group) number)
