-- After an event that opens no leg the standing blame of each group that waits is the hold of its newest line, if it was so before.
use Rattle.std.proofs.Common.{◌≡◌, ◌⊎◌, ◌≤◌, ◌<◌, ℕ, suc, Bool, true, false, not, ◌&&◌, List, [], ◌∷◌, length, Option, Some, None, is_none, IsTrue, if◌then◌else◌, nat_eq, nat_lt, refl, sym, ap, ap₂, subst, inl, inr, ◌∙◌, ⊎_elim, arith}
use Rattle.std.specs.List.{list_any}
use Rattle.std.specs.Option.{option_map}
use Rattle.std.proofs.lemmas.Bool.{false≢true, cond-true, cond-false, cases_Bool, and_parts, and_from, eq-eqb, eqb-true, ltb-false}
use Rattle.lp_stack.specs.declared.number.TaskId.{TaskId}
use Rattle.lp_numbers.specs.Numbers.{has}
use Rattle.lp_model.specs.Rules.{Rules, IsLawful}
use Rattle.lp_model.specs.declared.check.Blame.{Blame}
use Rattle.lp_model.specs.declared.check.Blame.TheVariants as blame
use Rattle.lp_model.specs.declared.check.CheckKind.{CheckKind}
use Rattle.lp_model.specs.declared.check.CheckKind.TheVariants as kind
use Rattle.lp_model.specs.declared.check.ForkKind.{ForkKind}
use Rattle.lp_model.specs.declared.verdict.Verdict.{Verdict}
use Rattle.lp_machine.specs.declared.standing_blame.StandingBlame.{StandingBlame}
use Rattle.lp_definitions.specs.declared.event.Event.{Event}
use Rattle.lp_definitions.specs.declared.event.Event.TheVariants.{Call, Ret, Sleep, Wake, Enter, Exit, Idle, Resched, Fork, Die, Walk, Stop, Enable, Disable, Reverse}
use Rattle.lp_definitions.specs.declared.line.Line.{Line}
use Rattle.lp_definitions.specs.declared.refusal.Refusal.{Refusal}
use Rattle.lp_definitions.specs.Certificates.{after_check, birth_line, lines}
use Rattle.lp_definitions.specs.Events.{is_control}
use Rattle.lp_definitions.specs.Leg.{LegTask, State, Leg, is_alone}
use Rattle.lp_definitions.specs.Run.{and_then, opens}
use Rattle.lp_definitions.specs.Sound.{IsSound}
use Rattle.lp_definitions.specs.Tasks.{Fate, Unused, Live, Dead, on_live, map_live}
use Rattle.lp_definitions.proofs.Quantifiers.{some_live-is}
use Rattle.lp_machine.specs.Machine.{view_of, outline_of, outlines_of, bearing, waits_in, refusal_of, affected, with_switches, next, state_of, counted}
use Rattle.lp_machine.specs.Table.{Engine, IsWide, state_in}
use Rattle.lp_machine.proofs.EngineLemmas.{next-refused}
use Rattle.lp_machine_laws.proofs.Steps.{refusal_is}
use Rattle.lp_tasks.proofs.TableLemmas.{slot_from_live}
use Rattle.lp_transition.specs.Blames.{blame_of, is_open, has_frame_in, first_blamed_in, own_blame, refused_first, frame_blame, while_there, or_blame, blame_by, AreOfWaiting}
use Rattle.lp_transition.specs.LastScan.{used_scan}
use Rattle.lp_transition.specs.Scan.{scan_event, is_of, first_refused}
use Rattle.lp_transition.specs.Weigh.{AreVerdictsFor, HasToldBlamesAfter, IsKnown}
use Rattle.lp_transition.proofs.Admitted.{enough_for}
use Rattle.lp_transition.proofs.Readers.{frames_stay}
use Rattle.lp_transition.proofs.ScanTakes.{group_fits}
use Rattle.lp_transition.proofs.Unchanged.{left, live_from}
use Rattle.lp_laws.proofs.OneMore.{plain_refusal}
use Rattle.lp_cert.specs.EventLines.{is_fork, is_resched, lines_after_fork, lines_after_own_check, lines_after_scan}
use Rattle.lp_cert.specs.Unchanged.{AreHeld, AreUnchangedBy, AreUnchangedSince, IsHeldBy, IsUnchanged, hold_of}
use Rattle.lp_cert.proofs.Frames.{IsFrom, frame_before, has_serial, own_from}
use Rattle.lp_cert.proofs.HeldLines.{IsThere, check_held, later_held, same_held}
use Rattle.lp_cert.proofs.NextLines.{lines_at_fork, lines_at_own_check, lines_at_scan}
use Rattle.lp_cert.proofs.OtherEvents.{lines_at_refused}
use Rattle.lp_cert.proofs.OwnChecks.{lone_blamed}
use Rattle.lp_cert.proofs.UnchangedEvents.{after_is, fork_new, lines_same, no_control, not_the_childs, next_is}
use Rattle.lp_cert.proofs.UnchangedScans.{is_waiting, scan_free, scan_own}
use Rattle.lp_cert.proofs.UnchangedSteps.{no_scan, scan_is, used_none}
use Rattle.lp_cert.proofs.FoundBlames.{some_none, blamed_there, unused_found, used_found}

-- a blame whose frame is there still stands
kept_there : (s : State) (b : Option StandingBlame) (o : Option StandingBlame) → b ≡ while_there s o → while_there s b ≡ b
kept_there s b None is = ap (while_there s) is ∙ sym is
kept_there s b (Some c) is = by (has_frame_in s c.task.0 c.serial) refl
  where
    by : (p : Bool) → has_frame_in s c.task.0 c.serial ≡ p → while_there s b ≡ b
    by true there =
        let some = is ∙ cond-true (has_frame_in s c.task.0 c.serial) (Some c) None there in
        ap (while_there s) some ∙ cond-true (has_frame_in s c.task.0 c.serial) (Some c) None there ∙ sym some
    by false gone =
        let none = is ∙ cond-false (has_frame_in s c.task.0 c.serial) (Some c) None gone in
        ap (while_there s) none ∙ sym none

-- ---- After an event

-- where the frames of the tasks are the same
frames_same : (s t : State) → s.tasks ≡ t.tasks → (has_frame_in s) ≡ (has_frame_in t)
frames_same s t same = ap (λ (tasks : ℕ → Fate LegTask). λ u serial. has_serial serial (tasks u)) same

module _ (model : Rules) (lawful : IsLawful model) (e : Engine) (sound : IsSound (state_in e)) (wide : IsWide e.table) (of_waiting : AreOfWaiting e) (leg : Leg) (leg_sound : IsSound leg.opening) (there : state_in e ≡ state_of model leg) (event : Event)
    (stays : opens model leg event ≡ false) (after : Engine) (there_after : state_in after ≡ state_of model (and_then leg event)) (blames : HasToldBlamesAfter model e event after)
    (was_unchanged : AreUnchangedBy model (state_in e) (lines model leg (length leg.events)) e.last_scan) (was : AreHeld (state_in e) (lines model leg (length leg.events)) e) where
  abbrev n : ℕ
  n = length leg.events

  abbrev now : State
  now = affected model (state_in e) event

  abbrev Lines : ℕ → List Line
  Lines g = lines model (and_then leg event) (suc n) g

  abbrev old : ℕ → List Line
  old g = lines model leg n g

  refused_in : refusal_of model (state_of model leg) event ≡ refusal_of model (state_in e) event
  refused_in = sym (ap (λ st. refusal_of model st event) there)

  few_of : (u : ℕ) (y : LegTask) → (state_in e).tasks u ≡ Live y → y.group < 65536
  few_of u y live = group_fits e u y sound wide (slot_from_live e.table u y live)

  -- ---- A refused event

  module _ (why : Refusal) (refused : refusal_of model (state_in e) event ≡ Some why) where
    counted_is : state_in after ≡ counted model (state_in e)
    counted_is =
        there_after ∙ (sym (next_is model lawful leg leg_sound event stays) ∙ (sym (ap (λ (st : State). next model st event) there) ∙ next-refused model (state_in e) event why refused))

    refused_held : (t : ℕ) (x : LegTask) → (state_in e).tasks t ≡ Live x → nat_eq x.level (state_in e).target ≡ false → Lines x.group ≡ old x.group → IsHeldBy (state_in after) (Lines x.group) (blame_of after x.group)
    refused_held t x live off same =
        subst (λ ls. IsHeldBy (state_in after) ls (blame_of after x.group)) (sym same)
        (subst (IsHeldBy (state_in after) (old x.group)) (sym (blames.blames x.group (few_of t x live) ∙ ap (blame_by model e event blames.verdicts x.group) refused))
        (same_held (state_in e) (state_in after) (old x.group) (blame_of e x.group) (subst (λ (st : State). (state_in e).number ≤ st.number) (sym counted_is) (omega arith))
        (λ u serial. ap (λ (st : State). has_frame_in st u serial) counted_is) (was t x live off)))

  -- ---- An accepted one

  module _ (accepted : refusal_of model (state_in e) event ≡ None) where
    plain : is_control event ≡ false
    plain = no_control model lawful leg leg_sound event stays (refused_in ∙ accepted)

    went : state_in after ≡ with_switches model (state_in e) event
    went = there_after ∙ (after_is model lawful leg leg_sound event stays (refused_in ∙ accepted) ∙ sym (ap (λ (st : State). with_switches model st event) there))

    -- the blame of a group
    blame_is : (g : ℕ) → g < 65536 → blame_of after g ≡ or_blame (while_there now (blame_of e g)) (frame_blame (refused_first model (state_in e) event blames.verdicts g))
    blame_is g few =
        blames.blames g few
        ∙ (ap (blame_by model e event blames.verdicts g) accepted
        ∙ cond-false (is_control event) None (or_blame (while_there now (blame_of e g)) (frame_blame (refused_first model (state_in e) event blames.verdicts g))) plain)

    -- where the group switches or not, the frames stay
    switched_held : (ls : List Line) (b : Option StandingBlame) → IsHeldBy now ls b → IsHeldBy (state_in after) ls b
    switched_held ls b held = subst (λ (st : State). IsHeldBy st ls b) (sym went) (same_held now (with_switches model (state_in e) event) ls b (omega arith) (λ u serial. frames_stay model (state_in e) event u serial) held)

    -- after the event's own effect
    affected_held : (ls : List Line) (b : Option StandingBlame) → IsHeldBy (state_in e) ls b → IsHeldBy now ls (while_there now b)
    affected_held ls b held = later_held (state_in e) now ls b (omega arith) (λ u serial old has. frame_before model.child_group (state_in e).number (state_in e).tasks serial old u event has) held

    module _ (g : ℕ) (few : g < 65536) (held : IsHeldBy (state_in e) (old g) (blame_of e g)) where
      -- nobody is refused
      quiet_held : Lines g ≡ old g → frame_blame (refused_first model (state_in e) event blames.verdicts g) ≡ None → IsHeldBy (state_in after) (Lines g) (blame_of after g)
      quiet_held same none =
          subst (λ ls. IsHeldBy (state_in after) ls (blame_of after g)) (sym same)
          (subst (IsHeldBy (state_in after) (old g)) (sym (blame_is g few ∙ (ap (or_blame (while_there now (blame_of e g))) none ∙ or_none (while_there now (blame_of e g)))))
          (switched_held (old g) (while_there now (blame_of e g)) (affected_held (old g) (blame_of e g) held)))
        where
          or_none : (o : Option StandingBlame) → or_blame o None ≡ o
          or_none None = refl
          or_none (Some c) = refl

      -- a check comes at which no task stands otherwise
      checked_held : now.tasks ≡ (state_in e).tasks → (first : Option (ℕ × Blame)) → IsThere (state_in e) first → Lines g ≡ after_check (has_frame_in (state_in e)) g (suc (state_in e).number) first (old g)
          → or_blame (blame_of e g) (frame_blame (refused_first model (state_in e) event blames.verdicts g)) ≡ or_blame (blame_of e g) (frame_blame first)
          → IsHeldBy (state_in after) (Lines g) (blame_of after g)
      checked_held same first has lines_are found =
          subst (λ ls. IsHeldBy (state_in after) ls (blame_of after g)) (sym (lines_are ∙ ap (λ has_frame. after_check has_frame g (suc (state_in e).number) first (old g)) (sym frames)))
          (subst (IsHeldBy (state_in after) (after_check (has_frame_in now) g (suc (state_in e).number) first (old g)))
          (sym (blame_is g few ∙ (ap (λ b. or_blame b (frame_blame (refused_first model (state_in e) event blames.verdicts g))) stands ∙ (found ∙ sym (ap (λ b. or_blame b (frame_blame first)) stands)))))
          (switched_held (after_check (has_frame_in now) g (suc (state_in e).number) first (old g)) (or_blame (while_there now (blame_of e g)) (frame_blame first))
          (check_held now g (suc (state_in e).number) (while_there now (blame_of e g)) first
          (λ u serial some. let h = has u serial some in let past : serial ≤ (state_in e).number = h.1 in (ap (λ has_frame. has_frame u serial) frames ∙ h.0, omega (arith, past)))
          (old g) (affected_held (old g) (blame_of e g) held))))
        where
          frames : (has_frame_in now) ≡ (has_frame_in (state_in e))
          frames = frames_same now (state_in e) same

          there_as : (o : Option StandingBlame) → while_there now o ≡ while_there (state_in e) o
          there_as None = refl
          there_as (Some c) = ap (λ has_frame. if has_frame c.task.0 c.serial then Some c else None) frames

          stands : while_there now (blame_of e g) ≡ blame_of e g
          stands = there_as (blame_of e g) ∙ kept_there (state_in e) (blame_of e g) (hold_of (old g)) held.blamed

    -- of a group with this member, which waits
    module _ (u : ℕ) (y : LegTask) (live : (state_in e).tasks u ≡ Live y) (off : nat_eq y.level (state_in e).target ≡ false) where
      waits : IsTrue (waits_in (state_in e) y.group)
      waits = is_waiting (state_in e) sound u y live off

      -- an event that is neither a check in the kernel nor a scan that the model uses finds no frame
      none_found : (ev : Event) → used_scan model ev ≡ None → is_resched ev ≡ false → (vs : List Verdict) → AreVerdictsFor model (state_in e) ev vs → frame_blame (refused_first model (state_in e) ev vs y.group) ≡ None
      none_found Walk none own vs right = unused_found model lawful (state_in e) sound kind.Walk y.group waits vs right (used_none model kind.Walk none)
      none_found Stop none own vs right = unused_found model lawful (state_in e) sound kind.Stop y.group waits vs right (used_none model kind.Stop none)
      none_found (Resched a) none own vs right = absurd (false≢true (sym own))
      none_found (Call a f) none own vs right = ap (λ ws. frame_blame (first_refused (state_in e) y.group ws)) right
      none_found (Ret a) none own vs right = ap (λ ws. frame_blame (first_refused (state_in e) y.group ws)) right
      none_found (Sleep a) none own vs right = ap (λ ws. frame_blame (first_refused (state_in e) y.group ws)) right
      none_found (Wake a) none own vs right = ap (λ ws. frame_blame (first_refused (state_in e) y.group ws)) right
      none_found (Enter a) none own vs right = ap (λ ws. frame_blame (first_refused (state_in e) y.group ws)) right
      none_found (Exit a) none own vs right = ap (λ ws. frame_blame (first_refused (state_in e) y.group ws)) right
      none_found (Idle a) none own vs right = ap (λ ws. frame_blame (first_refused (state_in e) y.group ws)) right
      none_found (Fork p c how) none own vs right = ap (λ ws. frame_blame (first_refused (state_in e) y.group ws)) right
      none_found (Die a) none own vs right = ap (λ ws. frame_blame (first_refused (state_in e) y.group ws)) right
      none_found Enable none own vs right = ap (λ ws. frame_blame (first_refused (state_in e) y.group ws)) right
      none_found Disable none own vs right = ap (λ ws. frame_blame (first_refused (state_in e) y.group ws)) right
      none_found Reverse none own vs right = ap (λ ws. frame_blame (first_refused (state_in e) y.group ws)) right

      member_quiet : used_scan model event ≡ None → is_resched event ≡ false → IsHeldBy (state_in after) (Lines y.group) (blame_of after y.group)
      member_quiet none own =
          quiet_held y.group (few_of u y live) (was u y live off)
          (lines_same model lawful leg leg_sound event (no_scan model event none) own u y (ap (λ (st : State). st.tasks u) (sym there) ∙ live))
          (none_found event none own blames.verdicts blames.enough)

      -- a scan that the model uses
      member_scanned : (on : CheckKind) → used_scan model event ≡ Some on → IsHeldBy (state_in after) (Lines y.group) (blame_of after y.group)
      member_scanned on some =
          let scan = scan_is model event on some in
          let first = first_blamed_in model (state_in e) on y.group in
          checked_held y.group (few_of u y live) (was u y live off)
          (ap (λ (ev : Event). (affected model (state_in e) ev).tasks) scan.is ∙ scan_own model (state_in e) on)
          first (blamed_there model lawful (state_in e) sound on scan.used y.group first refl)
          (ap (λ (ev : Event). lines model (and_then leg ev) (suc n) y.group) scan.is
          ∙ subst (λ (st : State). IsTrue (waits_in st y.group) → lines model (and_then leg (scan_event on)) (suc n) y.group ≡ after_check (has_frame_in st) y.group (suc st.number) (first_blamed_in model st on y.group) (old y.group)) (sym there)
          (lines_at_scan model leg on y.group scan.scan scan.used) waits)
          (ap (λ (ev : Event). or_blame (blame_of e y.group) (frame_blame (refused_first model (state_in e) ev blames.verdicts y.group))) scan.is
          ∙ (ap (λ o. or_blame (blame_of e y.group) (frame_blame o)) (scan_first on)
          ∙ used_found model lawful (state_in e) sound on y.group waits blames.verdicts
          (enough_for model (state_in e) on blames.verdicts scan.scan (subst (λ (ev : Event). AreVerdictsFor model (state_in e) ev blames.verdicts) scan.is blames.enough))
          (blame_of e y.group) (old y.group) (was u y live off) (known (blames.told on some u y live off))))
        where
          scan_first : (k : CheckKind) → refused_first model (state_in e) (scan_event k) blames.verdicts y.group ≡ first_refused (state_in e) y.group blames.verdicts
          scan_first kind.Walk = refl
          scan_first kind.Stop = refl
          scan_first kind.KernelExit = refl
          scan_first kind.IdlePoint = refl
          scan_first kind.Resched = refl

          known : (list_any (is_of (state_in e) y.group) blames.verdicts ≡ true) ⊎ IsKnown e on y.group → (list_any (is_of (state_in e) y.group) blames.verdicts ≡ true) ⊎ ((is_none (blame_of e y.group) ≡ false) ⊎ IsUnchanged model on (state_in e) y.group (old y.group))
          known told =
              ⊎_elim (λ (here : list_any (is_of (state_in e) y.group) blames.verdicts ≡ true). inl here)
              (λ (left_out : IsKnown e on y.group).
              ⊎_elim (λ (stuck : is_open e y.group ≡ false). inr (inl stuck))
              (λ (same : (e.last_scan.kind ≡ Some on) × (has e.last_scan.changed y.group ≡ false)).
              inr (inr (subst (λ (o : Option CheckKind). AreUnchangedSince model (state_in e) (lines model leg n) o (has e.last_scan.changed)) same.0 was_unchanged u y live off same.1)))
              left_out)
              told

      -- an own check in the kernel
      module _ (a : TaskId) (is : event ≡ Resched a) where
        abbrev alone : Bool
        alone = is_alone (state_in e).bounds (outlines_of (state_in e).tasks) y.group a.0

        abbrev first : Option (ℕ × Blame)
        first = if model.uses kind.Resched && is_alone (state_in e).bounds (outlines_of (state_in e).tasks) y.group a.0 then first_blamed_in model (state_in e) kind.Resched y.group else None

        none_there : IsThere (state_in e) None
        none_there k serial some = absurd (some_none (k, blame.Frame serial) (sym some))

        own_there : IsThere (state_in e) first
        own_there = by (model.uses kind.Resched) refl (is_alone (state_in e).bounds (outlines_of (state_in e).tasks) y.group a.0)
          where
            by : (used : Bool) → model.uses kind.Resched ≡ used → (lone : Bool) → IsThere (state_in e) (if model.uses kind.Resched && lone then first_blamed_in model (state_in e) kind.Resched y.group else None)
            by false unused lone = subst (λ b. IsThere (state_in e) (if b && lone then first_blamed_in model (state_in e) kind.Resched y.group else None)) (sym unused) none_there
            by true used false = subst (λ b. IsThere (state_in e) (if b && false then first_blamed_in model (state_in e) kind.Resched y.group else None)) (sym used) none_there
            by true used true =
                subst (λ b. IsThere (state_in e) (if b && true then first_blamed_in model (state_in e) kind.Resched y.group else None)) (sym used)
                (blamed_there model lawful (state_in e) sound kind.Resched used y.group (first_blamed_in model (state_in e) kind.Resched y.group) refl)

        -- what the engine finds is what is found of the group
        own_found : refused_first model (state_in e) (Resched a) blames.verdicts y.group ≡ first
        own_found = by (is_alone (state_in e).bounds (outlines_of (state_in e).tasks) y.group a.0) refl (model.uses kind.Resched) refl
          where
            engine : Bool → Option (ℕ × Blame)
            engine b = if b then option_map (λ why. (a.0, why)) (own_blame model (state_in e) a.0) else None

            asked : Fate LegTask → Option Blame
            asked fate = on_live None (λ (x : LegTask). model.blame kind.Resched (view_of a.0 x) (state_in e).aim) fate

            told : (lone : Bool) → is_alone (state_in e).bounds (outlines_of (state_in e).tasks) y.group a.0 ≡ lone → refused_first model (state_in e) (Resched a) blames.verdicts y.group ≡ engine lone
            told lone h = ap engine (ap₂ (λ p q. p && q) waits h)

            by_fate : is_alone (state_in e).bounds (outlines_of (state_in e).tasks) y.group a.0 ≡ true → (fate : Fate LegTask) → (state_in e).tasks a.0 ≡ fate → option_map (λ why. (a.0, why)) (asked fate) ≡ first_blamed_in model (state_in e) kind.Resched y.group
            by_fate lone Unused at = absurd (false≢true (sym (ap (λ fate. on_live false (λ x. nat_eq x.group y.group) (map_live outline_of fate)) at) ∙ (and_parts _ _ lone).0))
            by_fate lone Dead at = absurd (false≢true (sym (ap (λ fate. on_live false (λ x. nat_eq x.group y.group) (map_live outline_of fate)) at) ∙ (and_parts _ _ lone).0))
            by_fate lone (Live x) at =
                let mine : x.group ≡ y.group = eqb-true x.group y.group (sym (ap (λ fate. on_live false (λ z. nat_eq z.group y.group) (map_live outline_of fate)) at) ∙ (and_parts _ _ lone).0) in
                sym (lone_blamed model (state_in e) sound kind.Resched a.0 x at y.group mine lone)

            by : (lone : Bool) → is_alone (state_in e).bounds (outlines_of (state_in e).tasks) y.group a.0 ≡ lone → (used : Bool) → model.uses kind.Resched ≡ used
                → refused_first model (state_in e) (Resched a) blames.verdicts y.group ≡ (if model.uses kind.Resched && is_alone (state_in e).bounds (outlines_of (state_in e).tasks) y.group a.0 then first_blamed_in model (state_in e) kind.Resched y.group else None)
            by false not_lone used is_used = told false not_lone ∙ sym (ap₂ (λ p q. if p && q then first_blamed_in model (state_in e) kind.Resched y.group else None) is_used not_lone ∙ no (used))
              where
                no : (p : Bool) → (if p && false then first_blamed_in model (state_in e) kind.Resched y.group else None) ≡ None
                no true = refl
                no false = refl
            by true lone false unused =
                told true lone
                ∙ (ap (option_map (λ why. (a.0, why))) (cond-false (model.uses kind.Resched) (asked ((state_in e).tasks a.0)) None unused)
                ∙ sym (ap (λ p. if p && is_alone (state_in e).bounds (outlines_of (state_in e).tasks) y.group a.0 then first_blamed_in model (state_in e) kind.Resched y.group else None) unused))
            by true lone true used =
                told true lone
                ∙ (ap (option_map (λ why. (a.0, why))) (cond-true (model.uses kind.Resched) (asked ((state_in e).tasks a.0)) None used)
                ∙ (by_fate lone ((state_in e).tasks a.0) refl
                ∙ sym (ap₂ (λ p q. if p && q then first_blamed_in model (state_in e) kind.Resched y.group else None) used lone)))

        member_checked : IsHeldBy (state_in after) (Lines y.group) (blame_of after y.group)
        member_checked =
            checked_held y.group (few_of u y live) (was u y live off) (ap (λ (ev : Event). (affected model (state_in e) ev).tasks) is) first own_there
            (ap (λ (ev : Event). lines model (and_then leg ev) (suc n) y.group) is
            ∙ (lines_at_own_check model leg a y.group (sym (refusal_is model leg (Resched a)) ∙ (ap (refusal_of model (state_of model leg)) (sym is) ∙ (refused_in ∙ accepted)))
            ∙ (ap (λ (st : State). lines_after_own_check model st a y.group (old y.group)) (sym there)
            ∙ by (model.uses kind.Resched && is_alone (state_in e).bounds (outlines_of (state_in e).tasks) y.group a.0))))
            (ap (λ (ev : Event). or_blame (blame_of e y.group) (frame_blame (refused_first model (state_in e) ev blames.verdicts y.group))) is
            ∙ ap (λ o. or_blame (blame_of e y.group) (frame_blame o)) own_found)
          where
            by : (b : Bool) → (if b then lines_after_scan model (state_in e) kind.Resched y.group (old y.group) else old y.group)
                ≡ after_check (has_frame_in (state_in e)) y.group (suc (state_in e).number) (if b then first_blamed_in model (state_in e) kind.Resched y.group else None) (old y.group)
            by true = refl
            by false = refl

    -- ---- A child

    module _ (p c : TaskId) (how : ForkKind) (is : event ≡ Fork p c how) where
      forked : refusal_of model (state_in e) (Fork p c how) ≡ None
      forked = ap (refusal_of model (state_in e)) (sym is) ∙ accepted

      -- of a child's own group nothing is known yet
      child_held : (x y : LegTask) → (state_in e).tasks p.0 ≡ Live y → bearing model.child_group c.0 how y ≡ x → x.group ≡ c.0 → IsHeldBy (state_in after) (Lines x.group) (blame_of after x.group)
      child_held x y live born own =
          subst (λ ls. IsHeldBy (state_in after) ls (blame_of after x.group)) (sym lines_are) (record { past = tt; blamed = none })
        where
          new : (c.0 ≡ 0 → ⊥) × ((state_in e).tasks c.0 ≡ Unused) × (nat_lt (state_in e).bounds.tasks c.0 ≡ false)
          new = fork_new model (state_in e) p c how forked

          grouped : x.group ≡ model.child_group y.group c.0 how
          grouped = sym (ap (λ (z : LegTask). z.group) born)

          parents : on_live 0 (λ (z : LegTask). z.group) ((state_in e).tasks p.0) ≡ y.group
          parents = ap (λ fate. on_live 0 (λ (z : LegTask). z.group) fate) live

          own_group : (nat_eq x.group c.0 && nat_eq x.group (model.child_group (on_live 0 (λ (z : LegTask). z.group) ((state_in e).tasks p.0)) c.0 how)) ≡ true
          own_group = and_from (nat_eq x.group c.0) _ (eq-eqb x.group c.0 own) (eq-eqb x.group _ (grouped ∙ ap (λ k. model.child_group k c.0 how) (sym parents)))

          lines_are : Lines x.group ≡ birth_line x.group p (suc (state_in e).number) ∷ old (on_live 0 (λ (z : LegTask). z.group) ((state_in e).tasks p.0))
          lines_are =
              ap (λ (ev : Event). lines model (and_then leg ev) (suc n) x.group) is
              ∙ (lines_at_fork model leg p c how x.group (sym (refusal_is model leg (Fork p c how)) ∙ (ap (refusal_of model (state_of model leg)) (sym is) ∙ (refused_in ∙ accepted)))
              ∙ (ap (λ (st : State). lines_after_fork model st p c how old x.group) (sym there)
              ∙ cond-true _ (birth_line x.group p (suc (state_in e).number) ∷ old (on_live 0 (λ (z : LegTask). z.group) ((state_in e).tasks p.0))) (old x.group) own_group))

          -- nobody was in it
          open_before : blame_of e x.group ≡ None
          open_before = by (blame_of e x.group) refl
            where
              by : (o : Option StandingBlame) → blame_of e x.group ≡ o → blame_of e x.group ≡ None
              by None none = none
              by (Some b) some =
                  let w = some_live-is (state_in e).bounds (state_in e).tasks (λ k z. nat_eq z.group x.group && not (nat_eq z.level (state_in e).target)) (of_waiting x.group (ap is_none some)) in
                  let both = and_parts (nat_eq w.life.group x.group) (not (nat_eq w.life.level (state_in e).target)) w.passed in
                  absurd (not_the_childs model (state_in e) sound w.task w.life w.live p c how forked (eqb-true w.life.group x.group both.0 ∙ own))

          few : x.group < 65536
          few = let bound : c.0 ≤ 65535 = ltb-false 65535 c.0 new.2 in omega (arith, bound, own)

          no_verdict : (vs : List Verdict) → AreVerdictsFor model (state_in e) (Fork p c how) vs → frame_blame (refused_first model (state_in e) (Fork p c how) vs x.group) ≡ None
          no_verdict vs right = ap (λ ws. frame_blame (first_refused (state_in e) x.group ws)) right

          none : blame_of after x.group ≡ None
          none =
              blame_is x.group few
              ∙ (ap (λ o. or_blame (while_there now o) (frame_blame (refused_first model (state_in e) event blames.verdicts x.group))) open_before
              ∙ (ap (λ (ev : Event). frame_blame (refused_first model (state_in e) ev blames.verdicts x.group)) is ∙ no_verdict blames.verdicts (subst (λ (ev : Event). AreVerdictsFor model (state_in e) ev blames.verdicts) is blames.enough)))

    -- ---- A group that waits afterwards

    module _ (t : ℕ) (x : LegTask) (live : (state_in after).tasks t ≡ Live x) (off : nat_eq x.level (state_in after).target ≡ false) where
      here : now.tasks t ≡ Live x
      here = (left model (state_in e) event t x (ap (λ (st : State). st.tasks t) (sym went) ∙ live) (ap (λ (st : State). nat_eq x.level st.target) (sym went) ∙ off)).0

      off_here : nat_eq x.level (state_in e).target ≡ false
      off_here = ap (λ (st : State). nat_eq x.level st.target) (sym went) ∙ off

      abbrev Goal : Type 0
      Goal = IsHeldBy (state_in after) (Lines x.group) (blame_of after x.group)

      -- as a member of it waited before
      from_member : (f : IsFrom (state_in e).tasks x) → ((u : ℕ) (y : LegTask) → (state_in e).tasks u ≡ Live y → nat_eq y.level (state_in e).target ≡ false → IsHeldBy (state_in after) (Lines y.group) (blame_of after y.group)) → Goal
      from_member f held = subst (λ g. IsHeldBy (state_in after) (Lines g) (blame_of after g)) f.group (held f.task f.life f.live (ap (λ l. nat_eq l (state_in e).target) f.level ∙ off_here))

      own : is_fork event ≡ false → IsFrom (state_in e).tasks x
      own plain_event = own_from model.child_group (suc (state_in e).number) (state_in e).tasks t x event plain_event here

      fork_from : (p c : TaskId) (how : ForkKind) → event ≡ Fork p c how → used_scan model event ≡ None → is_resched event ≡ false → Goal
      fork_from p c how is unscanned no_check =
          ⊎_elim
          (λ (this : nat_eq t c.0 ≡ true).
          let w = live_from (bearing model.child_group c.0 how) ((state_in e).tasks p.0) x (sym (cond-true (nat_eq t c.0) (map_live (bearing model.child_group c.0 how) ((state_in e).tasks p.0)) ((state_in e).tasks t) this) ∙ at) in
          ⊎_elim
          (λ (same : model.child_group w.0.group c.0 how ≡ w.0.group).
          from_member (record { task = p.0; life = w.0; live = w.1; group = sym same ∙ ap (λ (z : LegTask). z.group) w.2; level = ap (λ (z : LegTask). z.level) w.2 }) (λ u y lives waiting. member_quiet u y lives waiting unscanned no_check))
          (λ (alone : model.child_group w.0.group c.0 how ≡ c.0). child_held p c how is x w.0 w.1 w.2 (sym (ap (λ (z : LegTask). z.group) w.2) ∙ alone))
          (lawful.child w.0.group c.0 how))
          (λ (other : nat_eq t c.0 ≡ false).
          from_member (record { task = t; life = x; live = sym (cond-false (nat_eq t c.0) (map_live (bearing model.child_group c.0 how) ((state_in e).tasks p.0)) ((state_in e).tasks t) other) ∙ at; group = refl; level = refl })
          (λ u y lives waiting. member_quiet u y lives waiting unscanned no_check))
          (cases_Bool (nat_eq t c.0))
        where
          at : (affected model (state_in e) (Fork p c how)).tasks t ≡ Live x
          at = ap (λ (ev : Event). (affected model (state_in e) ev).tasks t) (sym is) ∙ here

      accepted_held : Goal
      accepted_held = by_scan (used_scan model event) refl
        where
          by : used_scan model event ≡ None → (ev : Event) → event ≡ ev → (f : Bool) → is_fork ev ≡ f → (r : Bool) → is_resched ev ≡ r → Goal
          by none (Fork p c how) is f fork r resched = fork_from p c how is none (ap is_resched is)
          by none (Resched a) is f fork r resched = from_member (own (ap is_fork is)) (λ u y lives waiting. member_checked u y lives waiting a is)
          by none ev is false fork false resched = from_member (own (ap is_fork is ∙ fork)) (λ u y lives waiting. member_quiet u y lives waiting none (ap is_resched is ∙ resched))
          by none ev is true fork r resched = absurd (cc)
          by none ev is false fork true resched = absurd (cc)

          no_fork : (on : CheckKind) → is_fork (scan_event on) ≡ false
          no_fork kind.Walk = refl
          no_fork kind.Stop = refl
          no_fork kind.KernelExit = refl
          no_fork kind.IdlePoint = refl
          no_fork kind.Resched = refl

          by_scan : (o : Option CheckKind) → used_scan model event ≡ o → Goal
          by_scan None none = by none event refl (is_fork event) refl (is_resched event) refl
          by_scan (Some on) some = from_member (own (ap is_fork (scan_is model event on some).is ∙ no_fork on)) (λ u y lives waiting. member_scanned u y lives waiting on some)

  -- ---- Both

  refused_lines : (why : Refusal) → refusal_of model (state_in e) event ≡ Some why → (u : ℕ) (y : LegTask) → (state_in e).tasks u ≡ Live y → Lines y.group ≡ old y.group
  refused_lines why refused u y live = by_scan (used_scan model event) refl
    where
      by : used_scan model event ≡ None → (ev : Event) → event ≡ ev → (r : Bool) → is_resched ev ≡ r → Lines y.group ≡ old y.group
      by none (Resched a) is r resched =
          ap (λ (k : Event). lines model (and_then leg k) (suc n) y.group) is
          ∙ lines_at_refused model lawful leg leg_sound (Resched a) y.group why (sym (plain_refusal model leg (Resched a) refl) ∙ (sym (refusal_is model leg (Resched a)) ∙ (ap (refusal_of model (state_of model leg)) (sym is) ∙ (refused_in ∙ refused))))
      by none ev is false resched = lines_same model lawful leg leg_sound event (no_scan model event none) (ap is_resched is ∙ resched) u y (ap (λ (st : State). st.tasks u) (sym there) ∙ live)
      by none ev is true resched = absurd (cc)

      by_scan : (o : Option CheckKind) → used_scan model event ≡ o → Lines y.group ≡ old y.group
      by_scan None none = by none event refl (is_resched event) refl
      by_scan (Some on) some = absurd (some_none why (sym refused ∙ (ap (refusal_of model (state_in e)) (scan_is model event on some).is ∙ scan_free model (state_in e) on)))

  pub held_on : AreHeld (state_in after) (lines model (and_then leg event) (suc n)) after
  held_on t x live off = by (refusal_of model (state_in e) event) refl
    where
      by : (o : Option Refusal) → refusal_of model (state_in e) event ≡ o → IsHeldBy (state_in after) (Lines x.group) (blame_of after x.group)
      by None accepted = accepted_held accepted t x live off
      by (Some why) refused =
          let live_here : (state_in e).tasks t ≡ Live x = ap (λ (st : State). st.tasks t) (sym (counted_is why refused)) ∙ live in
          let off_here : nat_eq x.level (state_in e).target ≡ false = ap (λ (st : State). nat_eq x.level st.target) (sym (counted_is why refused)) ∙ off in
          refused_held why refused t x live_here off_here (refused_lines why refused t x live_here)

-- where nobody has a line, and no group a blame
pub none_held : (s : State) (ls : ℕ → List Line) (e : Engine) → ((g : ℕ) → ls g ≡ []) → ((t : ℕ) (x : LegTask) → s.tasks t ≡ Live x → blame_of e x.group ≡ None) → AreHeld s ls e
none_held s ls e none free t x live off =
    subst (λ ms. IsHeldBy s ms (blame_of e x.group)) (sym (none x.group)) (record { past = tt; blamed = free t x live })
