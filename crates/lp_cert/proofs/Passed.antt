-- A call, a return, a sleep, a wake-up and an entry into the kernel change the lines of no group.
use Rattle.std.proofs.Common.{◌≡◌, ◌<◌, ◌+◌, ℕ, suc, Bool, true, false, not, ◌&&◌, List, [], Option, Some, None, IsSome, is_none, if◌then◌else◌, nat_eq, refl, sym, ap, subst, ◌∙◌}
use mathlib.Core.Path.{fun_ext}
use Rattle.std.specs.Option.{option_map}
use Rattle.std.specs.List.{list_any}
use Rattle.std.proofs.lemmas.Bool.{cond-false, false≢true}
use Rattle.lp_stack.specs.declared.view.Mode.TheVariants.{Kernel, Asleep}
use Rattle.lp_model.specs.Rules.{Rules, IsLawful}
use Rattle.lp_definitions.specs.declared.event.Event.{Event}
use Rattle.lp_definitions.specs.declared.event.Event.TheVariants.{Call, Ret, Sleep, Wake, Enter}
use Rattle.lp_definitions.specs.declared.refusal.Refusal.{Refusal}
use Rattle.lp_definitions.specs.declared.reply.Reply.{Reply}
use Rattle.lp_definitions.specs.Events.{is_control, is_scan}
use Rattle.lp_definitions.specs.TaskEvents.{is_quiet}
use Rattle.lp_definitions.specs.Tasks.{change}
use Rattle.lp_definitions.specs.Leg.{LegTask, State, each_live, each_task}
use Rattle.lp_definitions.specs.Run.{Run, switched, plus}
use Rattle.lp_machine.specs.Machine.{complete_in, affected, answer, calling, switches_at, put_in, refusal_of, returning, with_switches, told}
use Rattle.lp_transition.specs.inside.ScanSteps.{groups_of}
use Rattle.lp_machine.specs.Steps.{StandsIn}
use Rattle.lp_machine.specs.Table.{Engine, IsWide, state_in}
use Rattle.lp_transition.specs.Blames.{AreOfWaiting}
use Rattle.lp_transition.specs.Weigh.{HasToldBlamesAfter, Weighed, refusal_in}
use Rattle.lp_machine.proofs.Alone.{same-after}
use Rattle.lp_machine.proofs.EngineLemmas.{answer-refused, answer-accepted, is_unchecked, unchecked-control, unchecked-stays, switched-still}
use Rattle.lp_transition.proofs.SwitchedGroups.{switched-none}
use Rattle.lp_model.specs.declared.check.CheckKind.{CheckKind}
use Rattle.lp_definitions.specs.declared.line.Line.{Line}
use Rattle.lp_cert.specs.declared.open_leg.OpenLeg.{OpenLeg}
use Rattle.lp_cert.specs.Ends.{Made, IsMadeWith}
use Rattle.lp_cert.specs.Invariant.{open_end}
use Rattle.lp_cert.specs.inside.Invariant.{IsStepped, plain_step}
use Rattle.lp_cert.specs.Waiters.{WaitingGroups}
use Rattle.lp_cert.specs.inside.Waiters.{lines_at, HasFewGroups, own_lines}
use Rattle.lp_cert.specs.inside.StepLines.{noted_by, noted_lines}
use Rattle.lp_transition.specs.LastScan.{IsLastScanAfter, used_scan}
use Rattle.lp_transition.proofs.Told.{plain_unused}
use Rattle.lp_cert.proofs.PlainEvents.{HasGoneOn, opens_none, plain_made}

quiet : (event : Event) → is_quiet event ≡ true → is_unchecked event ≡ true
quiet (Call t f) h = refl
quiet (Ret t) h = refl
quiet (Sleep t) h = refl
quiet (Wake t) h = refl
quiet (Enter t) h = refl
quiet _ h = cc

and_not : (b : Bool) → (b && not b) ≡ false
and_not true = refl
and_not false = refl

module _ (model : Rules) (s : State) where
  -- who is off the target stays so
  rests : (t : ℕ) (f : LegTask → LegTask) → ((x : LegTask) → (f x).level ≡ x.level) → ((x : LegTask) → (f x).group ≡ x.group) → complete_in (record s { number = suc s.number; tasks = change t f s.tasks }) ≡ complete_in s
  unfolding each_live
  rests t f levels groups = ap (each_task s.bounds.tasks) (fun_ext (same-after t f levels groups true (λ u level group. nat_eq level s.target) s.tasks))

  stays : (event : Event) → is_quiet event ≡ true → (group : ℕ) → switches_at model (affected model s event) event group ≡ false
  stays event plain group = unchecked-stays model (affected model s event) event group (quiet event plain)

  rests_after : (event : Event) → is_quiet event ≡ true → complete_in (affected model s event) ≡ complete_in s
  rests_after (Call t f) plain = rests t.0 (calling (suc s.number) f) (λ x. refl) (λ x. refl)
  rests_after (Ret t) plain = rests t.0 returning (λ x. refl) (λ x. refl)
  rests_after (Sleep t) plain = rests t.0 (put_in Asleep) (λ x. refl) (λ x. refl)
  rests_after (Wake t) plain = rests t.0 (put_in Kernel) (λ x. refl) (λ x. refl)
  rests_after (Enter t) plain = rests t.0 (put_in Kernel) (λ x. refl) (λ x. refl)
  rests_after _ plain = cc

  no_groups : (event : Event) → is_quiet event ≡ true → groups_of (told model s event) ≡ []
  no_groups (Call t f) plain = refl
  no_groups (Ret t) plain = ap (λ gs. groups_of (switched gs)) (switched-none model (affected model s (Ret t)) (Ret t) (stays (Ret t) plain))
  no_groups (Sleep t) plain = ap (λ gs. groups_of (switched gs)) (switched-none model (affected model s (Sleep t)) (Sleep t) (stays (Sleep t) plain))
  no_groups (Wake t) plain = ap (λ gs. groups_of (switched gs)) (switched-none model (affected model s (Wake t)) (Wake t) (stays (Wake t) plain))
  no_groups (Enter t) plain = ap (λ gs. groups_of (switched gs)) (switched-none model (affected model s (Enter t)) (Enter t) (stays (Enter t) plain))
  no_groups _ plain = cc

  -- the answer to such an event: nothing completes, and no group switches
  abbrev IsStill : Reply → Type 0
  IsStill given = (given.completed ≡ false) × (groups_of given.what ≡ [])

  still_by : (event : Event) → is_quiet event ≡ true → (r : Option Refusal) → refusal_of model s event ≡ r → IsStill (answer model s event)
  still_by event plain (Some why) e = rw (answer-refused model s event why e) (refl, refl)
  still_by event plain None e =
      let control : is_control event ≡ false = unchecked-control model event (quiet event plain) in
      let is : answer model s event ≡ record { what = told model s event; completed = complete_in (with_switches model s event) && not (complete_in s) } = answer-accepted model s event e ∙ cond-false _ _ _ control in
      let same : complete_in (with_switches model s event) ≡ complete_in s = ap complete_in (switched-still model s event (stays event plain)) ∙ rests_after event plain in
      rw is (ap (λ b. b && not (complete_in s)) same ∙ and_not (complete_in s), no_groups event plain)

  pub still : (event : Event) → is_quiet event ≡ true → IsStill (answer model s event)
  still event plain = still_by event plain (refusal_of model s event) refl

own_same : (model : Rules) (e : Engine) (event : Event) → is_quiet event ≡ true → (lines : ℕ → Option (List Line)) (group : ℕ) → own_lines model e event [] lines group ≡ lines group
own_same model e (Call t f) plain lines group = refl
own_same model e (Ret t) plain lines group = refl
own_same model e (Sleep t) plain lines group = refl
own_same model e (Wake t) plain lines group = refl
own_same model e (Enter t) plain lines group = refl
own_same model e _ plain lines group = cc

few : (e : Engine) (event : Event) → is_quiet event ≡ true → HasFewGroups e event
few e (Call t f) plain = tt
few e (Ret t) plain = tt
few e (Sleep t) plain = tt
few e (Wake t) plain = tt
few e (Enter t) plain = tt
few e _ plain = cc

pub unscanned : (event : Event) → is_quiet event ≡ true → is_scan event ≡ false
unscanned (Call t f) plain = refl
unscanned (Ret t) plain = refl
unscanned (Sleep t) plain = refl
unscanned (Wake t) plain = refl
unscanned (Enter t) plain = refl
unscanned _ plain = cc

module _ (model : Rules) (lawful : IsLawful model) (run : Run) (e : Engine) (stands : StandsIn model run (state_in e)) (event : Event) (plain : is_quiet event ≡ true) (room : e.number < 1000000) where
  abbrev step : Weighed
  step = plain_step model e event

  unused : used_scan model event ≡ None
  unused = plain_unused model event (unscanned event plain)

  continues : (number : ℕ) (leg : OpenLeg) (waiters : WaitingGroups) → IsStepped model e step number leg leg waiters waiters
  continues number leg waiters =
      let answered = still model (state_in e) event plain in
      record {
        complete = λ done is. (refl, refl);
        completes = λ unfinished completed. absurd (false≢true (sym answered.0 ∙ completed));
        continues = λ unfinished incomplete. (
          refl,
          λ group. same (is_none (refusal_in step.reply.what)) (lines_at waiters) group ∙ noted (is_none (refusal_in step.reply.what)) group,
          λ accepted. few e event plain,
          λ used accepted. absurd (false≢true (subst IsSome unused used)),
        );
      }
    where
      same : (accepted : Bool) (lines : ℕ → Option (List Line)) (group : ℕ) → lines group ≡ (if accepted then (if list_any (nat_eq group) (groups_of step.reply.what) then None else own_lines model e event [] lines group) else lines group)
      same false lines group = refl
      same true lines group =
          sym (own_same model e event plain lines group)
          ∙ ap (λ gone. if list_any (nat_eq group) gone then None else own_lines model e event [] lines group) (sym (still model (state_in e) event plain).1)

      -- no scan's lines
      noted : (accepted : Bool) (group : ℕ)
          → (if accepted then (if list_any (nat_eq group) (groups_of step.reply.what) then None else own_lines model e event [] (lines_at waiters) group) else lines_at waiters group)
          ≡ (if accepted then (if list_any (nat_eq group) (groups_of step.reply.what) then None else noted_lines model e event [] waiters group) else lines_at waiters group)
      noted accepted group =
          ap (λ (o : Option CheckKind). if accepted then (if list_any (nat_eq group) (groups_of step.reply.what) then None else noted_by model e o event [] waiters group) else lines_at waiters group) (sym unused)

  -- what is made of the run with the event more
  pub passed : (made new : Made) → IsMadeWith model run e made → IsWide e.table → AreOfWaiting e → (after : Engine) → StandsIn model (plus run event) (state_in after) → HasToldBlamesAfter model e event after → IsLastScanAfter model e event after → new.ended ≡ made.ended
      → (noted number : ℕ) (waiters : WaitingGroups) → number ≡ e.number + 1 → (current : Option OpenLeg) → made.current ≡ option_map (open_end noted waiters) current → new.current ≡ option_map (open_end number waiters) current
      → IsMadeWith model (plus run event) after new
  passed made new is wide of_waiting after stands_after blamed known ended noted number waiters numbered current =
      plain_made model lawful run e stands event (unscanned event plain) (opens_none model e event (unchecked-control model event (quiet event plain))) room wide of_waiting made new is after stands_after blamed known ended noted number numbered waiters waiters current current (gone current)
    where
      gone : (leg : Option OpenLeg) → HasGoneOn model e event number leg leg waiters waiters
      gone None = tt
      gone (Some leg) = continues number leg waiters
