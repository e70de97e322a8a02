-- What is made of a run, after one event more.
use Rattle.std.proofs.Common.{◌≡◌, ℕ, suc, ◌+◌, ◌-◌, ◌<◌, Bool, true, false, not, ◌&&◌, ◌||◌, List, [], ◌∷◌, ◌++◌, length, map, filter, take, drop, Option, Some, None, is_none, option_to_list, if◌then◌else◌, refl, sym, ap, ap₂, subst, ◌∙◌, ⊎_elim, arith, append-nil, append_assoc, length-append}
use Rattle.std.specs.List.{range_with_len}
use Rattle.std.specs.Option.{option_map}
use Rattle.std.proofs.lemmas.Bool.{false≢true, cond-true, cond-false, cases_Bool, and_parts}
use Rattle.lp_model.specs.Rules.{Rules, IsLawful}
use Rattle.lp_definitions.specs.declared.event.Event.{Event}
use Rattle.lp_definitions.specs.declared.reply.Reply.{Reply}
use Rattle.lp_definitions.specs.Events.{is_control}
use Rattle.lp_definitions.specs.Leg.{State, Leg, after}
use Rattle.lp_definitions.specs.Tasks.{Live}
use Rattle.lp_definitions.specs.Run.{Run, plus, first_leg, leg_of, and_then, is_complete_now, opened, opens, next_leg, reply, new_target, leg_after, refused_by as why_refused}
use Rattle.lp_definitions.specs.Sound.{IsSound}
use Rattle.lp_machine.specs.Steps.{StandsIn}
use Rattle.lp_machine_laws.proofs.Runs.{leg_after-plus}
use Rattle.lp_machine_laws.proofs.States.{state_sound}
use Rattle.lp_laws.proofs.WholeRun.{run_sound, start_sound}
use Rattle.std.proofs.lemmas.List.{map-append}
use Rattle.lp_machine.specs.Machine.{waits_in, next, turned, answer, refusal_of, state_of}
use Rattle.lp_machine.specs.Table.{Engine, IsWide, state_in}
use Rattle.lp_transition.specs.Weigh.{Weighed, IsWeighed, HasToldBlamesAfter, refusal_in}
use Rattle.lp_transition.specs.Blames.{AreOfWaiting, blame_by}
use Rattle.lp_machine.proofs.EngineLemmas.{next-turned}
use Rattle.lp_machine_laws.proofs.Steps.{complete_is, refusal_is, does}
use Rattle.lp_tasks.proofs.TableLemmas.{slot_from_live}
use Rattle.lp_transition.proofs.ScanTakes.{group_fits}
use Rattle.lp_transition.proofs.Weighing.{refused-as}
use Rattle.lp_definitions.specs.declared.cert.Claim.TheVariants.{Waiting, Floor}
use Rattle.lp_definitions.specs.declared.cert.Cert.{Cert}
use Rattle.lp_definitions.specs.declared.line.Line.{Line}
use Rattle.lp_definitions.specs.Ends.{LegEnd, end_of}
use Rattle.lp_cert.specs.declared.head.Waiter.{Waiter}
use Rattle.lp_cert.specs.declared.open_leg.OpenLeg.{OpenLeg}
use Rattle.lp_definitions.specs.Certificates.{lines, waiting_certs, completion, certs_by}
use Rattle.lp_cert.specs.Ends.{Made, IsMadeWith, ended_legs, is_opening, under_way}
use Rattle.lp_cert.specs.Invariant.{open_end}
use Rattle.lp_cert.specs.inside.Invariant.{leg_at, IsStepped}
use Rattle.lp_cert.specs.Waiters.{WaitingGroups, kept_cert, waiters_of}
use Rattle.lp_cert.specs.inside.Waiters.{HasFewGroups, has_off, lines_at}
use Rattle.lp_laws.proofs.Completions.{past_floor, completion_opened, completion_below, certs_kept, completion_stays, completion_now, incomplete_if}
use Rattle.lp_cert.proofs.LegCerts.{floor_are, none_waits, waiting_are}
use Rattle.lp_cert.proofs.Making.{none_is, cert_for, certs_from, certs_tell, floor_from, no_waiters}
use Rattle.lp_transition.specs.LastScan.{IsLastScanAfter, used_scan}
use Rattle.lp_cert.specs.Unchanged.{AreHeld, AreUnchangedBy}
use Rattle.lp_cert.proofs.Held.{held_on, none_held}
use Rattle.lp_cert.proofs.ScanTold.{TellsOrUnchanged, tells_unchanged}
use Rattle.lp_cert.proofs.UnchangedSteps.{none_unchanged, unchanged_on}
use Rattle.lp_cert.proofs.StepLines.{IsFew, step_lines}

-- ---- The end of a leg that isn't complete

-- a leg that isn't complete
abbrev still : OpenLeg → OpenLeg
still leg = record leg { completed = None }

still_is : (leg : OpenLeg) → leg.completed ≡ None → leg ≡ still leg
still_is leg e = ap (λ (o : Option ℕ). record leg { completed = o }) e

none_map : (f : ℕ → ℕ) (o : Option ℕ) → None ≡ option_map f o → o ≡ None
none_map f None e = refl
none_map f (Some k) e = absurd (cc)

some_map : (f : ℕ → ℕ) (d : ℕ) (o : Option ℕ) → Some d ≡ option_map f o → (k : ℕ) × (o ≡ Some k)
some_map f d None e = absurd (cc)
some_map f d (Some k) e = (k, refl)

module _ (model : Rules) (lawful : IsLawful model) (e : Engine) (sound : IsSound (state_in e)) (leg : Leg) (leg_sound : IsSound leg.opening) (there : state_in e ≡ state_of model leg) (step : Weighed) (weighed : IsWeighed model e step) where
  abbrev event : Event
  event = step.event

  abbrev k : ℕ
  k = length leg.events

  tasks_are : leg.bounds.tasks ≡ 65535
  tasks_are = sym (ap (λ (s : State). s.bounds.tasks) there)

  number_is : e.number ≡ leg.number + k
  number_is = ap (λ (s : State). s.number) there

  refused_is : refusal_in step.reply.what ≡ refusal_of model (state_in e) event
  refused_is = ap (λ (r : Reply). refusal_in r.what) weighed.reply ∙ refused-as model (state_in e) event

  why_is : refusal_in step.reply.what ≡ why_refused model leg event
  why_is = refused_is ∙ (ap (λ (s : State). refusal_of model s event) there ∙ refusal_is model leg event)

  pub opening_is : is_opening step ≡ opens model leg event
  opening_is = ap (λ o. is_control event && is_none o) why_is

  reply_is : step.reply ≡ reply model leg event
  reply_is = weighed.reply ∙ (ap (λ (s : State). answer model s event) there ∙ (does model leg event lawful leg_sound).answers)

  -- ---- The leg under way as it is kept

  module _ (noted : ℕ) (old : OpenLeg) (before : WaitingGroups) (was : open_end noted before old ≡ end_of model leg) (unended : old.completed ≡ None) where
    was_still : open_end noted before (still old) ≡ end_of model leg
    was_still = sym (ap (open_end noted before) (still_is old unended)) ∙ was

    no_moment : completion model leg ≡ None
    no_moment = none_map (λ m. leg.number + m) (completion model leg) (ap (λ (l : LegEnd). l.completed) was_still)

    opened_same : old.opened ≡ leg.number
    opened_same = ap (λ (l : LegEnd). l.opened) was_still

    target_same : old.target.0 ≡ leg.target
    target_same = ap (λ (l : LegEnd). l.target.0) was_still

    -- the lines of who waits
    pub lines_before : (g : ℕ) → g < 65536 → lines_at before g ≡ (if waits_in (state_in e) g then Some (lines model leg k g) else None)
    lines_before g below =
        certs_tell Waiting old.opened noted before Waiting leg.number (leg.number + k) (waits_in (state_of model leg)) (lines model leg k)
        (ap (λ (l : LegEnd). l.certs) was_still ∙ (ap (certs_by model leg) no_moment ∙ waiting_are model leg tasks_are)) g below
        ∙ ap (λ (s : State). if waits_in s g then Some (lines model leg k g) else None) (sym there)

  -- ---- No leg opens

  module _ (stays : opens model leg event ≡ false) where
    next_is : next_leg model leg event ≡ and_then leg event
    unfolding next_leg
    next_is = cond-false (opens model leg event) (opened model leg event) (and_then leg event) stays

    state_is : next model (state_in e) event ≡ state_of model (and_then leg event)
    state_is = ap (λ (s : State). next model s event) there ∙ ((does model leg event lawful leg_sound).next_state ∙ ap (state_of model) next_is)

    plain : refusal_of model (state_in e) event ≡ None → is_control event ≡ false
    plain ok =
        by (is_control event) refl
      where
        by : (b : Bool) → is_control event ≡ b → is_control event ≡ false
        by false is = is
        by true is =
            let open_it : opens model leg event ≡ true = ap₂ (λ a b. a && b) is (ap is_none (sym why_is ∙ (refused_is ∙ ok))) in
            absurd (false≢true (sym stays ∙ open_it))

    completes_is : is_complete_now model leg ≡ false → step.reply.completed ≡ is_complete_now model (and_then leg event)
    unfolding reply
    completes_is quiet =
        ap (λ (r : Reply). r.completed) reply_is
        ∙ (ap₂ (λ (l : Leg) (b : Bool). is_complete_now model l && (b || not (is_complete_now model leg))) next_is stays
        ∙ (ap (λ b. is_complete_now model (and_then leg event) && not b) quiet ∙ and_one (is_complete_now model (and_then leg event))))
      where
        and_one : (b : Bool) → (b && true) ≡ b
        and_one true = refl
        and_one false = refl

    length_is : length (and_then leg event).events ≡ suc k
    length_is = length-append leg.events (event ∷ []) ∙ omega arith

    module _ (noted number : ℕ) (old new : OpenLeg) (before later : WaitingGroups) (numbered : number ≡ e.number + 1) (was : open_end noted before old ≡ end_of model leg) (gone : IsStepped model e step number old new before later)
        (suffices : old.completed ≡ None → step.reply.completed ≡ false → TellsOrUnchanged model (state_in e) (lines model leg k) (used_scan model step.event) step.verdicts) where
      -- a complete leg stays as it is
      complete_stays : (done : ℕ) → old.completed ≡ Some done → open_end number later new ≡ end_of model (and_then leg event)
      complete_stays done is =
          let kept = gone.complete done is in
          let at : Some done ≡ option_map (λ m. leg.number + m) (completion model leg) = sym is ∙ ap (λ (l : LegEnd). l.completed) was in
          let moment = some_map (λ m. leg.number + m) done (completion model leg) at in
          let longer = completion_stays model lawful leg leg_sound event moment.0 moment.1 in
          let ended : end_of model leg ≡ end_of model (and_then leg event) =
          ap₂ (λ (o : Option ℕ) (certs : List Cert). let l : LegEnd = record { opened = leg.number; target = record { 0 = leg.target }; completed = option_map (λ m. leg.number + m) o; certs = certs } in l)
          (moment.1 ∙ sym longer)
          (ap (certs_by model leg) moment.1 ∙ (sym (certs_kept model leg event moment.0 (completion_below model leg moment.0 moment.1)) ∙ ap (certs_by model (and_then leg event)) (sym longer))) in
          let same : open_end number before old ≡ open_end noted before old =
          ap (λ (o : Option ℕ). open_end number before (record old { completed = o })) is ∙ sym (ap (λ (o : Option ℕ). open_end noted before (record old { completed = o })) is) in
          ap₂ (λ (w : WaitingGroups) (l : OpenLeg). open_end number w l) kept.1 kept.0 ∙ (same ∙ (was ∙ ended))

      module _ (unended : old.completed ≡ None) where
        completes_now : step.reply.completed ≡ true → open_end number later new ≡ end_of model (and_then leg event)
        completes_now now =
            let done = gone.completes unended now in
            let complete : is_complete_now model (and_then leg event) ≡ true = sym (completes_is (incomplete_if model lawful leg leg_sound (no_moment noted old before was unended))) ∙ now in
            let moment : completion model (and_then leg event) ≡ Some (suc k) = completion_now model lawful leg leg_sound event (no_moment noted old before was unended) true complete in
            let at : number ≡ leg.number + suc k = omega (arith, numbered, number_is) in
            let upto : number - 1 ≡ leg.number + k = omega (arith, at) in
            let certs : map (kept_cert Floor old.opened (number - 1) later.reasons.lists later.reasons.scans) (waiters_of later) ≡ certs_by model (and_then leg event) (Some (suc k)) =
            ap₂ (λ a b. map (kept_cert Floor a b later.reasons.lists later.reasons.scans) (waiters_of later)) (opened_same noted old before was unended) upto
            ∙ (floor_from leg.number (leg.number + k) before later done.least done.reasons (waits_in (state_in e)) (lines model leg k) (lines_before noted old before was unended)
            ∙ (ap (λ (s : State). map (cert_for Floor leg.number (leg.number + k) (lines model leg k)) (take 1 (filter (waits_in s) (range_with_len 0 65536)))) there
            ∙ (sym (floor_are model leg tasks_are) ∙ sym (past_floor model leg event k (omega arith))))) in
            ap (open_end number later) done.now
            ∙ (ap₂ (λ (a b : ℕ). let l : LegEnd = record { opened = a; target = record { 0 = b }; completed = Some number; certs = map (kept_cert Floor old.opened (number - 1) later.reasons.lists later.reasons.scans) (waiters_of later) } in l) (opened_same noted old before was unended) (target_same noted old before was unended)
            ∙ ap₂ (λ (o : Option ℕ) (cs : List Cert). let l : LegEnd = record { opened = leg.number; target = record { 0 = leg.target }; completed = o; certs = cs } in l)
            (ap {A = ℕ} {B = Option ℕ} Some at ∙ ap (option_map (λ m. leg.number + m)) (sym moment))
            (certs ∙ ap (certs_by model (and_then leg event)) (sym moment)))

        pub after_lines : step.reply.completed ≡ false → (g : ℕ) → g < 65536 → lines_at later g ≡ (if waits_in (state_of model (and_then leg event)) g then Some (lines model (and_then leg event) (length (and_then leg event).events) g) else None)
        after_lines now g below =
            let on = gone.continues unended now in
            let few : refusal_of model (state_in e) event ≡ None → IsFew model lawful e sound leg leg_sound there before (lines_before noted old before was unended) event =
            λ ok p c how is. subst (HasFewGroups e) is (on.2 (refused_is ∙ ok)) in
            on.1 g
            ∙ (step_lines model lawful e sound leg leg_sound there before (lines_before noted old before was unended) step weighed (suffices unended now) on.3 plain few g below
            ∙ ap₂ (λ (s : State) (m : ℕ). if waits_in s g then Some (lines model (and_then leg event) m g) else None) state_is (sym length_is))

        continues_now : step.reply.completed ≡ false → open_end number later new ≡ end_of model (and_then leg event)
        continues_now now =
            let on = gone.continues unended now in
            let incomplete : is_complete_now model (and_then leg event) ≡ false = sym (completes_is (incomplete_if model lawful leg leg_sound (no_moment noted old before was unended))) ∙ now in
            let moment : completion model (and_then leg event) ≡ None = completion_now model lawful leg leg_sound event (no_moment noted old before was unended) false incomplete in
            let upto : number ≡ leg.number + length (and_then leg event).events = omega (arith, numbered, number_is, length_is) in
            let certs : map (kept_cert Waiting old.opened number later.reasons.lists later.reasons.scans) (waiters_of later) ≡ waiting_certs model (and_then leg event) (length (and_then leg event).events) =
            ap₂ (λ a b. map (kept_cert Waiting a b later.reasons.lists later.reasons.scans) (waiters_of later)) (opened_same noted old before was unended) upto
            ∙ (certs_from Waiting leg.number (leg.number + length (and_then leg event).events) later (waits_in (state_of model (and_then leg event))) (lines model (and_then leg event) (length (and_then leg event).events)) (after_lines now)
            ∙ sym (waiting_are model (and_then leg event) tasks_are)) in
            ap (open_end number later) (on.0 ∙ still_is old unended)
            ∙ (ap₂ (λ (a b : ℕ). let l : LegEnd = record { opened = a; target = record { 0 = b }; completed = None; certs = map (kept_cert Waiting old.opened number later.reasons.lists later.reasons.scans) (waiters_of later) } in l) (opened_same noted old before was unended) (target_same noted old before was unended)
            ∙ ap₂ (λ (o : Option ℕ) (cs : List Cert). let l : LegEnd = record { opened = leg.number; target = record { 0 = leg.target }; completed = option_map (λ m. leg.number + m) o; certs = cs } in l)
            (sym moment)
            (certs ∙ ap (certs_by model (and_then leg event)) (sym moment)))

      pub went_on : open_end number later new ≡ end_of model (and_then leg event)
      went_on = by old.completed refl
        where
          by : (o : Option ℕ) → old.completed ≡ o → open_end number later new ≡ end_of model (and_then leg event)
          by (Some done) is = complete_stays done is
          by None is =
              ⊎_elim
              (λ (now : step.reply.completed ≡ true). completes_now is now)
              (λ (now : step.reply.completed ≡ false). continues_now is now)
              (cases_Bool step.reply.completed)

  -- ---- A leg opens

  module _ (turns : opens model leg event ≡ true) where
    accepted : refusal_of model (state_in e) event ≡ None
    accepted = sym refused_is ∙ (why_is ∙ none_is (why_refused model leg event) (and_parts (is_control event) (is_none (why_refused model leg event)) turns).1)

    next_opened : next_leg model leg event ≡ opened model leg event
    unfolding next_leg
    next_opened = cond-true (opens model leg event) (opened model leg event) (and_then leg event) turns

    turned_is : turned model (state_in e) event ≡ state_of model (opened model leg event)
    turned_is =
        sym (next-turned model (state_in e) event accepted (and_parts (is_control event) (is_none (why_refused model leg event)) turns).0)
        ∙ (ap (λ (s : State). next model s event) there ∙ ((does model leg event lawful leg_sound).next_state ∙ ap (state_of model) next_opened))

    completed_is : step.reply.completed ≡ is_complete_now model (opened model leg event)
    unfolding reply
    completed_is =
        ap (λ (r : Reply). r.completed) reply_is
        ∙ (ap₂ (λ (l : Leg) (b : Bool). is_complete_now model l && (b || not (is_complete_now model leg))) next_opened turns
        ∙ and_one (is_complete_now model (opened model leg event)))
      where
        and_one : (b : Bool) → (b && true) ≡ b
        and_one true = refl
        and_one false = refl

    no_lines : (g : ℕ) → lines model (opened model leg event) 0 g ≡ []
    unfolding lines
    no_lines g = refl

    -- nobody is held, as all blames are gone
    pub opened_held : (after : Engine) → HasToldBlamesAfter model e event after → IsWide e.table → AreHeld (state_of model (opened model leg event)) (lines model (opened model leg event) 0) after
    opened_held after blamed wide =
        none_held (state_of model (opened model leg event)) (lines model (opened model leg event) 0) after no_lines (λ t x live.
        let here : (state_in e).tasks t ≡ Live x = ap (λ (s : State). s.tasks t) turned_is ∙ live in
        blamed.blames x.group (group_fits e t x sound wide (slot_from_live e.table t x here))
        ∙ (ap (blame_by model e event blamed.verdicts x.group) accepted
        ∙ cond-true (is_control event) None _ (and_parts (is_control event) (is_none (why_refused model leg event)) turns).0))

    pub opened_anew : (number : ℕ) (later : WaitingGroups) → number ≡ e.number + 1
        → ((g : ℕ) → lines_at later g ≡ (if has_off (state_in e) (new_target (state_in e) event) g then Some [] else None))
        → open_end number later (leg_at number (new_target (state_in e) event) step.reply.completed) ≡ end_of model (opened model leg event)
    opened_anew number later numbered is = by (is_complete_now model (opened model leg event)) refl
      where
        opening : Leg
        opening = opened model leg event

        at : number ≡ leg.number + suc k
        at = omega (arith, numbered, number_is)

        target : new_target (state_in e) event ≡ (opened model leg event).target
        target = ap (λ (s : State). s.target) turned_is

        end_with : ℕ → ℕ → Option ℕ → List Cert → LegEnd
        end_with a b o cs = record { opened = a; target = record { 0 = b }; completed = o; certs = cs }

        by : (b : Bool) → is_complete_now model (opened model leg event) ≡ b → open_end number later (leg_at number (new_target (state_in e) event) step.reply.completed) ≡ end_of model (opened model leg event)
        by true unchanged =
            let moment : completion model (opened model leg event) ≡ Some 0 = completion_opened model leg event ∙ cond-true (is_complete_now model (opened model leg event)) (Some 0) None unchanged in
            let nobody : waiters_of later ≡ [] = no_waiters later (λ g.
            is g
            ∙ (ap {A = State} {B = Option (List Line)} (λ s. if waits_in s g then Some [] else None) turned_is
            ∙ ap {A = Bool} {B = Option (List Line)} (λ b. if b then Some [] else None) (none_waits (state_of model (opened model leg event)) (complete_is model (opened model leg event) ∙ unchanged) g))) in
            ap (λ b. open_end number later (leg_at number (new_target (state_in e) event) b)) (completed_is ∙ unchanged)
            ∙ (ap (λ (ws : List Waiter). let l : LegEnd = record { opened = number; target = record { 0 = new_target (state_in e) event }; completed = Some number; certs = map (kept_cert Floor number (number - 1) later.reasons.lists later.reasons.scans) ws } in l) nobody
            ∙ ap₂ (λ a t. let l : LegEnd = record { opened = a; target = record { 0 = t }; completed = Some number; certs = [] } in l) at target
            ∙ ap₂ (λ (o : Option ℕ) (cs : List Cert). let l : LegEnd = record { opened = leg.number + suc k; target = record { 0 = (opened model leg event).target }; completed = o; certs = cs } in l)
            (ap {A = ℕ} {B = Option ℕ} Some (omega (arith, at)) ∙ ap (option_map (λ m. (leg.number + suc k) + m)) (sym moment))
            (ap (certs_by model (opened model leg event)) (sym moment)))
        by false incomplete =
            let moment : completion model (opened model leg event) ≡ None = completion_opened model leg event ∙ cond-false (is_complete_now model (opened model leg event)) (Some 0) None incomplete in
            let upto : number ≡ (leg.number + suc k) + 0 = omega (arith, at) in
            let after_lines : (g : ℕ) → g < 65536 → lines_at later g ≡ (if waits_in (state_of model (opened model leg event)) g then Some (lines model (opened model leg event) 0 g) else None) =
            λ g below. is g ∙ ap₂ (λ (s : State) (ls : List Line). if waits_in s g then Some ls else None) turned_is (sym (no_lines g)) in
            let certs : map (kept_cert Waiting number number later.reasons.lists later.reasons.scans) (waiters_of later) ≡ waiting_certs model (opened model leg event) 0 =
            ap₂ (λ a b. map (kept_cert Waiting a b later.reasons.lists later.reasons.scans) (waiters_of later)) at upto
            ∙ (certs_from Waiting (leg.number + suc k) ((leg.number + suc k) + 0) later (waits_in (state_of model (opened model leg event))) (lines model (opened model leg event) 0) after_lines
            ∙ sym (waiting_are model (opened model leg event) tasks_are)) in
            ap (λ b. open_end number later (leg_at number (new_target (state_in e) event) b)) (completed_is ∙ incomplete)
            ∙ (ap₂ (λ a t. let l : LegEnd = record { opened = a; target = record { 0 = t }; completed = None; certs = map (kept_cert Waiting number number later.reasons.lists later.reasons.scans) (waiters_of later) } in l) at target
            ∙ ap₂ (λ (o : Option ℕ) (cs : List Cert). let l : LegEnd = record { opened = leg.number + suc k; target = record { 0 = (opened model leg event).target }; completed = option_map (λ m. (leg.number + suc k) + m) o; certs = cs } in l)
            (sym moment)
            (certs ∙ ap (certs_by model (opened model leg event)) (sym moment)))

-- ---- A run with one event more

is_none-true : {A : Type 0} (o : Option A) → is_none o ≡ true → o ≡ None
is_none-true None e = refl
is_none-true (Some a) e = absurd (cc)

module _ (model : Rules) where
  abbrev end_if : Leg → Event → List Leg
  end_if leg event = if opens model leg event then leg ∷ [] else []

  ended-plus : (leg : Leg) (events : List Event) (event : Event) → ended_legs model leg (events ++ event ∷ []) ≡ ended_legs model leg events ++ end_if (leg_after model leg events) event
  unfolding ended_legs leg_after
  ended-plus leg [] event = append-nil (end_if leg event)
  ended-plus leg (first ∷ events) event =
      ap (λ rest. end_if leg first ++ rest) (ended-plus (next_leg model leg first) events event) ∙ sym (append_assoc (end_if leg first) (ended_legs model (next_leg model leg first) events) (end_if (leg_after model (next_leg model leg first) events) event))

  under_way-plus : (before : List Leg) (last leg : Leg) → under_way model (before ++ last ∷ []) leg ≡ Some leg
  under_way-plus [] last leg = refl
  under_way-plus (first ∷ rest) last leg = refl

  -- where no leg is under way none ended
  none_before : (before : List Leg) (leg : Leg) → None ≡ option_map (end_of model) (under_way model before leg) → before ≡ []
  none_before [] leg e = refl
  none_before (first ∷ rest) leg e = absurd (cc)

  pub some_before : (before : List Leg) (leg : Leg) (end : LegEnd) → Some end ≡ option_map (end_of model) (under_way model before leg) → (end ≡ end_of model leg) × ((other : Leg) → under_way model before other ≡ Some other)
  some_before [] leg end e = absurd (cc)
  some_before (first ∷ rest) leg end e = let same : end ≡ end_of model leg = cc in (same, λ other. refl)

  -- the ends of the legs that ended, with one more
  one_more : (before : List Leg) (leg : Leg) (ended : List LegEnd) (current : Option LegEnd) → ended ≡ map (end_of model) (drop 1 before) → current ≡ option_map (end_of model) (under_way model before leg)
      → ended ++ option_to_list current ≡ map (end_of model) (drop 1 (before ++ leg ∷ []))
  one_more [] leg ended current e c = ap₂ (λ (es : List LegEnd) (o : Option LegEnd). es ++ option_to_list o) e c
  one_more (first ∷ rest) leg ended current e c =
      ap₂ (λ (es : List LegEnd) (o : Option LegEnd). es ++ option_to_list o) e c ∙ sym (map-append (end_of model) rest (leg ∷ []))

module _ (model : Rules) (lawful : IsLawful model) (run : Run) (e : Engine) (stands : StandsIn model run (state_in e)) where
  abbrev pub first : Leg
  first = first_leg model run

  abbrev pub present : Leg
  present = leg_of model run

  pub present_sound : IsSound (leg_of model run).opening
  present_sound = run_sound model lawful (first_leg model run) run.events (start_sound model lawful run.bounds run.patches run.boots stands.in_range)

  pub engine_sound : IsSound (state_in e)
  engine_sound = subst IsSound (sym stands.there) (state_sound model lawful (leg_of model run) present_sound)

  -- who is unchanged where the engine stands, and who is held
  was_unchanged : (made : Made) → IsMadeWith model run e made → AreUnchangedBy model (state_in e) (lines model (leg_of model run) (length (leg_of model run).events)) e.last_scan
  was_unchanged made is = subst (λ (st : State). AreUnchangedBy model st (lines model (leg_of model run) (length (leg_of model run).events)) e.last_scan) (sym stands.there) is.unchanged

  was_held : (made : Made) → IsMadeWith model run e made → AreHeld (state_in e) (lines model (leg_of model run) (length (leg_of model run).events)) e
  was_held made is = subst (λ (st : State). AreHeld st (lines model (leg_of model run) (length (leg_of model run).events)) e) (sym stands.there) is.held

  module _ (step : Weighed) (weighed : IsWeighed model e step) (made new : Made) (is : IsMadeWith model run e made) (wide : IsWide e.table) (of_waiting : AreOfWaiting e)
      (after : Engine) (stands_after : StandsIn model (plus run step.event) (state_in after)) (blamed : HasToldBlamesAfter model e step.event after) (known : IsLastScanAfter model e step.event after) where
    next_present : leg_of model (plus run step.event) ≡ next_leg model (leg_of model run) step.event
    next_present = leg_after-plus model (first_leg model run) run.events step.event

    ended_next : ended_legs model (first_leg model run) (run.events ++ step.event ∷ []) ≡ ended_legs model (first_leg model run) run.events ++ end_if model (leg_of model run) step.event
    ended_next = ended-plus model (first_leg model run) run.events step.event

    pub opens_if : (b : Bool) → is_opening step ≡ b → opens model (leg_of model run) step.event ≡ b
    opens_if b told = sym (opening_is model lawful e engine_sound (leg_of model run) present_sound stands.there step weighed) ∙ told

    module _ (stays : is_opening step ≡ false) (ended : new.ended ≡ made.ended) where
      same_ended : ended_legs model (first_leg model run) (run.events ++ step.event ∷ []) ≡ ended_legs model (first_leg model run) run.events
      same_ended =
          ended_next
          ∙ (ap (λ more. ended_legs model (first_leg model run) run.events ++ more) (cond-false (opens model (leg_of model run) step.event) (leg_of model run ∷ []) [] (opens_if false stays))
          ∙ append-nil (ended_legs model (first_leg model run) run.events))

      longer_is : leg_of model (plus run step.event) ≡ and_then (leg_of model run) step.event
      unfolding next_leg
      longer_is = next_present ∙ cond-false (opens model (leg_of model run) step.event) (opened model (leg_of model run) step.event) (and_then (leg_of model run) step.event) (opens_if false stays)

      ends : new.ended ≡ map (end_of model) (drop 1 (ended_legs model (first_leg model run) (run.events ++ step.event ∷ [])))
      ends = ended ∙ (is.ended ∙ ap (λ ls. map (end_of model) (drop 1 ls)) (sym same_ended))

      -- who is held in the run's leg with the event more, and who is unchanged
      held_there : AreHeld (state_in after) (lines model (and_then (leg_of model run) step.event) (suc (length (leg_of model run).events))) after
      held_there =
          held_on model lawful e engine_sound wide of_waiting (leg_of model run) present_sound stands.there step.event (opens_if false stays) after (stands_after.there ∙ ap (state_of model) longer_is) blamed (was_unchanged made is) (was_held made is)

      unchanged_longer : AreUnchangedBy model (state_of model (leg_of model (plus run step.event))) (lines model (leg_of model (plus run step.event)) (length (leg_of model (plus run step.event)).events)) after.last_scan
      unchanged_longer =
          subst (λ (l : Leg). AreUnchangedBy model (state_of model l) (lines model l (length l.events)) after.last_scan) (sym longer_is)
          (subst (λ m. AreUnchangedBy model (state_of model (and_then (leg_of model run) step.event)) (lines model (and_then (leg_of model run) step.event) m) after.last_scan) (sym (length-append (leg_of model run).events (step.event ∷ []) ∙ omega arith))
          (unchanged_on model lawful e engine_sound (leg_of model run) present_sound stands.there step.event (opens_if false stays) after (stands_after.there ∙ ap (state_of model) longer_is) known is.unchanged held_there))

      held_longer : AreHeld (state_of model (leg_of model (plus run step.event))) (lines model (leg_of model (plus run step.event)) (length (leg_of model (plus run step.event)).events)) after
      held_longer =
          subst (λ (l : Leg). AreHeld (state_of model (leg_of model (plus run step.event))) (lines model l (length l.events)) after) (sym longer_is)
          (subst (λ m. AreHeld (state_of model (leg_of model (plus run step.event))) (lines model (and_then (leg_of model run) step.event) m) after) (sym (length-append (leg_of model run).events (step.event ∷ []) ∙ omega arith))
          (subst (λ (st : State). AreHeld st (lines model (and_then (leg_of model run) step.event) (suc (length (leg_of model run).events))) after) stands_after.there held_there))

      pub none_made : made.current ≡ None → new.current ≡ None → IsMadeWith model (plus run step.event) after new
      none_made old now =
          let none = none_before model (ended_legs model (first_leg model run) run.events) (leg_of model run) (sym old ∙ is.current) in
          record {
            of_run = record {
              ended = ends;
              current = now ∙ ap (λ ls. option_map (end_of model) (under_way model ls (leg_of model (plus run step.event)))) (sym (same_ended ∙ none));
            };
            unchanged = unchanged_longer;
            held = held_longer;
          }

      pub still_made : (noted number : ℕ) (leg later_leg : OpenLeg) (before later : WaitingGroups) → number ≡ e.number + 1 → IsStepped model e step number leg later_leg before later
          → made.current ≡ Some (open_end noted before leg) → new.current ≡ Some (open_end number later later_leg)
          → IsMadeWith model (plus run step.event) after new
      still_made noted number leg later_leg before later numbered gone old now =
          let was = some_before model (ended_legs model (first_leg model run) run.events) (leg_of model run) (open_end noted before leg) (sym old ∙ is.current) in
          let went = went_on model lawful e engine_sound (leg_of model run) present_sound stands.there step weighed (opens_if false stays) noted number leg later_leg before later numbered was.0 gone
          (λ unended incomplete. tells_unchanged model e (lines model (leg_of model run) (length (leg_of model run).events)) (was_unchanged made is) (was_held made is) step.event step.verdicts weighed.told) in
          record {
            of_run = record {
              ended = ends;
              current =
                  now
                  ∙ (ap {A = LegEnd} {B = Option LegEnd} Some went
                  ∙ (sym (ap (option_map (end_of model)) (was.1 (and_then (leg_of model run) step.event)))
                  ∙ ap₂ (λ ls (l : Leg). option_map (end_of model) (under_way model ls l)) (sym same_ended) (sym longer_is)));
            };
            unchanged = unchanged_longer;
            held = held_longer;
          }

    module _ (turns : is_opening step ≡ true) where
      opened_next : next_leg model (leg_of model run) step.event ≡ opened model (leg_of model run) step.event
      unfolding next_leg
      opened_next = cond-true (opens model (leg_of model run) step.event) (opened model (leg_of model run) step.event) (and_then (leg_of model run) step.event) (opens_if true turns)

      -- nothing is known of a scan where a leg opens
      forgotten : after.last_scan.kind ≡ None
      forgotten =
          let parts = and_parts (is_control step.event) (is_none (refusal_in step.reply.what)) turns in
          known.opening parts.0 (sym (ap (λ (r : Reply). refusal_in r.what) weighed.reply ∙ refused-as model (state_in e) step.event) ∙ is_none-true (refusal_in step.reply.what) parts.1)

      pub turned_made : (number : ℕ) (later : WaitingGroups) → number ≡ e.number + 1
          → (IsSound (state_in e) → (g : ℕ) → lines_at later g ≡ (if has_off (state_in e) (new_target (state_in e) step.event) g then Some [] else None))
          → new.ended ≡ made.ended ++ option_to_list made.current
          → new.current ≡ Some (open_end number later (leg_at number (new_target (state_in e) step.event) step.reply.completed))
          → IsMadeWith model (plus run step.event) after new
      turned_made number later numbered lines_are ended now =
          let more : ended_legs model (first_leg model run) (run.events ++ step.event ∷ []) ≡ ended_legs model (first_leg model run) run.events ++ leg_of model run ∷ [] =
          ended_next ∙ ap (λ ls. ended_legs model (first_leg model run) run.events ++ ls) (cond-true (opens model (leg_of model run) step.event) (leg_of model run ∷ []) [] (opens_if true turns)) in
          let anew = opened_anew model lawful e engine_sound (leg_of model run) present_sound stands.there step weighed (opens_if true turns) number later numbered (lines_are engine_sound) in
          let next_is : leg_of model (plus run step.event) ≡ opened model (leg_of model run) step.event = next_present ∙ opened_next in
          record {
            of_run = record {
              ended = ended ∙ (one_more model (ended_legs model (first_leg model run) run.events) (leg_of model run) made.ended made.current is.ended is.current ∙ ap (λ ls. map (end_of model) (drop 1 ls)) (sym more));
              current =
                  now
                  ∙ (ap {A = LegEnd} {B = Option LegEnd} Some anew
                  ∙ (sym (ap (option_map (end_of model)) (under_way-plus model (ended_legs model (first_leg model run) run.events) (leg_of model run) (opened model (leg_of model run) step.event)))
                  ∙ ap₂ (λ ls (l : Leg). option_map (end_of model) (under_way model ls l)) (sym more) (sym next_is)));
            };
            unchanged = none_unchanged model (state_of model (leg_of model (plus run step.event))) (lines model (leg_of model (plus run step.event)) (length (leg_of model (plus run step.event)).events)) after.last_scan forgotten;
            held =
                subst (λ (l : Leg). AreHeld (state_of model l) (lines model l (length l.events)) after) (sym next_is)
                (opened_held model lawful e engine_sound (leg_of model run) present_sound stands.there step weighed (opens_if true turns) after blamed wide);
          }
