-- A model that is at least as permissive as another completes the first leg of a trace no later, though the leg may end
-- at another event under it: who has completed a leg accepts control events that the other refuses.
use Rattle.std.proofs.Common.{◌≡◌, ◌<◌, ◌≤◌, ◌+◌, ◌⊎◌, inl, inr, ℕ, suc, Bool, true, false, not, ◌&&◌, List, [], ◌∷◌, ◌++◌, length, length-append, drop, Option, Some, None, IsTrue, nat_eq, is_none, if◌then◌else◌, refl, sym, ap, ap₂, ◌∙◌, subst, ⊎_elim, arith}
use mathlib.Core.Path.{fun_ext}
use Rattle.std.specs.Prelude.{slice_get}
use Rattle.std.specs.Option.{option_map}
use Rattle.std.proofs.lemmas.Bool.{cases_Bool, cond-true, cond-false, cond_both}
use Rattle.lp_stack.specs.declared.number.TaskId.{TaskId}
use Rattle.lp_stack.specs.declared.view.Class.{Class}
use Rattle.lp_model.specs.Rules.{Rules, IsLawful}
use Rattle.lp_definitions.specs.declared.event.Event.{Event}
use Rattle.lp_definitions.specs.declared.event.Event.TheVariants.{Call, Ret, Sleep, Wake, Enter, Exit, Idle, Resched, Fork, Die, Walk, Stop, Enable, Disable, Reverse}
use Rattle.lp_definitions.specs.declared.refusal.Refusal.TheVariants.{InTransition, NotInTransition, AlreadyThere}
use Rattle.lp_definitions.specs.Events.{is_control}
use Rattle.lp_definitions.specs.Tasks.{Fate, Unused, Live, Dead, Life, Stood, Grouping, map_live, fits, first_of, tests, outlines}
use Rattle.lp_definitions.specs.Leg.{Leg, State, LegTask, begin, tasks_after}
use Rattle.lp_definitions.specs.Schedule.{Schedule, complete, first_check, level, level_by, leg_task, has_come}
use Rattle.lp_definitions.specs.Order.{IsAtLeastAsPermissive}
use Rattle.lp_definitions.specs.Sound.{IsSound}
use Rattle.lp_definitions.specs.Run.{Run, AreInRange, and_then, at_boot, booted, control_tests, first_leg, first_mode, is_complete_now, new_target, next_leg, opened, opens, refused_by, shown}
use Rattle.lp_laws.proofs.First.{first_check_is}
use Rattle.lp_laws.proofs.Permissive.{never_loses}
use Rattle.lp_laws.proofs.Waiting.{complete-is, complete-from, complete_later, waits-is}
use Rattle.lp_laws.proofs.WholeRun.{next_sound, start_sound}
use Rattle.lp_definitions.specs.Certificates.{completion, legs, opened_legs}
use Rattle.lp_laws.proofs.Completions.{completion_below, completion_now, completion_stays, incomplete_if}
use Rattle.lp_replay.specs.Legs.{to_end}

-- ---- One model

none_some : {P : Type 0} (k : ℕ) (o : Option ℕ) → o ≡ None → o ≡ Some k → P
none_some k o none some = absurd (cc)

same_some : (j k : ℕ) (o : Option ℕ) → o ≡ Some j → o ≡ Some k → j ≡ k
same_some j k o e h = cc

module _ (model : Rules) where
  -- the first leg of these events, to its end
  abbrev pub first_opened : Leg → List Event → Option Leg
  first_opened leg [] = None
  first_opened leg (event ∷ events) =
      if opens model leg event then Some (to_end model (opened model leg event) events) else first_opened (and_then leg event) events

  next_is : (leg : Leg) (event : Event) (b : Bool) → opens model leg event ≡ b → next_leg model leg event ≡ (if b then opened model leg event else and_then leg event)
  unfolding next_leg
  next_is leg event b e = ap (λ c. if c then opened model leg event else and_then leg event) e

  head_by : (leg : Leg) (event : Event) (events : List Event) (b : Bool) → opens model leg event ≡ b
      → slice_get (legs model (next_leg model leg event) events) 0 ≡ Some (to_end model (next_leg model leg event) events)
      → slice_get ((if b then leg ∷ [] else []) ++ legs model (next_leg model leg event) events) 0 ≡ Some (if b then leg else to_end model (and_then leg event) events)
  head_by leg event events true e h = refl
  head_by leg event events false e h = h ∙ ap (λ (l : Leg). Some (to_end model l events)) (next_is leg event false e)

  -- the first of a leg and those that follow is the leg to its end
  head_is : (leg : Leg) (events : List Event) → slice_get (legs model leg events) 0 ≡ Some (to_end model leg events)
  unfolding legs to_end
  head_is leg [] = refl
  head_is leg (event ∷ events) =
      ap (λ b. slice_get ((if b then leg ∷ [] else []) ++ legs model (next_leg model leg event) events) 0) refl
      ∙ head_by leg event events (opens model leg event) refl (head_is (next_leg model leg event) events)

  first_by : (leg : Leg) (event : Event) (events : List Event) (b : Bool) → opens model leg event ≡ b
      → (b ≡ false → slice_get (drop 1 (legs model (and_then leg event) events)) 0 ≡ first_opened (and_then leg event) events)
      → slice_get (drop 1 ((if b then leg ∷ [] else []) ++ legs model (next_leg model leg event) events)) 0 ≡ (if b then Some (to_end model (opened model leg event) events) else first_opened (and_then leg event) events)
  first_by leg event events true e h =
      head_is (next_leg model leg event) events ∙ ap (λ (l : Leg). Some (to_end model l events)) (next_is leg event true e)
  first_by leg event events false e h =
      ap (λ (l : Leg). slice_get (drop 1 (legs model l events)) 0) (next_is leg event false e) ∙ h refl

  -- the first leg that the events open is this one
  pub first_is : (leg : Leg) (events : List Event) → slice_get (opened_legs model leg events) 0 ≡ first_opened leg events
  unfolding legs
  first_is leg [] = refl
  first_is leg (event ∷ events) = first_by leg event events (opens model leg event) refl (λ e. first_is (and_then leg event) events)

  -- ---- To a leg's end

  end_other : (leg : Leg) (event : Event) (events : List Event) → opens model leg event ≡ false → to_end model leg (event ∷ events) ≡ to_end model (and_then leg event) events
  unfolding to_end
  end_other leg event events e = cond-false _ _ _ e

  end_opened : (leg : Leg) (event : Event) (events : List Event) → opens model leg event ≡ true → to_end model leg (event ∷ events) ≡ leg
  unfolding to_end
  end_opened leg event events e = cond-true _ _ _ e

  end_last : (leg : Leg) → to_end model leg [] ≡ leg
  unfolding to_end
  end_last leg = refl

  pub end_number : (leg : Leg) (events : List Event) → (to_end model leg events).number ≡ leg.number
  end_number leg [] = ap (λ (l : Leg). l.number) (end_last leg)
  end_number leg (event ∷ events) =
      ⊎_elim
      (λ (is : opens model leg event ≡ true). ap (λ (l : Leg). l.number) (end_opened leg event events is))
      (λ (is : opens model leg event ≡ false). ap (λ (l : Leg). l.number) (end_other leg event events is) ∙ end_number (and_then leg event) events)
      (cases_Bool (opens model leg event))

  module _ (lawful : IsLawful model) where
    -- a leg that completed at a moment did so at its end too
    kept : (leg : Leg) (events : List Event) → IsSound leg.opening → (k : ℕ) → completion model leg ≡ Some k → completion model (to_end model leg events) ≡ Some k
    kept leg [] sound k e = ap (completion model) (end_last leg) ∙ e
    kept leg (event ∷ events) sound k e =
        ⊎_elim
        (λ (is : opens model leg event ≡ true). ap (completion model) (end_opened leg event events is) ∙ e)
        (λ (is : opens model leg event ≡ false). ap (completion model) (end_other leg event events is) ∙ kept (and_then leg event) events sound k (completion_stays model lawful leg sound event k e))
        (cases_Bool (opens model leg event))

    -- one that hadn't does so later
    later : (leg : Leg) (events : List Event) → IsSound leg.opening → completion model leg ≡ None → (k : ℕ) → completion model (to_end model leg events) ≡ Some k → length leg.events < k
    later leg [] sound none k e = none_some k (completion model leg) none (sym (ap (completion model) (end_last leg)) ∙ e)
    later leg (event ∷ events) sound none k e =
        ⊎_elim
        (λ (is : opens model leg event ≡ true). none_some k (completion model leg) none (sym (ap (completion model) (end_opened leg event events is)) ∙ e))
        (λ (is : opens model leg event ≡ false).
        let rest = sym (ap (completion model) (end_other leg event events is)) ∙ e in
        let longer : length (and_then leg event).events ≡ suc (length leg.events) = omega (arith, length-append leg.events (event ∷ [])) in
        ⊎_elim
        (λ (now : is_complete_now model (and_then leg event) ≡ true).
        let at = completion_now model lawful leg sound event none true now in
        let same = same_some (suc (length leg.events)) k (completion model (to_end model (and_then leg event) events)) (kept (and_then leg event) events sound (suc (length leg.events)) at) rest in
        omega (arith, same))
        (λ (now : is_complete_now model (and_then leg event) ≡ false).
        omega (arith, longer, later (and_then leg event) events sound (completion_now model lawful leg sound event none false now) k rest))
        (cases_Bool (is_complete_now model (and_then leg event))))
        (cases_Bool (opens model leg event))

-- ---- Before the first leg nothing is in transition

-- each live task is on the target
abbrev pub AtRest : State → Type 0
AtRest s = (t : ℕ) (x : LegTask) → s.tasks t ≡ Live x → x.level ≡ s.target

begun : (f : Fate LegTask) (life : Life) → map_live begin f ≡ Live life → (x : LegTask) × (f ≡ Live x) × (begin x ≡ life)
begun Unused life e = absurd (cc)
begun (Live x) life e = let same : begin x ≡ life = cc in (x, refl, same)
begun Dead life e = absurd (cc)

module _ (model : Rules) (lawful : IsLawful model) (leg : Leg) (sound : IsSound leg.opening) (rest : AtRest leg.opening) where
  stood_level : (schedule : Schedule) (k group level : ℕ) → level ≡ leg.target → level_by leg.target schedule k group (Stood level) ≡ leg.target
  unfolding level_by
  stood_level schedule k group level e = cond_both (has_come (schedule group) k) leg.target level (λ v. v ≡ leg.target) (λ is. refl) (λ is. e)

  complete_first : (schedule : Schedule) → IsTrue (complete model leg schedule 0)
  unfolding tasks_after
  complete_first schedule =
      complete-from model leg schedule 0 (λ t life positive within live.
      let b = begun (leg.tasks t) life live in
      subst (λ (l : Life). level leg schedule 0 l ≡ leg.target) b.2 (stood_level schedule 0 b.0.group b.0.level (rest t b.0 b.1)))

  complete_at : (schedule : Schedule) (k : ℕ) → IsTrue (complete model leg schedule k)
  complete_at schedule k = complete_later model leg lawful sound schedule 0 k (omega arith) (complete_first schedule)

  pub complete_now : is_complete_now model leg ≡ true
  unfolding is_complete_now
  complete_now = complete_at (first_check model leg) (length leg.events)

  nobody_by : (group : ℕ) (o : Option ℕ) → first_check model leg group ≡ o → o ≡ None
  nobody_by group None e = refl
  nobody_by group (Some moment) e =
      let schedule = first_check model leg in
      let l = (first_check_is model leg).legal group moment e in
      let w = waits-is model leg schedule l.0 group l.2 in
      absurd (w.off (complete-is model leg schedule l.0 (complete_at schedule l.0) w.task w.life w.positive w.within w.live))

  nobody_moves : (group : ℕ) → first_check model leg group ≡ None
  nobody_moves group = nobody_by group (first_check model leg group) refl

-- ---- The start

pub boot_level : (model : Rules) (boots : List (TaskId × Class)) (t : ℕ) (x : LegTask) → booted model boots t ≡ Live x → x.level ≡ 0
boot_level model [] t x e = absurd (cc)
boot_level model (boot ∷ boots) t x e = by_number (nat_eq t boot.0.0) e (boot_level model boots t x)
  where
    by_number : (c : Bool) → (if c then Live (at_boot model t boot.1) else booted model boots t) ≡ Live x → (booted model boots t ≡ Live x → x.level ≡ 0) → x.level ≡ 0
    by_number true h rest = let same : at_boot model t boot.1 ≡ x = cc in sym (ap (λ (s : LegTask). s.level) same)
    by_number false h rest = rest h

-- the event at which a leg completed
abbrev pub done : Rules → Option Leg → Option ℕ
done model None = None
done model (Some leg) = option_map (λ k. leg.number + k) (completion model leg)

done_by : (leg : Leg) (n : ℕ) (o : Option ℕ) → option_map (λ k. leg.number + k) o ≡ Some n → (k : ℕ) × (o ≡ Some k) × (leg.number + k ≡ n)
done_by leg n None e = absurd (cc)
done_by leg n (Some k) e = let same : leg.number + k ≡ n = cc in (k, refl, same)

cases_option : (o : Option ℕ) → ((k : ℕ) × (o ≡ Some k)) ⊎ (o ≡ None)
cases_option None = inr refl
cases_option (Some k) = inl (k, refl)

-- ---- Control events

enable_from : (c d : Bool) → is_none (first_of (fits (not c) InTransition ∷ fits d AlreadyThere ∷ [])) ≡ true → c ≡ true
enable_from true d e = refl
enable_from false d e = absurd (cc)

reverse_from : (c d : Bool) → c ≡ false → is_none (first_of (fits c NotInTransition ∷ [])) ≡ false → d ≡ true
reverse_from true d e n = absurd (cc)
reverse_from false d e n = absurd (cc)

-- ---- Two models

module _ (a b : Rules) (lawful_a : IsLawful a) (lawful_b : IsLawful b) (more : IsAtLeastAsPermissive a b) where
  groups_same : a.child_group ≡ b.child_group
  groups_same = fun_ext (λ g. fun_ext (λ t. fun_ext (λ how. more.child_group g t how)))

  complete_too : (leg : Leg) → IsSound leg.opening → is_complete_now b leg ≡ true → is_complete_now a leg ≡ true
  unfolding is_complete_now
  complete_too leg sound e =
      never_loses a b leg lawful_a lawful_b sound more (first_check a leg) (first_check b leg) (first_check_is a leg) (first_check_is b leg) (length leg.events) e

  -- where the second completed the leg, the first did, at that moment or before
  abbrev Earlier : Leg → Type 0
  Earlier leg = (k : ℕ) → completion b leg ≡ Some k → (j : ℕ) × (j ≤ k) × (completion a leg ≡ Some j)

  abbrev at_once : State → Leg
  at_once opening = record { opening = opening; events = [] }

  completion_at_once : (model : Rules) (opening : State) → completion model (at_once opening) ≡ (if is_complete_now model (at_once opening) then Some 0 else None)
  unfolding completion is_complete_now
  completion_at_once model opening = refl

  earlier_at_once : (opening : State) → IsSound opening → Earlier (at_once opening)
  earlier_at_once opening sound k e =
      ⊎_elim
      (λ (is : is_complete_now b (at_once opening) ≡ true). (0, omega arith, completion_at_once a opening ∙ cond-true _ _ _ (complete_too (at_once opening) sound is)))
      (λ (is : is_complete_now b (at_once opening) ≡ false). none_some k (completion b (at_once opening)) (completion_at_once b opening ∙ cond-false _ _ _ is) e)
      (cases_Bool (is_complete_now b (at_once opening)))

  module _ (leg : Leg) (event : Event) (sound : IsSound leg.opening) where
    abbrev longer : Leg
    longer = and_then leg event

    earlier_now : is_complete_now a longer ≡ true → completion b leg ≡ None → (j : ℕ) × (j ≤ suc (length leg.events)) × (completion a longer ≡ Some j)
    earlier_now now none =
        ⊎_elim
        (λ (at : (j : ℕ) × (completion a leg ≡ Some j)). (at.0, omega (arith, completion_below a leg at.0 at.1), completion_stays a lawful_a leg sound event at.0 at.1))
        (λ (not_yet : completion a leg ≡ None). (suc (length leg.events), omega arith, completion_now a lawful_a leg sound event not_yet true now))
        (cases_option (completion a leg))

    earlier_more : Earlier leg → Earlier longer
    earlier_more so_far k e =
        ⊎_elim
        (λ (at : (i : ℕ) × (completion b leg ≡ Some i)).
        let same = same_some at.0 k (completion b longer) (completion_stays b lawful_b leg sound event at.0 at.1) e in
        let first = so_far at.0 at.1 in
        (first.0, omega (arith, first.1, same), completion_stays a lawful_a leg sound event first.0 first.2))
        (λ (none : completion b leg ≡ None).
        ⊎_elim
        (λ (now : is_complete_now b longer ≡ true).
        let same = same_some (suc (length leg.events)) k (completion b longer) (completion_now b lawful_b leg sound event none true now) e in
        let first = earlier_now (complete_too longer sound now) none in
        (first.0, omega (arith, first.1, same), first.2))
        (λ (now : is_complete_now b longer ≡ false). none_some k (completion b longer) (completion_now b lawful_b leg sound event none false now) e)
        (cases_Bool (is_complete_now b longer)))
        (cases_option (completion b leg))

  -- where the first alone accepts a control event of a leg that the second hasn't completed, it has completed it
  settles : (leg : Leg) (event : Event) → opens a leg event ≡ true → opens b leg event ≡ false → is_complete_now b leg ≡ false → is_complete_now a leg ≡ true
  unfolding refused_by
  settles leg (Call t f) h n c = absurd (cc)
  settles leg (Ret t) h n c = absurd (cc)
  settles leg (Sleep t) h n c = absurd (cc)
  settles leg (Wake t) h n c = absurd (cc)
  settles leg (Enter t) h n c = absurd (cc)
  settles leg (Exit t) h n c = absurd (cc)
  settles leg (Idle t) h n c = absurd (cc)
  settles leg (Resched t) h n c = absurd (cc)
  settles leg (Fork p q how) h n c = absurd (cc)
  settles leg (Die t) h n c = absurd (cc)
  settles leg Walk h n c = absurd (cc)
  settles leg Stop h n c = absurd (cc)
  settles leg Enable h n c = enable_from (is_complete_now a leg) (nat_eq leg.target (length leg.patches)) h
  settles leg Disable h n c = enable_from (is_complete_now a leg) (nat_eq leg.target 0) h
  settles leg Reverse h n c = reverse_from (is_complete_now b leg) (is_complete_now a leg) c n

  ends_earlier : (leg : Leg) (events : List Event) → IsSound leg.opening → Earlier leg → (k : ℕ) → completion b (to_end b leg events) ≡ Some k → (j : ℕ) × (j ≤ k) × (completion a (to_end a leg events) ≡ Some j)
  ends_earlier leg [] sound so_far k e =
      let first = so_far k (sym (ap (completion b) (end_last b leg)) ∙ e) in
      (first.0, first.1, ap (completion a) (end_last a leg) ∙ first.2)
  ends_earlier leg (event ∷ events) sound so_far k e =
      ⊎_elim
      (λ (at : (i : ℕ) × (completion b leg ≡ Some i)).
      let same = same_some at.0 k (completion b (to_end b leg (event ∷ events))) (kept b lawful_b leg (event ∷ events) sound at.0 at.1) e in
      let first = so_far at.0 at.1 in
      (first.0, omega (arith, first.1, same), kept a lawful_a leg (event ∷ events) sound first.0 first.2))
      (λ (none : completion b leg ≡ None).
      ⊎_elim
      (λ (is : opens b leg event ≡ true). none_some k (completion b leg) none (sym (ap (completion b) (end_opened b leg event events is)) ∙ e))
      (λ (is : opens b leg event ≡ false).
      ⊎_elim
      (λ (other : opens a leg event ≡ true).
      let settled = settles leg event other is (incomplete_if b lawful_b leg sound none) in
      ⊎_elim
      (λ (at : (j : ℕ) × (completion a leg ≡ Some j)). (at.0, omega (arith, completion_below a leg at.0 at.1, later b lawful_b leg (event ∷ events) sound none k e), ap (completion a) (end_opened a leg event events other) ∙ at.1))
      (λ (not_yet : completion a leg ≡ None). let open_still = incomplete_if a lawful_a leg sound not_yet in absurd (cc))
      (cases_option (completion a leg)))
      (λ (other : opens a leg event ≡ false).
      let first = ends_earlier (and_then leg event) events sound (earlier_more leg event sound so_far) k (sym (ap (completion b) (end_other b leg event events is)) ∙ e) in
      (first.0, first.1, ap (completion a) (end_other a leg event events other) ∙ first.2))
      (cases_Bool (opens a leg event)))
      (cases_Bool (opens b leg event)))
      (cases_option (completion b leg))

  -- ---- The first leg is the same

  module _ (leg : Leg) (event : Event) (sound : IsSound leg.opening) (rest : AtRest leg.opening) where
    opens_same : opens a leg event ≡ opens b leg event
    unfolding refused_by
    opens_same =
        ap₂ (λ (grouping : Grouping) (c : Bool). is_control event && is_none (first_of (tests leg.bounds (outlines (tasks_after grouping leg (length leg.events))) event ++ control_tests leg.opening c event)))
        groups_same (complete_now a lawful_a leg sound rest ∙ sym (complete_now b lawful_b leg sound rest))

    schedules_same : first_check a leg ≡ first_check b leg
    schedules_same = fun_ext (λ group. nobody_moves a lawful_a leg sound rest group ∙ sym (nobody_moves b lawful_b leg sound rest group))

    shown_same : (t : ℕ) → shown a leg t ≡ shown b leg t
    unfolding shown
    shown_same t =
        ap₂ (λ (grouping : Grouping) (schedule : Schedule). map_live (leg_task leg schedule (length leg.events)) (tasks_after grouping leg (length leg.events) t)) groups_same schedules_same

    abbrev opened_with : (ℕ → Fate LegTask) → Leg
    opened_with tasks =
        record {
          opening = record {
            number = leg.number + suc (length leg.events);
            bounds = leg.bounds;
            from = leg.target;
            aim = record { patches = leg.patches; target = new_target leg.opening event };
            tasks = tasks;
          };
          events = [];
        }

    opened_same : opened a leg event ≡ opened b leg event
    opened_same = ap opened_with (fun_ext shown_same)

    -- the leg that the event opens, to its end
    opened_earlier : (events : List Event) (n : ℕ) → opens b leg event ≡ true → done b (Some (to_end b (opened b leg event) events)) ≡ Some n
        → (i : ℕ) × (i ≤ n) × (done a (Some (to_end a (opened a leg event) events)) ≡ Some i)
    opened_earlier events n is e =
        let opening = (opened b leg event).opening in
        let start = at_once opening in
        let sound_start : IsSound opening = subst (λ (l : Leg). IsSound l.opening) (next_is b leg event true is) (next_sound b lawful_b leg event sound) in
        let at = done_by (to_end b start events) n (completion b (to_end b start events)) e in
        let first = ends_earlier start events sound_start (earlier_at_once opening sound_start) at.0 at.1 in
        let end = to_end a start events in (
          end.number + first.0,
          omega (arith, first.1, at.2, end_number a start events, end_number b start events),
          ap (λ (l : Leg). done a (Some (to_end a l events))) opened_same ∙ ap (option_map (λ k. end.number + k)) first.2,
        )

  first_earlier : (leg : Leg) (events : List Event) → IsSound leg.opening → AtRest leg.opening → (n : ℕ) → done b (first_opened b leg events) ≡ Some n → (i : ℕ) × (i ≤ n) × (done a (first_opened a leg events) ≡ Some i)
  first_earlier leg [] sound rest n e = absurd (cc)
  first_earlier leg (event ∷ events) sound rest n e =
      ⊎_elim
      (λ (is : opens b leg event ≡ true).
      let first = opened_earlier leg event sound rest events n is (sym (ap (done b) (cond-true (opens b leg event) (Some (to_end b (opened b leg event) events)) (first_opened b (and_then leg event) events) is)) ∙ e) in
      (first.0, first.1, ap (done a) (cond-true (opens a leg event) (Some (to_end a (opened a leg event) events)) (first_opened a (and_then leg event) events) (opens_same leg event sound rest ∙ is)) ∙ first.2))
      (λ (is : opens b leg event ≡ false).
      let first = first_earlier (and_then leg event) events sound rest n (sym (ap (done b) (cond-false (opens b leg event) (Some (to_end b (opened b leg event) events)) (first_opened b (and_then leg event) events) is)) ∙ e) in
      (first.0, first.1, ap (done a) (cond-false (opens a leg event) (Some (to_end a (opened a leg event) events)) (first_opened a (and_then leg event) events) (opens_same leg event sound rest ∙ is)) ∙ first.2))
      (cases_Bool (opens b leg event))

  -- ---- Runs

  booted_same : (boots : List (TaskId × Class)) (t : ℕ) → booted a boots t ≡ booted b boots t
  booted_same [] t = refl
  booted_same (boot ∷ boots) t =
      ap₂ (λ (group : ℕ) (rest : Fate LegTask). if nat_eq t boot.0.0 then Live (record { class = boot.1; mode = first_mode boot.1; group = group; level = 0; frames = [] }) else rest) (more.first_group t) (booted_same boots t)

  start_same : (run : Run) → first_leg a run ≡ first_leg b run
  start_same run =
      ap (λ (tasks : ℕ → Fate LegTask). record { opening = record { number = 0; bounds = run.bounds; from = 0; aim = record { patches = run.patches; target = 0 }; tasks = tasks }; events = [] }) (fun_ext (booted_same run.boots))

  -- where the second model completes the first leg of a run, the first does, at that event or before
  pub completes_earlier : (run : Run) → AreInRange run.bounds run.boots → (events : List Event) (n : ℕ)
      → done b (slice_get (opened_legs b (first_leg b run) events) 0) ≡ Some n → (i : ℕ) × (i ≤ n) × (done a (slice_get (opened_legs a (first_leg a run) events) 0) ≡ Some i)
  completes_earlier run ok events n e =
      let first = first_earlier (first_leg b run) events (start_sound b lawful_b run.bounds run.patches run.boots ok) (λ t x live. boot_level b run.boots t x live) n (sym (ap (done b) (first_is b (first_leg b run) events)) ∙ e) in
      (first.0, first.1, ap (done a) (first_is a (first_leg a run) events ∙ ap (λ (l : Leg). first_opened a l events) (start_same run)) ∙ first.2)
