-- The laws of the procedure of 6.12.
use Rattle.std.proofs.Common.{◌≡◌, ◌≢◌, ℕ, suc, ◌<◌, ◌≤◌, Bool, true, false, not, ◌&&◌, List, [], ◌∷◌, ◌++◌, All, Option, Some, None, if◌then◌else◌, nat_eq, refl, sym, ap, ap₂, ◌∙◌, subst, arith, append_assoc}
use Rattle.std.proofs.lemmas.Bool.{eqb-true, eq-eqb, ne_eqb, cond_both, and_parts}
use Rattle.std.proofs.lemmas.List.{append-nil}
use Rattle.std.proofs.lemmas.List.Elements.{All-head, All-tail}
use mathlib.Core.Path.{fun_ext}
use Rattle.lp_stack.specs.declared.number.TaskId.{TaskId}
use Rattle.lp_stack.specs.declared.view.Class.{Class}
use Rattle.lp_patch.specs.Patches.{version}
use Rattle.lp_model.specs.Rules.{IsLawful}
use Rattle.lp_models.specs.inside.ModelLaws.{hybrid_lawful}
use Rattle.lp_definitions.specs.declared.event.Event.{Event}
use Rattle.lp_definitions.specs.declared.event.Event.TheVariants.{Walk}
use Rattle.lp_definitions.specs.declared.refusal.Refusal.{Refusal}
use Rattle.lp_definitions.specs.declared.reply.Reply.{Reply}
use Rattle.lp_definitions.specs.Events.{is_control}
use Rattle.lp_definitions.specs.Tasks.{Fate, Live, map_live}
use Rattle.lp_definitions.specs.Leg.{LegTask, State, Leg}
use Rattle.lp_definitions.specs.Sound.{RunsOneVersion}
use Rattle.lp_definitions.specs.Run.{Run, AreInRange, first_mode, at_boot, booted, first_leg, leg_after, leg_of, and_then, is_complete_now, shown, opened, opens, next_leg, reply}
use Rattle.lp_machine.specs.Machine.{complete_in, refusal_of, next, state_of}
use Rattle.lp_machine.specs.Steps.{StandsIn}
use Rattle.lp_laws.proofs.LawProofs.{keeps_one_version, opens_soundly}
use Rattle.lp_transition.proofs.Readers.{states_tell}
use Rattle.lp_machine_laws.proofs.Runs.{started, steps_as_defined}
use Rattle.lp_machine_laws.proofs.Steps.{complete_is}
use Rattle.lp_linux.specs.Transition.{PatchState, opposite, KLP_UNDEFINED, KLP_UNPATCHED, KLP_PATCHED, TaskStruct, Linux}
use Rattle.lp_linux.specs.Events.{born, booted as klp_booted, run as run_of, boot}
use Rattle.lp_linux.specs.Reading.{awaits_walk, heard_as, heard as heard_of, task_of, names, Heads, Nowhere, Up as HeadsUp, Down as HeadsDown}
use Rattle.lp_linux.specs.Laws.{StandsAs, StepsAs, TriesAs}
use Rattle.lp_linux.proofs.Newer.{step, run, heard}
use Rattle.lp_linux.proofs.Own.{h, Fit, Fits}
use Rattle.lp_linux.proofs.Loops.{fate_from}
use Rattle.lp_linux.specs.declared.follow.TargetState.{TargetState as Phase}
use Rattle.lp_linux.specs.declared.follow.TargetState.TheVariants.{Undefined, Patched, Unpatched}
use Rattle.lp_linux.specs.Followed.{klp_of, linux_of}
use Rattle.lp_linux.proofs.Phases.{Keeps, awaits_is, settled_complete, task_by}
use Rattle.lp_linux.proofs.Told.{answer_names, over_stays, codes, passes_code, own_codes, passes_own_code}
use Rattle.lp_linux.proofs.Steps.{Does, next-refused, next-plain, heard_plain}
use Rattle.lp_linux.proofs.AnyEvent.{does}

pub lawful : IsLawful h
lawful = hybrid_lawful

-- ---- Patches stay

next_patches : (leg : Leg) (event : Event) → (next_leg h leg event).patches ≡ leg.patches
unfolding next_leg
next_patches leg event = cond_both (opens h leg event) (opened h leg event) (and_then leg event) (λ (l : Leg). l.patches ≡ leg.patches) (λ e. refl) (λ e. refl)

patches_stay : (leg : Leg) (events : List Event) → (leg_after h leg events).patches ≡ leg.patches
unfolding leg_after
patches_stay leg [] = refl
patches_stay leg (event ∷ events) = patches_stay (next_leg h leg event) events ∙ next_patches leg event

module _ (r : Run) (ok : AreInRange r.bounds r.boots) where
  -- the engine's run with these events
  abbrev pub told_run : List Event → Run
  told_run told = record r { events = told }

  abbrev pub leg_at : List Event → Leg
  leg_at told = leg_of h (told_run told)

  abbrev pub at : List Event → State
  at told = state_of h (leg_at told)

  pub one_version : (told : List Event) → RunsOneVersion (at told)
  one_version told t x live =
      subst (λ patches. All (λ frame. version patches frame.func.0 frame.level.0 ≡ version patches frame.func.0 x.level) x.frames)
      (sym (patches_stay (first_leg h (told_run told)) told)) ((keeps_one_version h lawful).now refl (told_run told) ok t x live)

  -- the kernel is the function of where the engine stands
  pub record Follows (told : List Event) (m : Linux) : Type 0 where
    pub phase : Phase
    pub is : m ≡ linux_of phase (at told)
    pub keeps : Keeps phase (at told)

  -- ---- The start

  start_state : State
  start_state = (first_leg h r).opening

  start_is : at [] ≡ (first_leg h r).opening
  unfolding leg_after
  start_is = started h (told_run [])

  boots_same : (boots : List (TaskId × Class)) (t : ℕ) → klp_booted boots t ≡ map_live (task_of (klp_of Undefined (first_leg h r).opening) 0) (booted h boots t)
  boots_same [] t = refl
  boots_same (boot ∷ boots) t = by (nat_eq t boot.0.0) (boots_same boots t)
    where
      by : (b : Bool) → klp_booted boots t ≡ map_live (task_of (klp_of Undefined (first_leg h r).opening) 0) (booted h boots t) → (if b then Live (record born { class = boot.1; mode = first_mode boot.1 }) else klp_booted boots t) ≡ map_live (task_of (klp_of Undefined (first_leg h r).opening) 0) (if b then Live (at_boot h t boot.1) else booted h boots t)
      by true rest = refl
      by false rest = rest

  abbrev InRange : TaskId × Class → Type 0
  InRange b = (0 < b.0.0) × (b.0.0 ≤ r.bounds.tasks)

  boots_fit : (boots : List (TaskId × Class)) → AreInRange r.bounds boots → Fits r.bounds.tasks (λ level. level ≡ 0) (booted h boots)
  boots_fit [] in_range t x live = absurd (cc)
  boots_fit (boot ∷ boots) in_range t x live = by (boots_fit boots (All-tail InRange boot boots in_range) t x) (nat_eq t boot.0.0) refl live
    where
      by : (booted h boots t ≡ Live x → Fit r.bounds.tasks (λ level. level ≡ 0) t x) → (b : Bool) → nat_eq t boot.0.0 ≡ b → (if b then Live (at_boot h t boot.1) else booted h boots t) ≡ Live x → Fit r.bounds.tasks (λ level. level ≡ 0) t x
      by rest true e there =
          let place = All-head InRange boot boots in_range in
          let same = eqb-true t boot.0.0 e in
          let is : at_boot h t boot.1 ≡ x = cc in
          record {
            positive = subst (λ n. 0 < n) (sym same) place.0;
            within = subst (λ n. n ≤ r.bounds.tasks) (sym same) place.1;
            own = ap (λ (y : LegTask). y.group) (sym is);
            level = ap (λ (y : LegTask). y.level) (sym is);
          }
      by rest false e there = rest there

  pub starts_settled : boot r.bounds r.patches r.boots ≡ linux_of Undefined (at [])
  starts_settled =
      let opening = (first_leg h r).opening in
      ap (λ (tasks : ℕ → Fate TaskStruct). record { bounds = r.bounds; klp = klp_of Undefined opening; tasks = tasks }) (fun_ext (λ t. boots_same r.boots t)) ∙ ap (linux_of Undefined) (sym start_is)

  starts : Follows [] (boot r.bounds r.patches r.boots)
  starts =
      let opening = (first_leg h r).opening in
      let keeps : Keeps Undefined opening = record { fits = boots_fit r.boots ok; turns = tt; target_in = omega arith; from_in = omega arith } in
      record { phase = Undefined; is = starts_settled; keeps = subst (Keeps Undefined) (sym start_is) keeps }

  -- ---- One event, and all

  abbrev did : (told : List Event) (phase : Phase) → Keeps phase (at told) → (event : Event) → Does phase (at told) event (heard_as (linux_of phase (at told)) event)
  did told phase keeps event = does phase (at told) keeps (one_version told) event

  reaches : (told : List Event) (event : Event) → next h (at told) event ≡ at (told ++ event ∷ [])
  reaches told event =
      let stands : StandsIn h (told_run told) (at told) = record { in_range = ok; there = refl } in
      (((steps_as_defined h lawful).steps (at told) event).reaches (told_run told) stands).there

  goes_on : (told : List Event) (m : Linux) → Follows told m → (event : Event) → Follows (told ++ heard_as m event ∷ []) (step m event)
  goes_on told m follows event = subst (λ k. Follows (told ++ heard_as k event ∷ []) (step k event)) (sym follows.is) there
    where
      there : Follows (told ++ heard_as (linux_of follows.phase (at told)) event ∷ []) (step (linux_of follows.phase (at told)) event)
      there =
          let one = did told follows.phase follows.keeps event in
          let went = reaches told (heard_as (linux_of follows.phase (at told)) event) in
          record { phase = one.after; is = one.there ∙ ap (linux_of one.after) went; keeps = subst (Keeps one.after) went one.keeps }

  all_along : (events told : List Event) (m : Linux) → Follows told m → Follows (told ++ heard m events) (run m events)
  unfolding heard_of run_of
  all_along [] told m follows = subst (λ list. Follows list m) (sym (append-nil told)) follows
  all_along (event ∷ events) told m follows =
      subst (λ list. Follows list (run (step m event) events)) (append_assoc told (heard_as m event ∷ []) (heard (step m event) events))
      (all_along events (told ++ heard_as m event ∷ []) (step m event) (goes_on told m follows event))

  pub follows_run : Follows (heard (boot r.bounds r.patches r.boots) r.events) (run (boot r.bounds r.patches r.boots) r.events)
  follows_run = all_along r.events [] (boot r.bounds r.patches r.boots) starts

  -- ---- What follows

  -- where nothing is in transition
  settled_of : (phase : Phase) (s : State) → (klp_of phase s).klp_transition_patch ≡ 0 → phase ≡ Undefined
  settled_of Undefined s e = refl
  settled_of Patched s e = absurd (omega (arith, e))
  settled_of Unpatched s e = absurd (omega (arith, e))

  settled_patch : (phase : Phase) (s : State) → phase ≡ Undefined → (klp_of phase s).klp_transition_patch ≡ 0
  settled_patch phase s e = ap (λ p. (klp_of p s).klp_transition_patch) e

  pub stands_as : (told : List Event) (m : Linux) → Follows told m → StandsAs m (leg_at told)
  stands_as told m follows = subst (λ k. StandsAs k (leg_at told)) (sym follows.is) (by follows.phase follows.keeps)
    where
      heads_of : (phase : Phase) → Keeps phase (at told) → Heads (klp_of phase (at told)) (leg_at told).from (leg_at told).target (shown h (leg_at told))
      heads_of Undefined keeps = Nowhere refl refl refl (λ t x live. (keeps.fits t x live).level)
      heads_of Patched keeps = HeadsUp refl refl refl keeps.turns (λ t x live. (keeps.fits t x live).level)
      heads_of Unpatched keeps = HeadsDown refl refl refl keeps.turns (λ t x live. (keeps.fits t x live).level)

      tasks_of : (phase : Phase) (t : ℕ) → (linux_of phase (at told)).tasks t ≡ map_live (task_of (klp_of phase (at told)) (leg_at told).target) (shown h (leg_at told) t)
      tasks_of phase t = refl

      settled_of : (phase : Phase) → Keeps phase (at told) → (klp_of phase (at told)).klp_transition_patch ≡ 0 → (t : ℕ) (task : TaskStruct) → (linux_of phase (at told)).tasks t ≡ Live task → (task.patch_state ≡ KLP_UNDEFINED) × (task.TIF_PATCH_PENDING ≡ false)
      settled_of Undefined keeps e t task live =
          let one = fate_from (task_of (klp_of Undefined (at told)) (at told).target) ((at told).tasks t) task live in
          let is = one.is ∙ task_by (klp_of Undefined (at told)) (at told).target one.life true (eq-eqb one.life.level (at told).target (keeps.fits t one.life one.live).level) in
          (ap (λ (k : TaskStruct). k.patch_state) is, ap (λ (k : TaskStruct). k.TIF_PATCH_PENDING) is)
      settled_of Patched keeps e t task live = absurd (omega (arith, e))
      settled_of Unpatched keeps e t task live = absurd (omega (arith, e))

      not_undefined : (state : PatchState) (b : Bool) → state ≢ KLP_UNDEFINED → opposite state ≢ KLP_UNDEFINED → (if b then state else opposite state) ≢ KLP_UNDEFINED
      not_undefined state true one other e = one e
      not_undefined state false one other e = other e

      unsettled_of : (phase : Phase) → (klp_of phase (at told)).klp_transition_patch ≢ 0 → (t : ℕ) (task : TaskStruct) → (linux_of phase (at told)).tasks t ≡ Live task → task.patch_state ≢ KLP_UNDEFINED
      unsettled_of Undefined e t task live same = absurd (e refl)
      unsettled_of Patched e t task live same =
          let one = fate_from (task_of (klp_of Patched (at told)) (at told).target) ((at told).tasks t) task live in
          not_undefined KLP_PATCHED (nat_eq one.life.level (at told).target) (λ is. absurd (cc)) (λ is. absurd (cc)) (sym (ap (λ (k : TaskStruct). k.patch_state) one.is) ∙ same)
      unsettled_of Unpatched e t task live same =
          let one = fate_from (task_of (klp_of Unpatched (at told)) (at told).target) ((at told).tasks t) task live in
          not_undefined KLP_UNPATCHED (nat_eq one.life.level (at told).target) (λ is. absurd (cc)) (λ is. absurd (cc)) (sym (ap (λ (k : TaskStruct). k.patch_state) one.is) ∙ same)

      complete_of : (phase : Phase) → Keeps phase (at told) → (klp_of phase (at told)).klp_transition_patch ≡ 0 → is_complete_now h (leg_at told) ≡ true
      complete_of Undefined keeps e = sym (complete_is h (leg_at told)) ∙ settled_complete (at told) keeps
      complete_of Patched keeps e = absurd (omega (arith, e))
      complete_of Unpatched keeps e = absurd (omega (arith, e))

      by : (phase : Phase) → Keeps phase (at told) → StandsAs (linux_of phase (at told)) (leg_at told)
      by phase keeps =
          record {
            tasks = tasks_of phase;
            heads = heads_of phase keeps;
            settled = settled_of phase keeps;
            unsettled = unsettled_of phase;
            complete = complete_of phase keeps;
            awaits = awaits_is phase (at told) ∙ ap (λ b. not (nat_eq (klp_of phase (at told)).klp_transition_patch 0) && b) (complete_is h (leg_at told));
          }

  pub steps_as : (told : List Event) (m : Linux) → Follows told m → (event : Event) → StepsAs m (step m event) (leg_at told) event
  steps_as told m follows event = subst (λ k. StepsAs k (step k event) (leg_at told) event) (sym follows.is) (by follows.phase follows.keeps)
    where
      one_plain : (phase : Phase) (keeps : Keeps phase (at told)) → is_control event ≡ false → Does phase (at told) event event
      one_plain phase keeps plain = subst (Does phase (at told) event) (heard_plain (linux_of phase (at told)) event plain) (did told phase keeps event)

      -- an event that is no control event leaves the target
      target_stays : is_control event ≡ false → (next h (at told) event).target ≡ (at told).target
      target_stays plain = by_why (refusal_of h (at told) event) refl
        where
          by_why : (why : Option Refusal) → refusal_of h (at told) event ≡ why → (next h (at told) event).target ≡ (at told).target
          by_why (Some why) e = ap (λ (st : State). st.target) (next-refused (at told) event why e)
          by_why None e = ap (λ (st : State). st.target) (next-plain (at told) event e plain)

      switches_of : (phase : Phase) (keeps : Keeps phase (at told)) → is_control event ≡ false → (t : ℕ) (a b : TaskStruct) → (linux_of phase (at told)).tasks t ≡ Live a → (step (linux_of phase (at told)) event).tasks t ≡ Live b → (a.TIF_PATCH_PENDING && not b.TIF_PATCH_PENDING) ≡ names (reply h (leg_at told) event).what t
      switches_of phase keeps plain t a b before after =
          let did_one = one_plain phase keeps plain in
          let st = next h (at told) event in
          let x = fate_from (task_of (klp_of phase (at told)) (at told).target) ((at told).tasks t) a before in
          let y = fate_from (task_of (klp_of did_one.after st) st.target) (st.tasks t) b (sym (ap (λ (k : Linux). k.tasks t) did_one.there) ∙ after) in
          let tells = (states_tell h lawful).leg (leg_at told) in
          let sound = (opens_soundly h lawful).sound (told_run told) ok in
          ap₂ (λ p q. p && not q) (ap (λ (k : TaskStruct). k.TIF_PATCH_PENDING) x.is) (ap (λ (k : TaskStruct). k.TIF_PATCH_PENDING) y.is ∙ ap (λ n. not (nat_eq y.life.level n)) (target_stays plain))
          ∙ (sym (answer_names phase (at told) keeps event plain t x.life y.life x.live y.live) ∙ ap (λ (r : Reply). names r.what t) (tells.answers sound event))

      awaits_of : (after : Phase) (st : State) → (after ≡ Undefined → ⊥) → complete_in st ≡ true → awaits_walk (linux_of after st) ≡ true
      awaits_of Undefined st moving done = absurd (moving refl)
      awaits_of Patched st moving done = awaits_is Patched st ∙ ap₂ (λ p q. not p && q) (ne_eqb (suc st.from) 0 (λ same. omega (arith, same))) done
      awaits_of Unpatched st moving done = awaits_is Unpatched st ∙ ap₂ (λ p q. not p && q) (ne_eqb (suc st.target) 0 (λ same. omega (arith, same))) done

      stays_of : (phase : Phase) (keeps : Keeps phase (at told)) → awaits_walk (linux_of phase (at told)) ≡ true → is_control event ≡ false → event ≢ Walk → awaits_walk (step (linux_of phase (at told)) event) ≡ true
      stays_of phase keeps over plain no_walk =
          let did_one = one_plain phase keeps plain in
          let parts = and_parts _ _ (sym (awaits_is phase (at told)) ∙ over) in
          let moving : phase ≡ Undefined → ⊥ = λ settled. let zero_patch = eq-eqb _ 0 (settled_patch phase (at told) settled) in let no_way : false ≡ true = sym (ap not zero_patch) ∙ parts.0 in absurd (cc) in
          ap awaits_walk did_one.there ∙ awaits_of did_one.after (next h (at told) event) (λ settled. no_walk (did_one.ends moving settled).0) (over_stays phase (at told) keeps event plain parts.1)

      by : (phase : Phase) → Keeps phase (at told) → StepsAs (linux_of phase (at told)) (step (linux_of phase (at told)) event) (leg_at told) event
      by phase keeps =
          let one = did told phase keeps event in
          let heard_event = heard_as (linux_of phase (at told)) event in
          let tells = (states_tell h lawful).leg (leg_at told) in
          let sound = (opens_soundly h lawful).sound (told_run told) ok in
          let same = tells.refused heard_event in
          let complete_then : complete_in (next h (at told) heard_event) ≡ is_complete_now h (next_leg h (leg_at told) heard_event) = ap complete_in (tells.steps sound heard_event) ∙ complete_is h (next_leg h (leg_at told) heard_event) in
          let patch_then : (step (linux_of phase (at told)) event).klp.klp_transition_patch ≡ (klp_of one.after (next h (at told) heard_event)).klp_transition_patch = ap (λ (k : Linux). k.klp.klp_transition_patch) one.there in
          record {
            refused = (λ e. sym same ∙ one.refused.0 e, λ e. one.refused.1 (same ∙ e));
            reason = λ e. one.why (sym e) ∙ same;
            switches = switches_of phase keeps;
            keeps_awaiting = stays_of phase keeps;
            completes = λ before after.
                let ended = one.ends (λ settled. before (settled_patch phase (at told) settled)) (settled_of one.after (next h (at told) heard_event) (sym patch_then ∙ after)) in
                (ended.0, sym complete_then ∙ ended.1);
            completes_first = λ walk done. patch_then ∙ settled_patch one.after (next h (at told) heard_event) (one.ends_there walk (complete_then ∙ done));
          }

  pub tries_as : (told : List Event) (m : Linux) → Follows told m → m.klp.klp_transition_patch ≢ 0 → (t : ℕ) (x : LegTask) → shown h (leg_at told) t ≡ Live x → TriesAs m (leg_at told) t x
  tries_as told m follows = subst (λ (k : Linux). k.klp.klp_transition_patch ≢ 0 → (t : ℕ) (x : LegTask) → shown h (leg_at told) t ≡ Live x → TriesAs k (leg_at told) t x) (sym follows.is) (by follows.phase follows.keeps)
    where
      by : (phase : Phase) → Keeps phase (at told) → (klp_of phase (at told)).klp_transition_patch ≢ 0 → (t : ℕ) (x : LegTask) → shown h (leg_at told) t ≡ Live x → TriesAs (linux_of phase (at told)) (leg_at told) t x
      by phase keeps set t x live =
          let moving : phase ≡ Undefined → ⊥ = λ settled. set (settled_patch phase (at told) settled) in
          record {
            code = codes phase (at told) keeps (one_version told) moving t x live;
            admits = passes_code (leg_at told).aim t x;
            own_code = own_codes phase (at told) keeps (one_version told) moving t x live;
            own_admits = passes_own_code (leg_at told).aim t x;
          }
