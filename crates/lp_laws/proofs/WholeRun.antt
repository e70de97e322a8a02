-- What every leg of a run keeps.
use Rattle.std.proofs.Common.{◌≡◌, ℕ, suc, ◌+◌, ◌<◌, ◌≤◌, Bool, true, false, List, [], ◌∷◌, length, All, IsTrue, if◌then◌else◌, nat_eq, refl, sym, ap, ◌∙◌, subst, ⊎_elim, inl, inr, arith}
use Rattle.std.proofs.lemmas.Bool.{cond_both, eqb-true}
use Rattle.std.proofs.lemmas.List.Elements.{All-nil, All-head, All-tail}
use Rattle.lp_stack.specs.declared.view.Class.{Class}
use Rattle.lp_patch.specs.Patches.{Patches, version}
use Rattle.lp_model.specs.Rules.{Rules, SerialsRise, IsLawful}
use Rattle.lp_definitions.specs.declared.event.Event.{Event}
use Rattle.lp_definitions.specs.Tasks.{Unused, Live, Bounds}
use Rattle.lp_definitions.specs.Leg.{LegTask, Leg}
use Rattle.lp_definitions.specs.Schedule.{first_check}
use Rattle.lp_definitions.specs.Sound.{IsSound, RunsOneVersion}
use Rattle.lp_definitions.specs.Run.{at_boot, booted, AreInRange, start, and_then, new_target, shown, opened, opens, next_leg, leg_after}
use Rattle.lp_laws.proofs.First.{first_check_is}
use Rattle.lp_laws.proofs.SoundAfter.{sound_after, one_version_after}
use Rattle.lp_stack.specs.declared.number.TaskId.{TaskId}

module _ (model : Rules) (lawful : IsLawful model) where
  opened_sound : (leg : Leg) (event : Event) → IsSound leg.opening → IsSound (opened model leg event).opening
  unfolding shown
  opened_sound leg event sound =
      sound_after model leg lawful sound (first_check model leg) (first_check_is model leg).legal (length leg.events) (leg.number + suc (length leg.events)) leg.target (record { patches = leg.patches; target = new_target leg.opening event }) (omega arith)

  opened_one_version : (leg : Leg) (event : Event) → IsSound leg.opening → IsTrue model.whole_call → RunsOneVersion leg.opening → RunsOneVersion (opened model leg event).opening
  unfolding shown
  opened_one_version leg event sound whole one =
      one_version_after model leg lawful sound (first_check model leg) (first_check_is model leg).legal (length leg.events) (leg.number + suc (length leg.events)) leg.target (record { patches = leg.patches; target = new_target leg.opening event }) refl whole one

  pub next_sound : (leg : Leg) (event : Event) → IsSound leg.opening → IsSound (next_leg model leg event).opening
  unfolding next_leg
  next_sound leg event sound = cond_both (opens model leg event) (opened model leg event) (and_then leg event) (λ l. IsSound l.opening) (λ e. opened_sound leg event sound) (λ e. sound)

  pub next_one_version : (leg : Leg) (event : Event) → IsSound leg.opening → IsTrue model.whole_call → RunsOneVersion leg.opening → RunsOneVersion (next_leg model leg event).opening
  unfolding next_leg
  next_one_version leg event sound whole one =
      cond_both (opens model leg event) (opened model leg event) (and_then leg event) (λ l. RunsOneVersion l.opening) (λ e. opened_one_version leg event sound whole one) (λ e. one)

  pub run_sound : (leg : Leg) (events : List Event) → IsSound leg.opening → IsSound (leg_after model leg events).opening
  unfolding leg_after
  run_sound leg [] sound = sound
  run_sound leg (event ∷ events) sound = run_sound (next_leg model leg event) events (next_sound leg event sound)

  pub run_one_version : (leg : Leg) (events : List Event) → IsSound leg.opening → IsTrue model.whole_call → RunsOneVersion leg.opening → RunsOneVersion (leg_after model leg events).opening
  unfolding leg_after
  run_one_version leg [] sound whole one = one
  run_one_version leg (event ∷ events) sound whole one = run_one_version (next_leg model leg event) events (next_sound leg event sound) whole (next_one_version leg event sound whole one)

  -- ---- The start

  -- what a boot list puts at a number
  record Boots (bounds : Bounds) (t : ℕ) (x : LegTask) : Type 0 where
    numbered : (0 < t) × (t ≤ bounds.tasks)
    class : Class
    is : x ≡ at_boot model t class

  boots_at : (bounds : Bounds) (boots : List (TaskId × Class)) → AreInRange bounds boots → (t : ℕ) (x : LegTask) → booted model boots t ≡ Live x → Boots bounds t x
  boots_at bounds [] ok t x e = absurd (cc)
  boots_at bounds (boot ∷ boots) ok t x e = at_one (nat_eq t boot.0.0) refl e (boots_at bounds boots (All-tail in_range boot boots ok) t x)
    where
      in_range : TaskId × Class → Type 0
      in_range b = (0 < b.0.0) × (b.0.0 ≤ bounds.tasks)

      at_one : (b : Bool) → nat_eq t boot.0.0 ≡ b → (if b then Live (at_boot model t boot.1) else booted model boots t) ≡ Live x → (booted model boots t ≡ Live x → Boots bounds t x) → Boots bounds t x
      at_one true h here rest = record { numbered = subst (λ n. (0 < n) × (n ≤ bounds.tasks)) (sym (eqb-true t boot.0.0 h)) (All-head in_range boot boots ok); class = boot.1; is = cc }
      at_one false h here rest = rest here

  pub start_sound : (bounds : Bounds) (patches : Patches) (boots : List (TaskId × Class)) → AreInRange bounds boots → IsSound (start model bounds patches boots).opening
  start_sound bounds patches boots ok =
      record {
        numbered = λ t x live. (boots_at bounds boots ok t x live).numbered;
        grouped = λ t x live.
            let b = boots_at bounds boots ok t x live in
            let group : x.group ≡ model.first_group t = ap (λ s. s.group) b.is in
            ⊎_elim (λ (own : model.first_group t ≡ t). inr (λ none. let at : booted model boots t ≡ Unused = ap (booted model boots) (sym (group ∙ own)) ∙ none in cc)) (λ (all : model.first_group t ≡ 0). inl (group ∙ all)) (lawful.first t);
        one_side = λ t u x y live_x live_y same. ap (λ s. s.level) (boots_at bounds boots ok t x live_x).is ∙ sym (ap (λ s. s.level) (boots_at bounds boots ok u y live_y).is);
        serials_rise = λ t x live. subst (λ s. SerialsRise s.frames) (sym (boots_at bounds boots ok t x live).is) (λ i j d lt none. absurd (omega arith));
        serials_past = λ t x live. subst (λ s. All (λ frame. frame.serial ≤ 0) s.frames) (sym (boots_at bounds boots ok t x live).is) (All-nil (λ frame. frame.serial ≤ 0));
      }

  pub start_one_version : (bounds : Bounds) (patches : Patches) (boots : List (TaskId × Class)) → AreInRange bounds boots → RunsOneVersion (start model bounds patches boots).opening
  start_one_version bounds patches boots ok t x live =
      subst (λ s. All (λ frame. version patches frame.func.0 frame.level.0 ≡ version patches frame.func.0 s.level) s.frames) (sym (boots_at bounds boots ok t x live).is) (All-nil (λ frame. version patches frame.func.0 frame.level.0 ≡ version patches frame.func.0 0))

  -- ---- The patches stay the same, and so what is said of the leg's patches is said of the start's

  pub next_patches : (leg : Leg) (event : Event) → (next_leg model leg event).patches ≡ leg.patches
  unfolding next_leg
  next_patches leg event = cond_both (opens model leg event) (opened model leg event) (and_then leg event) (λ l. l.patches ≡ leg.patches) (λ e. refl) (λ e. refl)

  run_patches : (leg : Leg) (events : List Event) → (leg_after model leg events).patches ≡ leg.patches
  unfolding leg_after
  run_patches leg [] = refl
  run_patches leg (event ∷ events) = run_patches (next_leg model leg event) events ∙ next_patches leg event

  pub now_one_version : (leg : Leg) → IsSound leg.opening → IsTrue model.whole_call → RunsOneVersion leg.opening → (t : ℕ) (x : LegTask) → shown model leg t ≡ Live x → All (λ frame. version leg.patches frame.func.0 frame.level.0 ≡ version leg.patches frame.func.0 x.level) x.frames
  unfolding shown
  now_one_version leg sound whole one t x live =
      one_version_after model leg lawful sound (first_check model leg) (first_check_is model leg).legal (length leg.events) 0 0 leg.aim refl whole one t x live

  pub always_one_version : IsTrue model.whole_call → (bounds : Bounds) (patches : Patches) (boots : List (TaskId × Class)) → AreInRange bounds boots → (events : List Event) (t : ℕ) (x : LegTask) → shown model (leg_after model (start model bounds patches boots) events) t ≡ Live x → All (λ frame. version patches frame.func.0 frame.level.0 ≡ version patches frame.func.0 x.level) x.frames
  always_one_version whole bounds patches boots ok events t x live =
      let first = start model bounds patches boots in
      let sound = start_sound bounds patches boots ok in
      let leg = leg_after model first events in
      subst (λ ps. All (λ frame. version ps frame.func.0 frame.level.0 ≡ version ps frame.func.0 x.level) x.frames) (run_patches first events) (now_one_version leg (run_sound first events sound) whole (run_one_version first events sound whole (start_one_version bounds patches boots ok)) t x live)
