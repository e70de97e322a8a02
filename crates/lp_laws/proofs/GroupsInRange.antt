-- Groups have numbers of tasks, or 0.
use Rattle.std.proofs.Common.{◌≡◌, ℕ, ◌≤◌, Bool, true, false, List, [], ◌∷◌, length, if◌then◌else◌, nat_eq, refl, sym, subst, ⊎_elim, arith}
use Rattle.std.proofs.lemmas.Bool.{cond_both}
use Rattle.lp_stack.specs.declared.number.TaskId.{TaskId}
use Rattle.lp_stack.specs.declared.view.Class.{Class}
use Rattle.lp_patch.specs.Patches.{Patches}
use Rattle.lp_model.specs.Rules.{Rules, IsLawful}
use Rattle.lp_definitions.specs.declared.event.Event.{Event}
use Rattle.lp_definitions.specs.Tasks.{Life, Fate, Unused, Live, Dead, Bounds, map_live}
use Rattle.lp_definitions.specs.Leg.{LegTask, Leg, State, after}
use Rattle.lp_definitions.specs.Schedule.{first_check, leg_task}
use Rattle.lp_definitions.specs.Run.{at_boot, booted, start, and_then, shown, opened, opens, next_leg, leg_after}
use Rattle.lp_definitions.specs.Sound.{IsSound}
use Rattle.lp_laws.proofs.NextTasks.{changed_group, each_life}

-- each live task is in a group whose number is in range
abbrev pub GroupsAreInRange : State → Type 0
GroupsAreInRange opening = (t : ℕ) (x : LegTask) → opening.tasks t ≡ Live x → x.group ≤ opening.bounds.tasks

module _ (model : Rules) (lawful : IsLawful model) where
  pub group_in_range : (leg : Leg) → GroupsAreInRange leg.opening → (k t : ℕ) (x : Life) → after model leg k t ≡ Live x → x.group ≤ leg.bounds.tasks
  group_in_range leg at_opening =
      each_life model.child_group leg (λ k t x. x.group ≤ leg.bounds.tasks)
      at_opening
      (λ k t y c live h now. subst (λ g. g ≤ leg.bounds.tasks) (sym (changed_group k c y)) h)
      (λ k p t how y live h unused positive within now.
      ⊎_elim
      (λ (e : model.child_group y.group t how ≡ y.group). subst (λ g. g ≤ leg.bounds.tasks) (sym e) h)
      (λ (e : model.child_group y.group t how ≡ t). subst (λ g. g ≤ leg.bounds.tasks) (sym e) within)
      (lawful.child y.group t how))

  shown_in_range : (leg : Leg) (k : ℕ) (f : Fate Life) (x : LegTask) → ((y : Life) → f ≡ Live y → y.group ≤ leg.bounds.tasks) → map_live (leg_task leg (first_check model leg) k) f ≡ Live x → x.group ≤ leg.bounds.tasks
  shown_in_range leg k Unused x h e = absurd (cc)
  shown_in_range leg k (Live y) x h e = let same : leg_task leg (first_check model leg) k y ≡ x = cc in subst (λ (z : LegTask). z.group ≤ leg.bounds.tasks) same (h y refl)
  shown_in_range leg k Dead x h e = absurd (cc)

  opened_in_range : (leg : Leg) (event : Event) → GroupsAreInRange leg.opening → GroupsAreInRange (opened model leg event).opening
  unfolding shown
  opened_in_range leg event h t x live =
      let n = length leg.events in
      shown_in_range leg n (after model leg n t) x (λ y was. group_in_range leg h n t y was) live

  pub next_in_range : (leg : Leg) (event : Event) → GroupsAreInRange leg.opening → GroupsAreInRange (next_leg model leg event).opening
  unfolding next_leg
  next_in_range leg event h =
      cond_both (opens model leg event) (opened model leg event) (and_then leg event) (λ l. GroupsAreInRange l.opening) (λ e. opened_in_range leg event h) (λ e. h)

  pub run_in_range : (leg : Leg) (events : List Event) → GroupsAreInRange leg.opening → GroupsAreInRange (leg_after model leg events).opening
  unfolding leg_after
  run_in_range leg [] h = h
  run_in_range leg (event ∷ events) h = run_in_range (next_leg model leg event) events (next_in_range leg event h)

  -- ---- The start

  boot_in_range : (bounds : Bounds) (t : ℕ) (class : Class) → t ≤ bounds.tasks → (at_boot model t class).group ≤ bounds.tasks
  boot_in_range bounds t class within =
      ⊎_elim
      (λ (own : model.first_group t ≡ t). subst (λ g. g ≤ bounds.tasks) (sym own) within)
      (λ (all : model.first_group t ≡ 0). subst (λ g. g ≤ bounds.tasks) (sym all) (omega arith))
      (lawful.first t)

  one_boot_in_range : (bounds : Bounds) (boot : TaskId × Class) (t : ℕ) (x : LegTask) (rest : Fate LegTask) (b : Bool) → t ≤ bounds.tasks → (rest ≡ Live x → x.group ≤ bounds.tasks) → (if b then Live (at_boot model t boot.1) else rest) ≡ Live x → x.group ≤ bounds.tasks
  one_boot_in_range bounds boot t x rest true within h e = let same : at_boot model t boot.1 ≡ x = cc in subst (λ (z : LegTask). z.group ≤ bounds.tasks) same (boot_in_range bounds t boot.1 within)
  one_boot_in_range bounds boot t x rest false within h e = h e

  boots_in_range : (bounds : Bounds) (boots : List (TaskId × Class)) (t : ℕ) (x : LegTask) → t ≤ bounds.tasks → booted model boots t ≡ Live x → x.group ≤ bounds.tasks
  boots_in_range bounds [] t x within e = absurd (cc)
  boots_in_range bounds (boot ∷ boots) t x within e =
      one_boot_in_range bounds boot t x (booted model boots t) (nat_eq t boot.0.0) within (boots_in_range bounds boots t x within) e

  pub start_in_range : (bounds : Bounds) (patches : Patches) (boots : List (TaskId × Class)) → IsSound (start model bounds patches boots).opening → GroupsAreInRange (start model bounds patches boots).opening
  start_in_range bounds patches boots sound t x live = boots_in_range bounds boots t x (sound.numbered t x live).1 live
