-- A checker's fold gives the tasks with nobody switching.
use Rattle.std.proofs.Common.{◌≡◌, ℕ, zero, suc, ◌+◌, map, Option, Some, None, slice_get, refl, sym, ap, ◌∙◌, arith}
use mathlib.Core.Path.{fun_ext}
use Rattle.lp_model.specs.Rules.{Rules, IsLawful}
use Rattle.lp_definitions.specs.declared.event.Event.{Event}
use Rattle.lp_definitions.specs.declared.refusal.Refusal.{Refusal}
use Rattle.lp_definitions.specs.Tasks.{Origin, Stood, Forked, Life, Fate, Unused, Live, Dead, Tasks, map_live, first_of, tests, refusal}
use Rattle.lp_definitions.specs.Leg.{LegTask, Leg, begin, unless_refused, accept, take_effect, tasks_after, after}
use Rattle.lp_definitions.specs.Schedule.{level_by, frame_of, leg_task, shown_after}
use Rattle.lp_definitions.specs.Sound.{IsSound}
use Rattle.lp_definitions.specs.Chain.{nobody}
use Rattle.lp_machine.specs.Machine.{LegTasks}
use Rattle.lp_machine.specs.inside.Unswitched.{accept_unswitched, take_own_effect, unswitched}
use Rattle.lp_laws.proofs.OneVersion.{frames_kept}
use Rattle.lp_machine_laws.proofs.Cut.{outlines_same, effect_same}

module _ (model : Rules) (leg : Leg) (lawful : IsLawful model) (sound : IsSound leg.opening) where
  abbrev seen : ℕ → Tasks → LegTasks
  seen k now t = map_live (leg_task leg nobody k) (now t)

  level_stays : (k group : ℕ) (o : Origin) → level_by leg.target nobody (suc k) group o ≡ level_by leg.target nobody k group o
  unfolding level_by
  level_stays k group (Stood level) = refl
  level_stays k group (Forked g p place) = refl

  fate_stays : (k : ℕ) (fate : Fate Life) → map_live (leg_task leg nobody (suc k)) fate ≡ map_live (leg_task leg nobody k) fate
  fate_stays k Unused = refl
  fate_stays k (Live x) = ap (λ l. Live (record { class = x.class; mode = x.mode; group = x.group; level = l; frames = map (frame_of leg nobody x) x.calls })) (level_stays k x.group x.origin)
  fate_stays k Dead = refl

  fate_opens : (fate : Fate LegTask) → map_live (leg_task leg nobody zero) (map_live begin fate) ≡ fate
  unfolding level_by
  fate_opens Unused = refl
  fate_opens (Live y) = ap (λ frames. Live (record { class = y.class; mode = y.mode; group = y.group; level = y.level; frames = frames })) (frames_kept leg y.frames nobody (begin y))
  fate_opens Dead = refl

  accept_same : (k : ℕ) (now : Tasks) (o : Option Event) → accept_unswitched leg.bounds (seen k now) o ≡ accept leg.bounds now o
  unfolding refusal
  accept_same k now None = refl
  accept_same k now (Some event) = ap (λ outline. unless_refused (first_of (tests leg.bounds outline event)) event) (outlines_same leg nobody k now)

  by_test : (k : ℕ) (event : Event) (r : Option Refusal) → refusal leg.bounds (after model leg k) event ≡ r → take_own_effect model.child_group (suc (leg.number + k)) (unless_refused r event) (seen k (after model leg k)) ≡ seen k (take_effect model.child_group k (unless_refused r event) (after model leg k))
  by_test k event None ok = fun_ext (λ t. sym (effect_same model leg lawful sound nobody (λ group moment e. absurd (cc)) k (suc (leg.number + k)) (omega arith) event ok t))
  by_test k event (Some why) ok = refl

  by_place : (k : ℕ) (o : Option Event) → take_own_effect model.child_group (suc (leg.number + k)) (accept leg.bounds (after model leg k) o) (seen k (after model leg k)) ≡ seen k (take_effect model.child_group k (accept leg.bounds (after model leg k) o) (after model leg k))
  by_place k None = refl
  by_place k (Some event) = by_test k event (refusal leg.bounds (after model leg k) event) refl

  pub unswitched_is : (k : ℕ) → unswitched model.child_group leg k ≡ shown_after model leg nobody k
  unfolding unswitched tasks_after
  unswitched_is zero = sym (fun_ext (λ t. fate_opens (leg.tasks t)))
  unswitched_is (suc k) =
      let now = after model leg k in
      let event = slice_get leg.events k in
      ap (λ st. take_own_effect model.child_group (suc (leg.number + k)) (accept_unswitched leg.bounds st event) st) (unswitched_is k) ∙ (ap (λ o. take_own_effect model.child_group (suc (leg.number + k)) o (seen k now)) (accept_same k now event) ∙ (by_place k event ∙ sym (fun_ext (λ t. fate_stays k (take_effect model.child_group k (accept leg.bounds now event) now t)))))
