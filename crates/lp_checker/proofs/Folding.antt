-- The fold of a leg gives its tasks with nobody switching.
use Rattle.std.proofs.Common.{◌≡◌, ℕ, suc, ◌+◌, false, Option, Some, None, if◌then◌else◌, nat_eq, slice_get, refl, ap, ◌∙◌}
use Rattle.std.specs.List.{list_any}
use Rattle.lp_model.specs.declared.check.CheckKind.{CheckKind}
use Rattle.lp_model.specs.declared.check.Blame.{Blame}
use Rattle.lp_model.specs.Rules.{Rules, IsLawful}
use Rattle.lp_definitions.specs.declared.event.Event.{Event}
use Rattle.lp_definitions.specs.Tasks.{Life, Fate, Unused, Live, Dead, Tasks, on_live, map_live, outlines, first_of, tests, refusal}
use Rattle.lp_definitions.specs.Leg.{LegTask, Leg, unless_refused, accept, accepted, after, check_by, if_used, check}
use Rattle.lp_definitions.specs.Schedule.{leg_task, view}
use Rattle.lp_definitions.specs.Sound.{IsSound}
use Rattle.lp_definitions.specs.Chain.{nobody}
use Rattle.lp_machine.specs.Machine.{LegTasks, outlines_of, view_of}
use Rattle.lp_machine.specs.inside.Unswitched.{accept_unswitched, take_own_effect, unswitched}
use Rattle.lp_machine_laws.proofs.Cut.{outlines_same}
use Rattle.lp_machine_laws.proofs.Unswitched.{unswitched_is}
use Rattle.lp_checker.specs.inside.Births.{group_in}
use Rattle.lp_definitions.specs.Judgement.{blame_by, is_on_stack}

module _ (model : Rules) (leg : Leg) (lawful : IsLawful model) (sound : IsSound leg.opening) where
  abbrev pub now : ℕ → LegTasks
  now k = unswitched model.child_group leg k

  -- an event is accepted with nobody switching where it is in the leg
  accept_same : (k : ℕ) (tasks : Tasks) (o : Option Event) → accept_unswitched leg.bounds (λ t. map_live (leg_task leg nobody k) (tasks t)) o ≡ accept leg.bounds tasks o
  unfolding refusal
  accept_same k tasks None = refl
  accept_same k tasks (Some event) = ap (λ outline. unless_refused (first_of (tests leg.bounds outline event)) event) (outlines_same leg nobody k tasks)

  pub accepted_is : (k : ℕ) → accept_unswitched leg.bounds (now k) (slice_get leg.events k) ≡ accepted model leg k
  accepted_is k =
      ap (λ tasks. accept_unswitched leg.bounds tasks (slice_get leg.events k)) (unswitched_is model leg lawful sound k)
      ∙ accept_same k (after model leg k) (slice_get leg.events k)

  -- one event more
  pub next_is : (k : ℕ) → take_own_effect model.child_group (suc (leg.number + k)) (accept_unswitched leg.bounds (now k) (slice_get leg.events k)) (now k) ≡ now (suc k)
  unfolding unswitched
  next_is k = refl

  pub outlines_are : (k : ℕ) → outlines_of (now k) ≡ outlines (after model leg k)
  outlines_are k = ap outlines_of (unswitched_is model leg lawful sound k) ∙ outlines_same leg nobody k (after model leg k)

  -- a check of the fold is one of the leg
  pub check_is : (k group : ℕ) → if_used model.uses (check_by leg.bounds (outlines_of (now (suc k))) (accepted model leg k) group) ≡ check model leg k group
  unfolding check
  check_is k group = ap (λ seen. if_used model.uses (check_by leg.bounds seen (accepted model leg k) group)) (outlines_are (suc k))

  -- the blame of a task as it stands
  abbrev pub blame_of : CheckKind → ℕ → ℕ → Fate LegTask → Option Blame
  blame_of kind group t fate = on_live None (λ x. if nat_eq x.group group then model.blame kind (view_of t x) leg.aim else None) fate

  blame_same : (kind : CheckKind) (group k t : ℕ) (fate : Fate Life) → blame_of kind group t (map_live (leg_task leg nobody k) fate) ≡ blame_by model leg (Some kind) group t fate
  blame_same kind group k t Unused = refl
  blame_same kind group k t (Live x) = refl
  blame_same kind group k t Dead = refl

  pub blame_is : (kind : CheckKind) (group k t : ℕ) → blame_of kind group t (now k t) ≡ blame_by model leg (Some kind) group t (after model leg k t)
  blame_is kind group k t = ap (λ (tasks : LegTasks). blame_of kind group t (tasks t)) (unswitched_is model leg lawful sound k) ∙ blame_same kind group k t (after model leg k t)

  frame_same : (k t serial : ℕ) (fate : Fate Life) → on_live false (λ x. list_any (λ frame. nat_eq frame.serial serial) x.frames) (map_live (leg_task leg nobody k) fate) ≡ on_live false (λ x. list_any (λ frame. nat_eq frame.serial serial) (view leg nobody t x).frames) fate
  frame_same k t serial Unused = refl
  frame_same k t serial (Live x) = refl
  frame_same k t serial Dead = refl

  pub frame_is : (k t serial : ℕ) → on_live false (λ x. list_any (λ frame. nat_eq frame.serial serial) x.frames) (now k t) ≡ is_on_stack model leg t serial k
  frame_is k t serial =
      ap (λ (tasks : LegTasks). on_live false (λ x. list_any (λ frame. nat_eq frame.serial serial) x.frames) (tasks t)) (unswitched_is model leg lawful sound k)
      ∙ frame_same k t serial (after model leg k t)

  group_same : (k : ℕ) (fate : Fate Life) → on_live None (λ x. Some x.group) (map_live (leg_task leg nobody k) fate) ≡ group_in fate
  group_same k Unused = refl
  group_same k (Live x) = refl
  group_same k Dead = refl

  pub group_is : (k t : ℕ) → on_live None (λ x. Some x.group) (now k t) ≡ group_in (after model leg k t)
  group_is k t =
      ap (λ (tasks : LegTasks). on_live None (λ x. Some x.group) (tasks t)) (unswitched_is model leg lawful sound k)
      ∙ group_same k (after model leg k t)
