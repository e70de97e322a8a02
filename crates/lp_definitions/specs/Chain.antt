-- Why a group still waits: refusals at checks, and births of groups in between.
use Rattle.std.specs.Prelude.{◌≡◌, ℕ, zero, suc, ◌<◌, ◌≤◌, Some, None, IsTrue, IsFalse}
use Rattle.lp_model.specs.declared.check.CheckKind.{CheckKind}
use Rattle.lp_model.specs.declared.check.ForkKind.{ForkKind}
use Rattle.lp_model.specs.Rules.{Rules}
use Rattle.lp_definitions.specs.Tasks.{Life, Live}
use Rattle.lp_definitions.specs.Leg.{Leg, accepted, after, check}
use Rattle.lp_definitions.specs.Schedule.{Schedule, view, waits}
use Rattle.lp_definitions.specs.Events.{fork}

-- the schedule under which nobody switches
abbrev pub nobody : Schedule
nobody group = None

module _ (model : Rules) (leg : Leg) (schedule : Schedule) where
  -- after the first k events a live member of the group isn't admitted
  pub record IsRefused (kind : CheckKind) (k group : ℕ) : Type 0 where
    pub task : ℕ
    pub life : Life
    pub live : after model leg k task ≡ Live life
    pub member : life.group ≡ group
    pub refused : IsFalse (model.admits kind (view leg schedule task life) leg.aim)

  -- at each check of the group after event i and up to event k, a live member isn't admitted
  abbrev pub IsRefusedBetween : ℕ → ℕ → ℕ → Type 0
  IsRefusedBetween i k group =
      (j : ℕ) (kind : CheckKind) → i ≤ j → j < k → check model leg j group ≡ Some kind → IsRefused kind (suc j) group

  -- event `place` + 1 is a fork, by a member of the parent's group, of a task into a group of its own
  pub record IsBirth (place parent_group group : ℕ) : Type 0 where
    pub parent : ℕ
    pub how : ForkKind
    pub event : accepted model leg place ≡ Some (fork parent group how)
    pub own : model.child_group parent_group group how ≡ group
    pub life : Life
    pub live : after model leg place parent ≡ Live life
    pub member : life.group ≡ parent_group

  -- groups and births that lead to a group after k events, from one that waited at the opening:
  -- each is refused at every check in its part of the way
  pub data Chain : ℕ → ℕ → Type 0 where
    FromOpening :
        (group k : ℕ) → IsTrue (waits model leg schedule zero group) →
        IsRefusedBetween zero k group → Chain group k
    FromBirth :
        (group k parent_group place : ℕ) → Chain parent_group place →
        IsBirth place parent_group group → place < k → IsRefusedBetween (suc place) k group → Chain group k
