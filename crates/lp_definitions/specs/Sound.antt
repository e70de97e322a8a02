-- What every state of a run keeps.
use Rattle.std.specs.Prelude.{◌≡◌, ◌≢◌, ◌⊎◌, ℕ, ◌<◌, ◌≤◌, All}
use Rattle.lp_stack.specs.declared.frame.Frame.{Frame}
use Rattle.lp_patch.specs.Patches.{Patches, version}
use Rattle.lp_model.specs.Rules.{SerialsRise}
use Rattle.lp_definitions.specs.Tasks.{Unused, Live}
use Rattle.lp_definitions.specs.Leg.{LegTask, State}

-- a sound state
pub record IsSound (opening : State) : Type 0 where
  -- live tasks have numbers from 1 to the bound
  pub numbered : (t : ℕ) (x : LegTask) → opening.tasks t ≡ Live x → (0 < t) × (t ≤ opening.bounds.tasks)
  -- a group's number is 0 or a used task number
  pub grouped : (t : ℕ) (x : LegTask) → opening.tasks t ≡ Live x → x.group ≡ 0 ⊎ opening.tasks x.group ≢ Unused
  -- members of one group are on one level: they switch together
  pub one_side :
      (t u : ℕ) (x y : LegTask) → opening.tasks t ≡ Live x → opening.tasks u ≡ Live y →
      x.group ≡ y.group → x.level ≡ y.level
  -- a frame is later than those below it, and no later than the state
  pub serials_rise : (t : ℕ) (x : LegTask) → opening.tasks t ≡ Live x → SerialsRise x.frames
  pub serials_past : (t : ℕ) (x : LegTask) → opening.tasks t ≡ Live x → All (λ frame. frame.serial ≤ opening.number) x.frames

-- the frame's function has one version, at the level of the call and at this level
abbrev pub HasOneVersion : Patches → ℕ → Frame → Type 0
HasOneVersion patches level frame = version patches frame.func.0 frame.level.0 ≡ version patches frame.func.0 level

-- each function on a stack has one version, at the level of its call and at the task's present level
abbrev pub RunsOneVersion : State → Type 0
RunsOneVersion opening =
    (t : ℕ) (x : LegTask) → opening.tasks t ≡ Live x → All (HasOneVersion opening.patches x.level) x.frames
