-- What a consistency model answers, and what a lawful one keeps.
use Rattle.std.specs.Prelude.{◌≡◌, ◌⊎◌, ℕ, ◌<◌, Bool, List, [], All, AllPairs, Contains, Option, Some, None, IsTrue, IsFalse}
use Rattle.lp_stack.specs.declared.frame.Frame.{Frame}
use Rattle.lp_stack.specs.declared.view.Mode.{Mode}
use Rattle.lp_stack.specs.declared.view.Mode.TheVariants.{User, Kernel, Asleep}
use Rattle.lp_stack.specs.TaskView.{TaskView}
use Rattle.lp_patch.specs.Patches.{Aim, is_stale}
use Rattle.lp_model.specs.declared.check.CheckKind.{CheckKind}
use Rattle.lp_model.specs.declared.check.CheckKind.TheVariants.{KernelExit, IdlePoint, Resched, Walk, Stop}
use Rattle.lp_model.specs.declared.check.ForkKind.{ForkKind}
use Rattle.lp_model.specs.declared.check.Blame.{Blame}
use Rattle.lp_model.specs.declared.check.Blame.TheVariants.{Unused, Frame as Held}

-- a consistency model: the kinds of checks that it uses, whom it admits, whom it blames, and who switches together. It is a
-- record of functions, so each answer follows from the model and the arguments alone
pub record Rules : Type 0 where
  pub uses : CheckKind → Bool
  pub admits : CheckKind → TaskView → Aim → Bool
  pub blame : CheckKind → TaskView → Aim → Option Blame
  pub first_group : ℕ → ℕ
  pub child_group : ℕ → ℕ → ForkKind → ℕ
  pub whole_call : Bool

-- each frame has a greater serial than those below it
abbrev pub SerialsRise : List Frame → Type 0
SerialsRise frames = AllPairs (λ low high. low.serial < high.serial) frames

-- a frame with this serial is there
abbrev pub HoldsSerial : TaskView → ℕ → Type 0
HoldsSerial view serial = (frame : Frame) × Contains view.frames frame × (frame.serial ≡ serial)

-- the modes in which an empty stack is admitted at each kind of check
abbrev pub AdmitsEmptyIn : CheckKind → Mode → Type 0
AdmitsEmptyIn KernelExit mode = mode ≡ User
AdmitsEmptyIn IdlePoint mode = mode ≡ Kernel
AdmitsEmptyIn Resched mode = mode ≡ Kernel
AdmitsEmptyIn Walk mode = mode ≡ Asleep
AdmitsEmptyIn Stop mode = Unit {0}

pub record IsLawful (model : Rules) : Type 0 where
  -- nothing is admitted at a kind that isn't used, and the kinds used can reach every task
  pub unused : (kind : CheckKind) (view : TaskView) (aim : Aim) → IsTrue (model.admits kind view aim) → IsTrue (model.uses kind)
  pub reaches : IsTrue (model.uses Walk) ⊎ IsTrue (model.uses Stop) ⊎ (IsTrue (model.uses KernelExit) × IsTrue (model.uses IdlePoint))
  -- who isn't admitted is blamed, and nobody else
  pub blames : (kind : CheckKind) (view : TaskView) (aim : Aim) → model.blame kind view aim ≡ None → IsTrue (model.admits kind view aim)
  pub blames_none : (kind : CheckKind) (view : TaskView) (aim : Aim) → IsTrue (model.admits kind view aim) → model.blame kind view aim ≡ None
  -- a blamed frame is on the stack
  pub blames_there : (kind : CheckKind) (view : TaskView) (aim : Aim) (serial : ℕ) → model.blame kind view aim ≡ Some (Held serial) → HoldsSerial view serial
  -- an unused kind is blamed at such a kind, and nowhere else
  pub blames_unused : (kind : CheckKind) (view : TaskView) (aim : Aim) → IsFalse (model.uses kind) → model.blame kind view aim ≡ Some Unused
  pub blames_used : (kind : CheckKind) (view : TaskView) (aim : Aim) → model.blame kind view aim ≡ Some Unused → IsFalse (model.uses kind)
  -- a frame once blamed refuses every view of the same task that holds it, at every kind
  pub holds : (kind kind' : CheckKind) (view view' : TaskView) (aim : Aim) (frame : Frame) → SerialsRise view.frames → SerialsRise view'.frames → view'.task ≡ view.task → model.blame kind view aim ≡ Some (Held frame.serial) → Contains view.frames frame → Contains view'.frames frame → IsFalse (model.admits kind' view' aim)
  -- an empty stack is admitted
  pub empties : (kind : CheckKind) (view : TaskView) (aim : Aim) → IsTrue (model.uses kind) → AdmitsEmptyIn kind view.mode → view.frames ≡ [] → IsTrue (model.admits kind view aim)
  -- a whole-call model admits no stale frame
  pub whole : (kind : CheckKind) (view : TaskView) (aim : Aim) → IsTrue model.whole_call → IsTrue (model.admits kind view aim) → All (λ frame. IsFalse (is_stale aim frame)) view.frames
  -- a group is the task's own or the group of all, 0; a child's is its parent's or its own
  pub first : (task : ℕ) → model.first_group task ≡ task ⊎ model.first_group task ≡ 0
  pub child : (group task : ℕ) (how : ForkKind) → model.child_group group task how ≡ group ⊎ model.child_group group task how ≡ task
