-- When one model is at least as permissive as another.
use Rattle.std.specs.Prelude.{◌≡◌, ℕ, IsTrue}
use Rattle.lp_model.specs.declared.check.CheckKind.{CheckKind}
use Rattle.lp_model.specs.declared.check.ForkKind.{ForkKind}
use Rattle.lp_patch.specs.Patches.{Aim}
use Rattle.lp_stack.specs.TaskView.{TaskView}
use Rattle.lp_model.specs.Rules.{Rules}

-- a is at least as permissive as b: the two form the same groups, and whom b admits a admits
pub record IsAtLeastAsPermissive (a b : Rules) : Type 0 where
  pub first_group : (task : ℕ) → a.first_group task ≡ b.first_group task
  pub child_group : (group task : ℕ) (how : ForkKind) → a.child_group group task how ≡ b.child_group group task how
  pub admits :
      (kind : CheckKind) (view : TaskView) (aim : Aim) →
      IsTrue (b.admits kind view aim) → IsTrue (a.admits kind view aim)
