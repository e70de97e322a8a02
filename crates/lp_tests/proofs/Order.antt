-- Which of the models are at least as permissive as others.
use Rattle.std.proofs.Common.{Bool, true, false, not, ◌&&◌, List, [], ◌∷◌, IsTrue, refl}
use Rattle.std.specs.List.{list_any}
use Rattle.lp_stack.specs.declared.frame.Frame.{Frame}
use Rattle.lp_stack.specs.TaskView.{TaskView}
use Rattle.lp_patch.specs.Patches.{Aim, is_stale}
use Rattle.lp_model.specs.declared.check.CheckKind.{CheckKind}
use Rattle.lp_model.specs.declared.check.CheckKind.TheVariants.{KernelExit, IdlePoint, Resched, Walk, Stop}
use Rattle.lp_model.specs.Row.{admits_of, rules_of}
use Rattle.lp_models.specs.Models.{hybrid, leave_kernel, immediate}
use Rattle.lp_models.specs.inside.ModelLaws.{admits_all}
use Rattle.lp_definitions.specs.Order.{IsAtLeastAsPermissive}

-- who has no frame has none that a test keeps back
no_frames : (test : Frame → Bool) (frames : List Frame) → IsTrue (true && not (list_any (λ frame. true) frames) && not false) → IsTrue (true && not (list_any test frames) && not false)
no_frames test [] empty = refl
no_frames test (frame ∷ above) empty = absurd (cc)

hybrid_admits : (kind : CheckKind) (view : TaskView) (aim : Aim) → IsTrue (admits_of leave_kernel kind view aim) → IsTrue (admits_of hybrid kind view aim)
hybrid_admits KernelExit view aim e = no_frames (is_stale aim) view.frames e
hybrid_admits IdlePoint view aim e = no_frames (is_stale aim) view.frames e
hybrid_admits Resched view aim e = absurd (cc)
hybrid_admits Walk view aim e = absurd (cc)
hybrid_admits Stop view aim e = absurd (cc)

pub hybrid_over_leave_kernel : IsAtLeastAsPermissive (rules_of hybrid) (rules_of leave_kernel)
hybrid_over_leave_kernel =
    record {
      first_group = λ task. refl;
      child_group = λ group task how. refl;
      admits = hybrid_admits;
    }

pub immediate_over_hybrid : IsAtLeastAsPermissive (rules_of immediate) (rules_of hybrid)
immediate_over_hybrid =
    record {
      first_group = λ task. refl;
      child_group = λ group task how. refl;
      admits = λ kind view aim e. admits_all kind view aim;
    }

pub immediate_over_leave_kernel : IsAtLeastAsPermissive (rules_of immediate) (rules_of leave_kernel)
immediate_over_leave_kernel =
    record {
      first_group = λ task. refl;
      child_group = λ group task how. refl;
      admits = λ kind view aim e. admits_all kind view aim;
    }
