-- The models are lawful.
use Rattle.std.proofs.Common.{◌≡◌, true, false, inl, inr, refl, ap}
use Rattle.std.proofs.lemmas.List.Folds.{list_any_none}
use Rattle.lp_stack.specs.TaskView.{TaskView}
use Rattle.lp_patch.specs.Patches.{Aim}
use Rattle.lp_model.specs.declared.check.CheckKind.{CheckKind}
use Rattle.lp_model.specs.declared.check.CheckKind.TheVariants.{KernelExit, IdlePoint, Resched, Walk, Stop}
use Rattle.lp_model.specs.Rules.{IsLawful}
use Rattle.lp_model.specs.Row.{admits_of, rules_of}
use Rattle.lp_model.specs.inside.RowLaws.{lawful_row}
use Rattle.lp_process.specs.inside.ModelLaws.{process_group_lawful}
use Rattle.lp_models.specs.declared.name.ModelName.{ModelName}
use Rattle.lp_models.specs.declared.name.ModelName.TheVariants as called
use Rattle.lp_models.specs.Models.{is_awake, hybrid, leave_kernel, all_at_once, immediate, rules_named}

pub hybrid_lawful : IsLawful (rules_of hybrid)
hybrid_lawful =
    lawful_row hybrid (record {
      reaches = inl refl;
      free = elim [ KernelExit ↦ λ mode used free. refl | IdlePoint ↦ λ mode used free. refl | Resched ↦ λ mode used free. refl | Walk ↦ λ mode used free. ap is_awake free | Stop ↦ λ mode used free. refl ];
      stale = λ whole aim frame stale. stale;
      first = λ task. inl refl;
      child = λ group task how. inr refl;
    })

pub leave_kernel_lawful : IsLawful (rules_of leave_kernel)
leave_kernel_lawful =
    lawful_row leave_kernel (record {
      reaches = inr (inr (refl, refl));
      free = λ kind mode used free. refl;
      stale = λ whole aim frame stale. refl;
      first = λ task. inl refl;
      child = λ group task how. inr refl;
    })

pub all_at_once_lawful : IsLawful (rules_of all_at_once)
all_at_once_lawful =
    lawful_row all_at_once (record {
      reaches = inr (inl refl);
      free = λ kind mode used free. refl;
      stale = λ whole aim frame stale. stale;
      first = λ task. inr refl;
      child = λ group task how. inl refl;
    })

pub immediate_lawful : IsLawful (rules_of immediate)
immediate_lawful =
    lawful_row immediate (record {
      reaches = inl refl;
      free = λ kind mode used free. refl;
      stale = λ whole aim frame stale. absurd (cc);
      first = λ task. inl refl;
      child = λ group task how. inr refl;
    })

-- each model that has a name is lawful
pub lawful_named : (model : ModelName) → IsLawful (rules_named model)
lawful_named called.Hybrid = hybrid_lawful
lawful_named called.LeaveKernel = leave_kernel_lawful
lawful_named called.AllAtOnce = all_at_once_lawful
lawful_named called.Immediate = immediate_lawful
lawful_named called.ProcessGroup = process_group_lawful

-- immediate admits everybody
pub admits_all : (kind : CheckKind) (view : TaskView) (aim : Aim) → admits_of immediate kind view aim ≡ true
admits_all kind view aim = rw (list_any_none (λ frame. false) view.frames (λ i d lt. refl)) refl
