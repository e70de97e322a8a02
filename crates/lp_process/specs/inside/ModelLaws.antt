-- The model is lawful.
use Rattle.std.proofs.Common.{◌≡◌, ◌⊎◌, ℕ, inl, inr, refl, ap}
use Rattle.lp_model.specs.declared.check.CheckKind.TheVariants.{KernelExit, IdlePoint, Resched, Walk, Stop}
use Rattle.lp_model.specs.declared.check.ForkKind.{ForkKind}
use Rattle.lp_model.specs.declared.check.ForkKind.TheVariants.{Own, Share}
use Rattle.lp_model.specs.Rules.{IsLawful}
use Rattle.lp_model.specs.Row.{rules_of}
use Rattle.lp_model.specs.inside.RowLaws.{lawful_row}
use Rattle.lp_process.specs.Models.{is_in_kernel, group_by_fork, process_group}

own_or_parents : (group child : ℕ) (how : ForkKind) → group_by_fork group child how ≡ group ⊎ group_by_fork group child how ≡ child
own_or_parents group child Own = inr refl
own_or_parents group child Share = inl refl

pub process_group_lawful : IsLawful (rules_of process_group)
process_group_lawful =
    lawful_row process_group (record {
      reaches = inl refl;
      free = elim [ KernelExit ↦ λ mode used free. refl | IdlePoint ↦ λ mode used free. refl | Resched ↦ λ mode used free. refl | Walk ↦ λ mode used free. ap is_in_kernel free | Stop ↦ λ mode used free. refl ];
      stale = λ whole aim frame stale. stale;
      first = λ task. inl refl;
      child = own_or_parents;
    })
