-- The model of processes, as a row of the table.
use Rattle.std.specs.Prelude.{ℕ, Bool, true, false}
use Rattle.lp_stack.specs.declared.view.Mode.{Mode}
use Rattle.lp_stack.specs.declared.view.Mode.TheVariants.{Kernel}
use Rattle.lp_patch.specs.Patches.{is_stale}
use Rattle.lp_model.specs.declared.check.ForkKind.{ForkKind}
use Rattle.lp_model.specs.declared.check.ForkKind.TheVariants.{Own, Share}
use Rattle.lp_model.specs.Row.{ModelRow, is_no_stop, at_walk}

-- in the kernel on a CPU
abbrev pub is_in_kernel : Mode → Bool
is_in_kernel Kernel = true
is_in_kernel _ = false

-- a process of its own has a group of its own; a thread has its parent's
abbrev pub group_by_fork : ℕ → ℕ → ForkKind → ℕ
group_by_fork group child Own = child
group_by_fork group child Share = group

-- the tasks of a process together.
-- Admits, at any kind but Stop, a task without a stale frame, and at Walk none that is in the kernel on a CPU.
-- Blames a kind not used, then the lowest stale frame, then at Walk a task in the kernel on a CPU
abbrev pub process_group : ModelRow
process_group =
    record {
      uses = is_no_stop;
      keeps = is_stale;
      busy = at_walk is_in_kernel;
      first_group = λ task. task;
      child_group = group_by_fork;
      whole_call = true;
    }
