-- The models: each as a row of the table, with its name.
use Rattle.std.specs.Prelude.{ℕ, Bool, true, false, List, [], ◌∷◌, codes}
use Rattle.lp_stack.specs.declared.view.Mode.{Mode}
use Rattle.lp_stack.specs.declared.view.Mode.TheVariants.{Asleep}
use Rattle.lp_patch.specs.Patches.{is_stale}
use Rattle.lp_model.specs.declared.check.CheckKind.{CheckKind}
use Rattle.lp_model.specs.declared.check.CheckKind.TheVariants.{KernelExit, IdlePoint, Stop}
use Rattle.lp_model.specs.Rules.{Rules}
use Rattle.lp_model.specs.Row.{ModelRow, rules_of, is_no_stop, at_walk}
use Rattle.lp_process.specs.Models.{process_group}
use Rattle.lp_models.specs.declared.name.ModelName.{ModelName}
use Rattle.lp_models.specs.declared.name.ModelName.TheVariants as called

-- a task's way out of the kernel, or an idle task's idle point
abbrev pub is_own_kind : CheckKind → Bool
is_own_kind KernelExit = true
is_own_kind IdlePoint = true
is_own_kind _ = false

-- a check by a stop
abbrev pub is_stop : CheckKind → Bool
is_stop Stop = true
is_stop _ = false

-- a task that is in user space or in the kernel
abbrev pub is_awake : Mode → Bool
is_awake Asleep = false
is_awake _ = true

-- each task by itself.
-- Admits, at any kind but Stop, a task without a stale frame, and at Walk only one that is asleep.
-- Blames a kind not used, then the lowest stale frame, then at Walk a task that isn't asleep
abbrev pub hybrid : ModelRow
hybrid =
    record {
      uses = is_no_stop;
      keeps = is_stale;
      busy = at_walk is_awake;
      first_group = λ task. task;
      child_group = λ group child how. child;
      whole_call = true;
    }

-- each task by itself.
-- Admits, at KernelExit and IdlePoint, a task without a frame.
-- Blames a kind not used, then the lowest frame
abbrev pub leave_kernel : ModelRow
leave_kernel =
    record {
      uses = is_own_kind;
      keeps = λ aim frame. true;
      busy = λ kind mode. false;
      first_group = λ task. task;
      child_group = λ group child how. child;
      whole_call = true;
    }

-- all tasks together.
-- Admits, at Stop, a task without a stale frame.
-- Blames a kind not used, then the lowest stale frame
abbrev pub all_at_once : ModelRow
all_at_once =
    record {
      uses = is_stop;
      keeps = is_stale;
      busy = λ kind mode. false;
      first_group = λ task. 0;
      child_group = λ group child how. group;
      whole_call = true;
    }

-- each task by itself.
-- Admits everybody at any kind, and blames nobody
abbrev pub immediate : ModelRow
immediate =
    record {
      uses = λ kind. true;
      keeps = λ aim frame. false;
      busy = λ kind mode. false;
      first_group = λ task. task;
      child_group = λ group child how. child;
      whole_call = false;
    }

-- ---- Their names

-- the bytes of a model's name
abbrev pub name_of : ModelName → List ℕ
name_of called.Hybrid = codes "hybrid"
name_of called.LeaveKernel = codes "leave-kernel"
name_of called.AllAtOnce = codes "all-at-once"
name_of called.Immediate = codes "immediate"
name_of called.ProcessGroup = codes "process-group"

-- the rules of the model that a name names
abbrev pub rules_named : ModelName → Rules
rules_named called.Hybrid = rules_of hybrid
rules_named called.LeaveKernel = rules_of leave_kernel
rules_named called.AllAtOnce = rules_of all_at_once
rules_named called.Immediate = rules_of immediate
rules_named called.ProcessGroup = rules_of process_group

-- the models, in the order in which they are compared, which is that of their numbers in C
abbrev pub models : List ModelName
models = called.Hybrid ∷ called.LeaveKernel ∷ called.AllAtOnce ∷ called.Immediate ∷ called.ProcessGroup ∷ []
