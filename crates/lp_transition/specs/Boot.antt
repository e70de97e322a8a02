-- Which tasks an engine can't start with.
use Rattle.std.specs.Prelude.{List, [], ◌∷◌, ◌++◌, Option, Some, None, if◌then◌else◌, nat_eq}
use Rattle.std.specs.List.{list_any}
use Rattle.lp_stack.specs.declared.number.TaskId.{TaskId}
use Rattle.lp_stack.specs.declared.view.Class.{Class}
use Rattle.lp_transition.specs.declared.engine.boot.BootFault.{BootFault}
use Rattle.lp_transition.specs.declared.engine.boot.BootFault.TheVariants.{TaskRange, TaskDoubled}

-- the fault of the first boot task whose number is 0, or is that of one before it
abbrev pub boot_fault : List (TaskId × Class) → List (TaskId × Class) → Option BootFault
boot_fault before [] = None
boot_fault before (boot ∷ boots) =
    if nat_eq boot.0.0 0 then Some TaskRange
    else if list_any (λ (other : TaskId × Class). nat_eq boot.0.0 other.0.0) before then Some TaskDoubled
    else boot_fault (before ++ boot ∷ []) boots

-- why no engine starts with these tasks; None where the list has no fault
abbrev pub boot_refusal : List (TaskId × Class) → Option BootFault
boot_refusal boots = boot_fault [] boots
