-- Worked parts: what the definition makes of short lists of parts.
use Rattle.std.specs.Prelude.{◌≡◌, ℕ, List, [], ◌∷◌, Ok, Err, codes, replicate}
use Rattle.lp_symbols.specs.declared.sym_id.SymId.{SymId}
use Rattle.lp_stack.specs.declared.number.TaskId.{TaskId}
use Rattle.lp_stack.specs.declared.view.Class.{Class}
use Rattle.lp_stack.specs.declared.view.Class.TheVariants as class
use Rattle.lp_model.specs.declared.check.ForkKind.TheVariants.{Own}
use Rattle.lp_definitions.specs.declared.event.Event.{Event}
use Rattle.lp_definitions.specs.declared.event.Event.TheVariants.{Call, Ret, Fork, Enable}
use Rattle.lp_text.specs.declared.form.TraceForm.TheVariants.{Single, Stacked}
use Rattle.lp_text.specs.Traces.{TraceValue}
use Rattle.lp_text.specs.Build.{of_parts, spelling}
use Rattle.lp_text.specs.Rows.{task, func, one_patch, two_patches}

-- the first part without a spelling is the one at this place
abbrev pub StopsAt : TraceValue → ℕ → Type 0
StopsAt parts place = spelling parts ≡ Err place

-- parts beside the symbols a, b and c, in the first text and in the second
abbrev pub single : List SymId → List (TaskId × Class) → List Event → TraceValue
single patch boots events = of_parts Single (codes "a" ∷ codes "b" ∷ codes "c" ∷ []) (patch ∷ []) boots events

abbrev pub stacked : List (List SymId) → List (TaskId × Class) → TraceValue
stacked patches boots = of_parts Stacked (codes "a" ∷ codes "b" ∷ codes "c" ∷ []) patches boots []

abbrev pub normal : ℕ → TaskId × Class
normal number = (task number, class.Normal)

pub record PartsCompute : Type 0 where
  pub one_patch_made : spelling one_patch ≡ Ok one_patch
  pub two_patches_made : spelling two_patches ≡ Ok two_patches
  pub no_function : StopsAt (single [] (normal 1 ∷ []) []) 4
  pub unknown_function : StopsAt (single (func 0 ∷ func 3 ∷ []) [] []) 5
  pub doubled_function : StopsAt (single (func 0 ∷ func 1 ∷ func 0 ∷ []) [] []) 6
  pub boot_task_zero : StopsAt (single (func 0 ∷ []) (normal 1 ∷ normal 0 ∷ []) []) 6
  pub doubled_boot_task : StopsAt (single (func 0 ∷ []) (normal 1 ∷ normal 2 ∷ normal 1 ∷ []) []) 7
  pub event_of_task_zero : StopsAt (single (func 0 ∷ []) [] (Enable ∷ Ret (task 0) ∷ Enable ∷ [])) 6
  pub fork_of_task_zero : StopsAt (single (func 0 ∷ []) [] (Fork (task 1) (task 0) Own ∷ [])) 5
  pub call_of_no_symbol : StopsAt (single (func 0 ∷ []) [] (Call (task 1) (func 3) ∷ [])) 5
  pub no_patch : StopsAt (stacked [] (normal 1 ∷ [])) 4
  pub first_patch_empty : StopsAt (stacked ([] ∷ (func 0 ∷ []) ∷ []) []) 4
  pub last_patch_empty : StopsAt (stacked ((func 0 ∷ func 1 ∷ []) ∷ [] ∷ []) (normal 1 ∷ [])) 6
  pub seventeenth_patch : StopsAt (stacked (replicate 17 (func 0 ∷ [])) []) 20
