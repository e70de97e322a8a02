-- A consistency model as a row of a table, which says both whom it admits and whom it blames.
use Rattle.std.specs.Prelude.{ℕ, Bool, true, false, not, ◌&&◌, Option, Some, None, if◌then◌else◌, find}
use Rattle.std.specs.List.{list_any}
use Rattle.std.specs.Option.{option_map, option_or}
use Rattle.lp_stack.specs.declared.frame.Frame.{Frame}
use Rattle.lp_stack.specs.declared.view.Mode.{Mode}
use Rattle.lp_stack.specs.TaskView.{TaskView}
use Rattle.lp_patch.specs.Patches.{Aim}
use Rattle.lp_model.specs.declared.check.CheckKind.{CheckKind}
use Rattle.lp_model.specs.declared.check.CheckKind.TheVariants.{Walk, Stop}
use Rattle.lp_model.specs.declared.check.ForkKind.{ForkKind}
use Rattle.lp_model.specs.declared.check.Blame.{Blame}
use Rattle.lp_model.specs.declared.check.Blame.TheVariants.{Unused, Frame as Held, Busy}
use Rattle.lp_model.specs.Rules.{Rules}

-- a model's row
pub record ModelRow : Type 0 where
  -- the kinds of checks that it uses
  pub uses : CheckKind → Bool
  -- the frames that keep their task back
  pub keeps : Aim → Frame → Bool
  -- the modes that keep a task back, at a kind of check
  pub busy : CheckKind → Mode → Bool
  -- the group of a task that is there from the start, and of a child
  pub first_group : ℕ → ℕ
  pub child_group : ℕ → ℕ → ForkKind → ℕ
  -- whether no task switches with a stale frame
  pub whole_call : Bool

-- whom the model admits: at a kind that it uses, a task that no frame and no mode keeps back
abbrev pub admits_of : ModelRow → CheckKind → TaskView → Aim → Bool
admits_of table kind view aim =
    table.uses kind && not (list_any (table.keeps aim) view.frames) && not (table.busy kind view.mode)

-- the serial of the lowest frame that passes a test: of these the one pushed first
abbrev pub lowest : (Frame → Bool) → TaskView → Option ℕ
lowest test view = option_map (λ frame. frame.serial) (find test view.frames)

-- whom the model blames: a kind that it doesn't use, else the lowest frame that keeps the task back, else its mode
abbrev pub blame_of : ModelRow → CheckKind → TaskView → Aim → Option Blame
blame_of table kind view aim =
    if not (table.uses kind) then Some Unused
    else option_or (option_map Held (lowest (table.keeps aim) view)) (if table.busy kind view.mode then Some Busy else None)

-- the model that the row gives
abbrev pub rules_of : ModelRow → Rules
rules_of table =
    record {
      uses = table.uses;
      admits = admits_of table;
      blame = blame_of table;
      first_group = table.first_group;
      child_group = table.child_group;
      whole_call = table.whole_call;
    }

-- ---- What rows are made of

-- all kinds but `Stop`
abbrev pub is_no_stop : CheckKind → Bool
is_no_stop Stop = false
is_no_stop _ = true

-- these modes keep a task back at a walk; at no other check a mode does
abbrev pub at_walk : (Mode → Bool) → CheckKind → Mode → Bool
at_walk keeps Walk mode = keeps mode
at_walk keeps _ mode = false
