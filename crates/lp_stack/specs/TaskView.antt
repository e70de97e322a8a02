-- A task as a check sees it.
use Rattle.std.specs.Prelude.{ℕ, List}
use Rattle.lp_stack.specs.declared.frame.Frame.{Frame}
use Rattle.lp_stack.specs.declared.view.Class.{Class}
use Rattle.lp_stack.specs.declared.view.Mode.{Mode}
use Rattle.lp_stack.specs.declared.view.View.{View}

-- a task as it stands: its number, its class, its mode, and its frames, the one pushed first in front
pub record TaskView : Type 0 where
  pub task : ℕ
  pub class : Class
  pub mode : Mode
  pub frames : List Frame

-- the task that a borrowed view shows
abbrev pub seen : View → TaskView
seen v = record { task = v.task.0; class = v.class; mode = v.mode; frames = v.frames.now }
