-- What becomes of the tasks, whoever switches: no schedule is used here, and no level. So the tasks' modes, stacks, births and
-- deaths are the same under every schedule; only the versions that run differ.
use Rattle.std.specs.Prelude.{ℕ, pred, Bool, true, false, not, ◌||◌, List, [], ◌∷◌, ◌++◌, length, take, Option, Some, None, if◌then◌else◌, nat_eq, nat_le, nat_lt}
use Rattle.lp_stack.specs.declared.view.Mode.{Mode}
use Rattle.lp_stack.specs.declared.view.Mode.TheVariants.{User, Kernel, Asleep}
use Rattle.lp_stack.specs.declared.view.Class.{Class}
use Rattle.lp_stack.specs.declared.view.Class.TheVariants.{Normal, Idle}
use Rattle.lp_model.specs.declared.check.ForkKind.{ForkKind}
use Rattle.lp_stack.specs.declared.frame.Frame.{Frame}
use Rattle.lp_definitions.specs.declared.event.Event.{Event}
use Rattle.lp_definitions.specs.declared.event.Event.TheVariants.{Call, Ret, Sleep, Wake, Enter, Exit, Idle, Resched, Fork, Die, Walk, Stop, Enable, Disable, Reverse}
use Rattle.lp_definitions.specs.declared.refusal.Refusal.{Refusal}
use Rattle.lp_definitions.specs.declared.refusal.Refusal.TheVariants.{UnknownTask, UnknownSymbol, TaskRange, TaskUsed, WrongClass, WrongMode, StackFull, StackEmpty, StackNotEmpty}
use Rattle.lp_symbols.specs.declared.sym_id.SymId.{SymId}

-- where a task comes from: it stood at the opening of the transition on a level, or was forked by a parent of some group
-- and origin, just after the first `place` events. A child's level is its parent's at the fork (Linux livepatch: the child
-- inherits the patched state of the parent), so the origin is all that its level depends on but for its own group
pub data Origin : Type 0 where
  Stood : (level : ℕ) → Origin
  Forked : (group : ℕ) → (parent : Origin) → (place : ℕ) → Origin

-- a call on a stack: one that stood there at the opening, or one made just after the first `place` events
pub data Pushed : Type 0 where
  Kept : (frame : Frame) → Pushed
  Made : (func : SymId) → (place : ℕ) → Pushed

-- a live task, as far as no schedule is needed. The calls stand in their order, the one made first in front
pub record Life : Type 0 where
  pub class : Class
  pub mode : Mode
  pub group : ℕ
  pub origin : Origin
  pub calls : List Pushed

-- what became of a task number. Each is used once: a dead task's number stays dead
pub data Fate (A : Type 0) : Type 0 where
  Unused : Fate A
  Live : (life : A) → Fate A
  Dead : Fate A

-- each task number's fate
abbrev pub Tasks : Type 0
Tasks = ℕ → Fate Life

-- what f says of a live task, or else
abbrev pub on_live : {A B : Type 0} → B → (A → B) → Fate A → B
on_live other f Unused = other
on_live other f (Live life) = f life
on_live other f Dead = other

-- a live task changed; one that isn't live stays as it is
abbrev pub map_live : {A B : Type 0} → (A → B) → Fate A → Fate B
map_live f Unused = Unused
map_live f (Live life) = Live (f life)
map_live f Dead = Dead

-- no task had the number yet
abbrev pub is_unused : {A : Type 0} → Fate A → Bool
is_unused Unused = true
is_unused (Live life) = false
is_unused Dead = false

-- ---- Refusals

-- each event has tests in an order, and is refused for the first that fits

-- equality of modes and of classes
abbrev pub same_mode : Mode → Mode → Bool
same_mode User User = true
same_mode Kernel Kernel = true
same_mode Asleep Asleep = true
same_mode _ _ = false

abbrev pub same_class : Class → Class → Bool
same_class Normal Normal = true
same_class Idle Idle = true
same_class _ _ = false

-- the refusal, where its test fits
abbrev pub fits : {A : Type 0} → Bool → A → Option A
fits true refusal = Some refusal
fits false refusal = None

-- the first refusal that fits
abbrev pub first_of : {A : Type 0} → List (Option A) → Option A
first_of [] = None
first_of (None ∷ tests) = first_of tests
first_of (Some refusal ∷ tests) = Some refusal

-- a live task as refusals and checks see it
pub record Outline : Type 0 where
  pub class : Class
  pub mode : Mode
  pub group : ℕ
  pub depth : ℕ

-- the outline of each task number
abbrev pub Outlines : Type 0
Outlines = ℕ → Fate Outline

-- a life without its calls, and the same of all tasks
abbrev pub outline : Life → Outline
outline x = record { class = x.class; mode = x.mode; group = x.group; depth = length x.calls }

abbrev pub outlines : Tasks → Outlines
outlines now t = map_live outline (now t)

-- the bounds of a run: its symbols are numbered below `symbols`, its tasks from 1 to `tasks` (65,535 in an engine)
pub record Bounds : Type 0 where
  pub symbols : ℕ
  pub tasks : ℕ

-- E1: the task isn't live
abbrev pub unknown_task : Outlines → ℕ → Option Refusal
unknown_task now t = fits (not (on_live false (λ x. true) (now t))) UnknownTask

-- E2: there is no such function
abbrev pub unknown_symbol : Bounds → ℕ → Option Refusal
unknown_symbol bounds f = fits (nat_le bounds.symbols f) UnknownSymbol

-- E3: no task can have this number
abbrev pub out_of_range : Bounds → ℕ → Option Refusal
out_of_range bounds t = fits (nat_eq t 0 || nat_lt bounds.tasks t) TaskRange

-- E4: a task has or had this number
abbrev pub used : Outlines → ℕ → Option Refusal
used now t = fits (not (is_unused (now t))) TaskUsed

-- E5: the task is of the other class
abbrev pub not_of : Class → Outlines → ℕ → Option Refusal
not_of class now t = fits (not (on_live false (λ x. same_class x.class class) (now t))) WrongClass

-- E6: the task isn't in this mode
abbrev pub not_in : Mode → Outlines → ℕ → Option Refusal
not_in mode now t = fits (not (on_live false (λ x. same_mode x.mode mode) (now t))) WrongMode

-- how many frames a task has
abbrev pub depth : Outlines → ℕ → ℕ
depth now t = on_live 0 (λ x. x.depth) (now t)

-- E7: there are 100 frames
abbrev pub stack_full : Outlines → ℕ → Option Refusal
stack_full now t = fits (nat_le 100 (depth now t)) StackFull

-- E8: there is no frame
abbrev pub stack_empty : Outlines → ℕ → Option Refusal
stack_empty now t = fits (nat_eq (depth now t) 0) StackEmpty

-- E9: there are frames
abbrev pub stack_not_empty : Outlines → ℕ → Option Refusal
stack_not_empty now t = fits (not (nat_eq (depth now t) 0)) StackNotEmpty

-- the tests of a task's event, in their order. Scans have none, and those of control events depend on the transition
abbrev pub tests : Bounds → Outlines → Event → List (Option Refusal)
tests bounds now (Call t f) = unknown_task now t.0 ∷ unknown_symbol bounds f.0 ∷ not_in Kernel now t.0 ∷ stack_full now t.0 ∷ []
tests bounds now (Ret t) = unknown_task now t.0 ∷ not_in Kernel now t.0 ∷ stack_empty now t.0 ∷ []
tests bounds now (Sleep t) = unknown_task now t.0 ∷ not_in Kernel now t.0 ∷ []
tests bounds now (Wake t) = unknown_task now t.0 ∷ not_in Asleep now t.0 ∷ []
tests bounds now (Enter t) = unknown_task now t.0 ∷ not_of Normal now t.0 ∷ not_in User now t.0 ∷ []
tests bounds now (Exit t) = unknown_task now t.0 ∷ not_of Normal now t.0 ∷ not_in Kernel now t.0 ∷ stack_not_empty now t.0 ∷ []
tests bounds now (Idle t) = unknown_task now t.0 ∷ not_of Idle now t.0 ∷ not_in Kernel now t.0 ∷ stack_not_empty now t.0 ∷ []
tests bounds now (Resched t) = unknown_task now t.0 ∷ not_of Normal now t.0 ∷ not_in Kernel now t.0 ∷ []
tests bounds now (Fork p c how) =
    unknown_task now p.0 ∷ out_of_range bounds c.0 ∷ used now c.0 ∷ not_of Normal now p.0 ∷ not_in Kernel now p.0 ∷ []
tests bounds now (Die t) = unknown_task now t.0 ∷ not_of Normal now t.0 ∷ not_in Kernel now t.0 ∷ stack_not_empty now t.0 ∷ []
tests bounds now Walk = []
tests bounds now Stop = []
tests bounds now Enable = []
tests bounds now Disable = []
tests bounds now Reverse = []

-- why a task's event is refused; None where it is accepted
unfoldable pub refusal : Bounds → Tasks → Event → Option Refusal
refusal bounds now event = first_of (tests bounds (outlines now) event)

-- ---- Effects

-- one task is changed
abbrev pub change : {A : Type 0} → ℕ → (A → A) → (ℕ → Fate A) → ℕ → Fate A
change t f now x = if nat_eq x t then map_live f (now x) else now x

-- a life whose task sleeps, wakes up or enters the kernel; that calls; that returns
abbrev pub in_mode : Mode → Life → Life
in_mode mode life = record life { mode = mode }

abbrev pub push : Pushed → Life → Life
push call life = record life { calls = life.calls ++ call ∷ [] }

abbrev pub pop : Life → Life
pop life = record life { calls = take (pred (length life.calls)) life.calls }

-- how a model groups children: by the parent's group, the child's number and the kind of fork
abbrev pub Grouping : Type 0
Grouping = ℕ → ℕ → ForkKind → ℕ

-- a child: in the kernel, with an empty stack
abbrev pub child : Grouping → ℕ → ℕ → ForkKind → Life → Life
child grouping place c how parent =
    record {
      class = Normal;
      mode = Kernel;
      group = grouping parent.group c how;
      origin = Forked parent.group parent.origin place;
      calls = [];
    }

-- what an accepted event does to the tasks, just after the first `place` events of the leg
unfoldable pub effect : Grouping → ℕ → Event → Tasks → Tasks
effect grouping place (Call t f) now = change t.0 (push (Made f place)) now
effect grouping place (Ret t) now = change t.0 pop now
effect grouping place (Sleep t) now = change t.0 (in_mode Asleep) now
effect grouping place (Wake t) now = change t.0 (in_mode Kernel) now
effect grouping place (Enter t) now = change t.0 (in_mode Kernel) now
effect grouping place (Exit t) now = change t.0 (in_mode User) now
effect grouping place (Idle t) now = now
effect grouping place (Resched t) now = now
effect grouping place (Fork p c how) now =
    λ x. if nat_eq x c.0 then map_live (child grouping place c.0 how) (now p.0) else now x
effect grouping place (Die t) now = λ x. if nat_eq x t.0 then Dead else now x
effect grouping place Walk now = now
effect grouping place Stop now = now
effect grouping place Enable now = now
effect grouping place Disable now = now
effect grouping place Reverse now = now
