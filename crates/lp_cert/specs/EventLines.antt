-- How lines come with each event, from the state in which an engine is.
use Rattle.std.specs.Prelude.{ℕ, suc, Bool, true, false, ◌&&◌, List, ◌∷◌, if◌then◌else◌, nat_eq}
use Rattle.lp_stack.specs.declared.number.TaskId.{TaskId}
use Rattle.lp_model.specs.declared.check.CheckKind.{CheckKind}
use Rattle.lp_model.specs.declared.check.CheckKind.TheVariants as check
use Rattle.lp_model.specs.declared.check.ForkKind.{ForkKind}
use Rattle.lp_model.specs.Rules.{Rules}
use Rattle.lp_definitions.specs.Tasks.{on_live}
use Rattle.lp_definitions.specs.declared.event.Event.{Event}
use Rattle.lp_definitions.specs.declared.event.Event.TheVariants.{Resched, Fork}
use Rattle.lp_definitions.specs.Leg.{State, is_alone}
use Rattle.lp_machine.specs.Machine.{outlines_of}
use Rattle.lp_transition.specs.Blames.{has_frame_in, first_blamed_in}
use Rattle.lp_definitions.specs.declared.line.Line.{Line}
use Rattle.lp_definitions.specs.Certificates.{after_check, birth_line}

-- the lines of a group after a scan of a kind that the model uses, which is the next event
abbrev pub lines_after_scan : Rules → State → CheckKind → (group : ℕ) → List Line → List Line
lines_after_scan model s kind group lines =
    after_check (has_frame_in s) group (suc s.number) (first_blamed_in model s kind group) lines

-- the lines of a group after a check that a task makes of itself in the kernel, which is the next event
abbrev pub lines_after_own_check : Rules → State → TaskId → (group : ℕ) → List Line → List Line
lines_after_own_check model s t group lines =
    if model.uses check.Resched && is_alone s.bounds (outlines_of s.tasks) group t.0
    then lines_after_scan model s check.Resched group lines
    else lines

-- the event is such a check
abbrev pub is_resched : Event → Bool
is_resched (Resched t) = true
is_resched _ = false

-- a fork
abbrev pub is_fork : Event → Bool
is_fork (Fork p c how) = true
is_fork _ = false

-- the lines of a group after a fork, which is the next event
abbrev pub lines_after_fork : Rules → State → TaskId → TaskId → ForkKind → (ℕ → List Line) → (group : ℕ) → List Line
lines_after_fork model s p c how lines group =
    let parents = on_live 0 (λ x. x.group) (s.tasks p.0) in
    if nat_eq group c.0 && nat_eq group (model.child_group parents c.0 how)
    then birth_line group p (suc s.number) ∷ lines parents
    else lines group
