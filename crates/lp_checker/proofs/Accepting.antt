-- What an accepted event finds.
use Rattle.std.proofs.Common.{◌≡◌, ◌<◌, true, false, [], length, Some, None}
use Rattle.lp_symbols.specs.declared.sym_id.SymId.{SymId}
use Rattle.lp_stack.specs.declared.number.TaskId.{TaskId}
use Rattle.lp_patch.specs.Patches.{Patches}
use Rattle.lp_model.specs.declared.check.ForkKind.{ForkKind}
use Rattle.lp_model.specs.Rules.{Rules}
use Rattle.lp_definitions.specs.declared.event.Event.{Event}
use Rattle.lp_definitions.specs.declared.event.Event.TheVariants.{Call, Fork, Die}
use Rattle.lp_definitions.specs.Tasks.{first_of, tests}
use Rattle.lp_definitions.specs.Leg.{LegTask}
use Rattle.lp_machine.specs.Machine.{outlines_of, refusal_of}
use Rattle.lp_machine.specs.Table.{Engine, Table, slot, leg_tasks, state_in, bounds_of, no_scan}
use Rattle.lp_machine.proofs.Accept.{IsLive, call-room, fork-live, fork-new, fork-positive, die-live}

-- what an event finds is the same under every model: one that admits everybody stands for them
abbrev any_model : Rules
any_model =
    record {
      uses = λ kind. true;
      admits = λ kind view aim. true;
      blame = λ kind view aim. None;
      first_group = λ task. task;
      child_group = λ group child how. child;
      whole_call = false;
    }

module _ (patches : Patches) (table : Table) where
  abbrev Accepts : Event → Type 0
  Accepts event = first_of (tests (bounds_of patches) (outlines_of (leg_tasks table)) event) ≡ None

  -- an engine with these tasks, of any model
  abbrev pub engine : Engine
  engine = record { number = 0; from = 0; target = 0; patches = patches; table = table; blames = []; last_scan = no_scan }

  call_too : (t : TaskId) (f : SymId) → Accepts (Call t f) → refusal_of any_model (state_in engine) (Call t f) ≡ None
  unfolding refusal_of
  call_too t f h = h

  fork_too : (p c : TaskId) (how : ForkKind) → Accepts (Fork p c how) → refusal_of any_model (state_in engine) (Fork p c how) ≡ None
  unfolding refusal_of
  fork_too p c how h = h

  die_too : (t : TaskId) → Accepts (Die t) → refusal_of any_model (state_in engine) (Die t) ≡ None
  unfolding refusal_of
  die_too t h = h

  pub room : (t : TaskId) (f : SymId) (x : LegTask) → Accepts (Call t f) → slot table t.0 ≡ Some x → length x.frames < 100
  room t f x h there = call-room any_model engine t f x (call_too t f h) there

  pub parent_lives : (p c : TaskId) (how : ForkKind) → Accepts (Fork p c how) → IsLive engine p.0
  parent_lives p c how h = fork-live any_model engine p c how (fork_too p c how h)

  pub child_is_new : (p c : TaskId) (how : ForkKind) → Accepts (Fork p c how) → slot table c.0 ≡ None
  child_is_new p c how h = (fork-new any_model engine p c how (fork_too p c how h)).0

  pub child_is_positive : (p c : TaskId) (how : ForkKind) → Accepts (Fork p c how) → 0 < c.0
  child_is_positive p c how h = fork-positive any_model engine p c how (fork_too p c how h)

  pub who_dies_lives : (t : TaskId) → Accepts (Die t) → IsLive engine t.0
  who_dies_lives t h = die-live any_model engine t (die_too t h)
