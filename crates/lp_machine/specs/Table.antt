-- What the engine keeps of the tasks: lists over their numbers, in place of a function.
use Rattle.std.specs.Prelude.{◌≡◌, ℕ, Bool, true, false, List, [], length, Option, Some, None, slice_index_or}
use Rattle.lp_numbers.specs.Numbers.{Numbers, has}
use Rattle.lp_patch.specs.Patches.{Patches, symbols_of}
use Rattle.lp_model.specs.declared.check.CheckKind.{CheckKind}
use Rattle.lp_definitions.specs.Tasks.{Fate, Unused, Live, Dead, Bounds}
use Rattle.lp_definitions.specs.Run.{task_numbers}
use Rattle.lp_definitions.specs.Leg.{LegTask, State}
use Rattle.lp_machine.specs.declared.standing_blame.StandingBlame.{StandingBlame}

-- ---- The tasks

-- for each number, the live task, and whether the number was ever used
pub record Table : Type 0 where
  pub slots : List (Option LegTask)
  pub used : Numbers

-- the live task of a number
abbrev pub slot : Table → ℕ → Option LegTask
slot table t = slice_index_or table.slots t None

-- the fate of a number by its slot and by whether it was used
abbrev pub fate_at : Option LegTask → Bool → Fate LegTask
fate_at (Some x) used = Live x
fate_at None true = Dead
fate_at None false = Unused

-- the fate of each task number
abbrev pub leg_tasks : Table → ℕ → Fate LegTask
leg_tasks table t = fate_at (slot table t) (has table.used t)

-- a table over all numbers
pub record IsWide (table : Table) : Type 0 where
  pub slots : length table.slots ≡ 65536
  pub used : length table.used ≡ 65536

-- ---- The engine

-- the kind of the leg's last scan that the model uses, if one is to be gone by, and the groups to which something happened since
pub record LastScan : Type 0 where
  pub kind : Option CheckKind
  pub changed : Numbers

-- nothing is known of a scan
abbrev pub no_scan : LastScan
no_scan = record { kind = None; changed = [] }

-- what the engine keeps: the number of events so far, the levels from which and to which it goes, the patches, the tasks,
-- for each group the frame by which it is known to be refused, if there is one, and what is known of the last scan
pub record Engine : Type 0 where
  pub number : ℕ
  pub from : ℕ
  pub target : ℕ
  pub patches : Patches
  pub table : Table
  pub blames : List (Option StandingBlame)
  pub last_scan : LastScan

-- the bounds of these patches
abbrev pub bounds_of : Patches → Bounds
bounds_of patches = task_numbers (symbols_of patches)

-- the state in which an engine is
abbrev pub state_in : Engine → State
state_in e =
    record {
      number = e.number;
      bounds = bounds_of e.patches;
      from = e.from;
      aim = record { patches = e.patches; target = e.target };
      tasks = leg_tasks e.table;
    }
