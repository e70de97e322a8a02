-- What the run of a trace comes to: the replies, how each leg ended, and the stays.
use Rattle.std.specs.Prelude.{ℕ, List, [], length, map, ◌==◌}
use Rattle.std.specs.List.{range_with_len, list_any}
use Rattle.lp_symbols.specs.declared.sym_id.SymId.{SymId}
use Rattle.lp_patch.specs.Patches.{Patch}
use Rattle.lp_model.specs.Rules.{Rules}
use Rattle.lp_definitions.specs.Run.{Run, first_leg, replies, task_numbers}
use Rattle.lp_definitions.specs.Stays.{stay_count, mixed_count}
use Rattle.lp_definitions.specs.Outcome.{Outcome, leg_ends}
use Rattle.lp_text.specs.Traces.{TraceValue}

-- ---- The run

-- which of so many symbols a patch of these functions has
abbrev pub patch_of : ℕ → List SymId → Patch
patch_of symbols functions = map (λ func. list_any (λ id. id.0 == func) functions) (range_with_len 0 symbols)

-- the start of the run that a trace tells: its patches and its boot tasks, and no event yet
abbrev pub run_of : TraceValue → Run
run_of trace =
    record {
      bounds = task_numbers (length trace.symbols);
      patches = map (patch_of (length trace.symbols)) trace.patches;
      boots = trace.boots;
      events = [];
    }

-- the whole run that a trace tells
abbrev pub whole_run : TraceValue → Run
whole_run trace = record (run_of trace) { events = trace.events }

module _ (model : Rules) where
  -- what the run of a trace comes to
  unfoldable pub outcome : TraceValue → Outcome
  outcome trace =
      let leg = first_leg model (run_of trace) in
      record {
        replies = replies model leg trace.events;
        legs = leg_ends model leg trace.events;
        stays = stay_count model leg trace.events;
        mixed = mixed_count model leg trace.events;
      }
