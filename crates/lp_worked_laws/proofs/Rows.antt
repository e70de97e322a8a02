-- The worked rows compute at the models as they are built.
use Rattle.std.proofs.Common.{refl}
use Rattle.lp_patch.specs.Patches.{version}
use Rattle.lp_definitions.specs.Tasks.{refusal, effect}
use Rattle.lp_definitions.specs.Leg.{tasks_after, each_live, some_live, check}
use Rattle.lp_definitions.specs.Schedule.{level_by, waits, allowed, complete, first_checks}
use Rattle.lp_definitions.specs.Stays.{moments, stays, all_stays}
use Rattle.lp_definitions.specs.Run.{is_complete_now, refused_by, shown, next_leg, reply, replies, leg_after}
use Rattle.lp_machine.specs.Machine.{switches_at, switched_groups, refusal_of, next, answer, answers}
use Rattle.lp_model.specs.Row.{rules_of}
use Rattle.lp_models.specs.Models.{hybrid, leave_kernel, all_at_once, immediate}
use Rattle.lp_process.specs.Models.{process_group}
use Rattle.lp_worked_laws.specs.Rows.{RowsCompute}

pub rows_compute : RowsCompute (rules_of hybrid) (rules_of leave_kernel) (rules_of all_at_once) (rules_of immediate) (rules_of process_group)
unfolding version refusal effect tasks_after each_live some_live check level_by waits allowed complete first_checks is_complete_now refused_by shown next_leg reply replies leg_after moments stays all_stays switches_at switched_groups refusal_of next answer answers
rows_compute =
    record {
      leaving_switches = record { by_definition = refl; by_machine = refl; stays_there = refl; mixed_there = refl };
      sleeper_blocks_until_it_returns = record { by_definition = refl; by_machine = refl; stays_there = refl; mixed_there = refl };
      sleeper_blocks_without_walks = record { by_definition = refl; by_machine = refl; stays_there = refl; mixed_there = refl };
      sleeper_elsewhere_switches = record { by_definition = refl; by_machine = refl; stays_there = refl; mixed_there = refl };
      sleeper_elsewhere_waits_without_walks = record { by_definition = refl; by_machine = refl; stays_there = refl; mixed_there = refl };
      one_stack_blocks_all = record { by_definition = refl; by_machine = refl; stays_there = refl; mixed_there = refl };
      child_inherits_the_new_level = record { by_definition = refl; by_machine = refl; stays_there = refl; mixed_there = refl };
      child_inherits_the_old_level = record { by_definition = refl; by_machine = refl; stays_there = refl; mixed_there = refl };
      reversal_completes_at_once = record { by_definition = refl; by_machine = refl; stays_there = refl; mixed_there = refl };
      reversal_waits_for_who_switched = record { by_definition = refl; by_machine = refl; stays_there = refl; mixed_there = refl };
      death_completes = record { by_definition = refl; by_machine = refl; stays_there = refl; mixed_there = refl };
      idle_point_switches = record { by_definition = refl; by_machine = refl; stays_there = refl; mixed_there = refl };
      idle_point_needs_an_empty_stack = record { by_definition = refl; by_machine = refl; stays_there = refl; mixed_there = refl };
      immediate_mixes = record { by_definition = refl; by_machine = refl; stays_there = refl; mixed_there = refl };
      control_refusals = record { by_definition = refl; by_machine = refl; stays_there = refl; mixed_there = refl };
      nobody_completes = record { by_definition = refl; by_machine = refl; stays_there = refl; mixed_there = refl };
      version_counts_and_not_level = record { by_definition = refl; by_machine = refl; stays_there = refl; mixed_there = refl };
      one_thread_blocks_its_process = record { by_definition = refl; by_machine = refl; stays_there = refl; mixed_there = refl };
      exit_of_one_thread_is_no_check = record { by_definition = refl; by_machine = refl; stays_there = refl; mixed_there = refl };
      frame_of_a_call = refl;
      frame_of_an_earlier_call = refl;
    }
