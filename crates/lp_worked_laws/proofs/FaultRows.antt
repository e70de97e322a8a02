-- The worked certificates compute.
use Rattle.std.proofs.Common.{refl}
use Rattle.lp_patch.specs.Patches.{version}
use Rattle.lp_model.specs.Row.{rules_of}
use Rattle.lp_models.specs.Models.{hybrid, all_at_once}
use Rattle.lp_process.specs.Models.{process_group}
use Rattle.lp_definitions.specs.Tasks.{refusal, effect}
use Rattle.lp_definitions.specs.Leg.{tasks_after, each_live, some_live, check}
use Rattle.lp_definitions.specs.Schedule.{level_by, waits, allowed, complete, first_checks}
use Rattle.lp_definitions.specs.Run.{is_complete_now, refused_by, shown, next_leg, leg_after}
use Rattle.lp_definitions.specs.Judgement.{first_bad, cert_fault}
use Rattle.lp_worked_laws.specs.FaultRows.{fault_for, FaultsCompute}

pub faults_compute : FaultsCompute (rules_of hybrid) (rules_of all_at_once) (rules_of process_group)
unfolding version refusal effect tasks_after each_live some_live check level_by waits allowed complete first_checks is_complete_now refused_by shown next_leg leg_after first_bad cert_fault fault_for
faults_compute =
    record {
      sleeper = refl;
      stopped = refl;
      child = refl;
      reversed = refl;
      walked = refl;
      in_two_frames = refl;
      in_any_order = refl;
      thread = refl;
      sleeps_through = refl;
      at_the_opening = refl;
      parent_claimed = refl;
      stray_line = refl;
      not_there_at_the_opening = refl;
      dead_at_the_end = refl;
      stray_and_no_blame = refl;
      frame_left = refl;
      frame_left_at_last = refl;
      left_and_no_blame = refl;
      on_no_cpu = refl;
      asleep_at_last = refl;
      turned_round = refl;
      at_no_check = refl;
      past_its_time = refl;
      busy_past_its_time = refl;
      another_frame = refl;
      another_groups_task = refl;
      no_blame_and_gap = refl;
      first_frame_alone = refl;
      no_line = refl;
      busy_once = refl;
      parents_check_left_out = refl;
      childs_check_left_out = refl;
      has_switched = refl;
      no_fork = refl;
      before_the_leg = refl;
      past_the_end = refl;
      born_twice = refl;
      other_parent = refl;
      parent_of_other_group = refl;
      thread_is_no_birth = refl;
      no_fork_and_parent_claimed = refl;
      wrong_leg = refl;
      wrong_leg_and_no_fork = refl;
      ends_too_late = refl;
      ends_too_early = refl;
      other_claim = refl;
    }
