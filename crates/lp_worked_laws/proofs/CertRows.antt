-- The worked certificates compute.
use Rattle.std.proofs.Common.{refl}
use Rattle.std.specs.Fmt.{digits}
use Rattle.lp_patch.specs.Patches.{version}
use Rattle.lp_definitions.specs.Tasks.{refusal, effect}
use Rattle.lp_definitions.specs.Leg.{tasks_after, each_live, some_live, check}
use Rattle.lp_definitions.specs.Schedule.{level_by, waits, allowed, complete, first_checks}
use Rattle.lp_definitions.specs.Run.{is_complete_now, refused_by, shown, next_leg}
use Rattle.lp_model.specs.Row.{rules_of}
use Rattle.lp_models.specs.Models.{hybrid, leave_kernel, all_at_once, immediate}
use Rattle.lp_process.specs.Models.{process_group}
use Rattle.lp_definitions.specs.Certificates.{lines, completion, legs}
use Rattle.lp_worked_laws.specs.CertRows.{CertificatesCompute}

pub certificates_compute :
    CertificatesCompute (rules_of hybrid) (rules_of leave_kernel) (rules_of all_at_once) (rules_of immediate) (rules_of process_group)
unfolding digits version refusal effect tasks_after each_live some_live check level_by waits allowed complete first_checks is_complete_now refused_by shown next_leg lines completion legs
certificates_compute =
    record {
      no_check_before = refl;
      sleeper_is_held = refl;
      no_line_at_an_unused_check = refl;
      switches_at_the_first_walk = refl;
      waits_unchecked = refl;
      one_stack_holds_all = refl;
      child_switched_with_its_parent = refl;
      child_has_its_parents_reasons = refl;
      reversal_ends_a_leg = refl;
      each_leg_has_its_own = refl;
      death_has_a_floor = refl;
      immediate_has_a_floor = refl;
      busy_at_each_walk = refl;
      hold_goes_on = refl;
      joining_adds_no_line = refl;
      one_thread_holds_its_process = refl;
      hold_goes_on_beside_others = refl;
      thread_of_its_own_group = refl;
      refused_events_count = refl;
      nobody_has_no_certificate = refl;
      stacked_levels = refl;
    }
