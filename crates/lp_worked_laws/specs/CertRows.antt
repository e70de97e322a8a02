-- Worked rows: short runs, and the certificates of their legs as a report prints them.
use Rattle.std.specs.Prelude.{◌≡◌, ℕ, List, [], ◌∷◌, map, codes}
use Rattle.std.specs.List.{flat_map, join_with_byte}
use Rattle.lp_model.specs.Rules.{Rules}
use Rattle.lp_model.specs.declared.check.ForkKind.TheVariants.{Own, Share}
use Rattle.lp_definitions.specs.declared.event.Event.TheVariants.{Walk, Stop, Enable}
use Rattle.lp_definitions.specs.Events.{fork}
use Rattle.lp_definitions.specs.Run.{Run, first_leg}
use Rattle.lp_worked_laws.specs.Rows.{a, c, normal, call, ret, sleep, enter, exit, patch_a, leaves_the_kernel, sleeps_in_a_changed_function, sleeps_elsewhere, stops_twice, forks_after_it_switched, forks_while_it_waits, reverses_at_once, reverses_later, dies_while_it_waits, controls_out_of_turn, nobody_is_there, stacked, a_thread_sleeps}
use Rattle.lp_definitions.specs.Certificates.{certs_of, opened_legs}
use Rattle.lp_text.specs.CertTexts.{cert_lines}

-- ---- Runs

-- a task is on a CPU during two walks, and sleeps during the third
abbrev pub busy_twice : Run
busy_twice =
    patch_a (normal 1 ∷ [])
    (enter 1 ∷ call 1 c ∷ Enable ∷ Walk ∷ Walk ∷ sleep 1 ∷ Walk ∷ [])

-- a task sleeps in a changed function during two walks
abbrev pub sleeps_through_two_walks : Run
sleeps_through_two_walks =
    patch_a (normal 1 ∷ [])
    (enter 1 ∷ call 1 a ∷ sleep 1 ∷ Enable ∷ Walk ∷ Walk ∷ [])

-- a child that joined its parent's group is in a changed function when all CPUs are stopped
abbrev pub child_keeps_all_back : Run
child_keeps_all_back =
    patch_a (normal 1 ∷ normal 2 ∷ [])
    (Enable ∷ enter 1 ∷ fork 1 3 Own ∷ call 3 a ∷ Stop ∷ ret 3 ∷ exit 3 ∷ Stop ∷ [])

-- a task that is on a CPU forks a thread between two walks
abbrev pub forks_a_thread_between_walks : Run
forks_a_thread_between_walks =
    patch_a (normal 1 ∷ [])
    (enter 1 ∷ Enable ∷ Walk ∷ fork 1 2 Share ∷ Walk ∷ [])

-- a thread sleeps in a changed function during two walks, and the first one is in the kernel at the second
abbrev pub enters_beside_a_sleeper : Run
enters_beside_a_sleeper =
    patch_a (normal 1 ∷ [])
    (enter 1 ∷ fork 1 2 Share ∷ exit 1 ∷ call 2 a ∷ sleep 2 ∷ Enable ∷ Walk ∷ enter 1 ∷ Walk ∷ [])

-- ---- Their certificates

-- the lines of the certificates of a run's legs
abbrev pub printed : Rules → Run → List (List ℕ)
printed model run =
    let certs = flat_map (certs_of model) (opened_legs model (first_leg model run) run.events) in
    map (join_with_byte 32) (flat_map cert_lines certs)

-- under the five models that the rows speak of
pub record CertificatesCompute (hybrid leave_kernel all_at_once immediate process_group : Rules) : Type 0 where
  -- nothing was refused before it switched
  pub no_check_before :
      printed hybrid leaves_the_kernel
      ≡ codes "floor 3 1 4" ∷ []
  -- its stack kept it back at the walk
  pub sleeper_is_held :
      printed hybrid sleeps_in_a_changed_function
      ≡ codes "floor 4 1 7" ∷ codes "hold 1 1 2 5 5" ∷ []
  -- a walk is no check of a model that doesn't use it
  pub no_line_at_an_unused_check :
      printed leave_kernel sleeps_in_a_changed_function
      ≡ codes "floor 4 1 7" ∷ []
  pub switches_at_the_first_walk :
      printed hybrid sleeps_elsewhere
      ≡ codes "floor 4 1 4" ∷ []
  pub waits_unchecked :
      printed leave_kernel sleeps_elsewhere
      ≡ codes "waiting 4 1 5" ∷ []
  -- one member's frame holds the group of all
  pub one_stack_holds_all :
      printed all_at_once stops_twice
      ≡ codes "floor 3 0 5" ∷ codes "hold 0 2 2 4 4" ∷ []
  pub child_switched_with_its_parent :
      printed hybrid forks_after_it_switched
      ≡ codes "waiting 1 2 6" ∷ []
  -- a child's certificate begins with its parent's
  pub child_has_its_parents_reasons :
      printed hybrid forks_while_it_waits
      ≡ codes "waiting 2 2 8" ∷ codes "busy 1 1 3" ∷ codes "born 2 1 4" ∷ codes "hold 2 2 6 8 8" ∷ []
  -- a leg that is turned round ends before the reversal, and one that is complete at once has no certificate
  pub reversal_ends_a_leg :
      printed hybrid reverses_at_once
      ≡ codes "waiting 1 1 1" ∷ []
  pub each_leg_has_its_own :
      printed hybrid reverses_later
      ≡ codes "waiting 1 2 6" ∷ codes "waiting 7 1 8" ∷ codes "hold 1 1 5 8 8" ∷ []
  pub death_has_a_floor :
      printed hybrid dies_while_it_waits
      ≡ codes "floor 3 1 4" ∷ []
  pub immediate_has_a_floor :
      printed immediate sleeps_elsewhere
      ≡ codes "floor 4 1 4" ∷ []
  -- each walk that finds it on a CPU has a line
  pub busy_at_each_walk :
      printed hybrid busy_twice
      ≡ codes "floor 3 1 6" ∷ codes "busy 1 1 4" ∷ codes "busy 1 1 5" ∷ []
  -- one line holds as long as its frame is there
  pub hold_goes_on :
      printed hybrid sleeps_through_two_walks
      ≡ codes "waiting 4 1 6" ∷ codes "hold 1 1 2 5 6" ∷ []
  -- a child that joins its parent's group adds no line
  pub joining_adds_no_line :
      printed all_at_once child_keeps_all_back
      ≡ codes "floor 1 0 7" ∷ codes "hold 0 3 4 5 5" ∷ []
  pub one_thread_holds_its_process :
      printed process_group a_thread_sleeps
      ≡ codes "waiting 6 1 9" ∷ codes "hold 1 2 4 7 7" ∷ []
  -- a hold goes on while its frame is there, also where a member of lesser number isn't admitted either
  pub hold_goes_on_beside_others :
      printed process_group enters_beside_a_sleeper
      ≡ codes "waiting 6 1 9" ∷ codes "hold 1 2 4 7 9" ∷ []
  -- a thread is born into a group of its own where the model says so
  pub thread_of_its_own_group :
      printed hybrid forks_a_thread_between_walks
      ≡ codes "waiting 2 1 5" ∷ codes "busy 1 1 3" ∷ codes "busy 1 1 5"
      ∷ codes "waiting 2 2 5" ∷ codes "busy 1 1 3" ∷ codes "born 2 1 4" ∷ codes "busy 2 2 5" ∷ []
  -- refused events count
  pub refused_events_count :
      printed hybrid controls_out_of_turn
      ≡ codes "waiting 3 1 5" ∷ codes "busy 1 1 5" ∷ []
  pub nobody_has_no_certificate :
      printed hybrid nobody_is_there ≡ []
  -- one floor for each level that was reached, and a frame is in the way of the last
  pub stacked_levels :
      printed hybrid stacked
      ≡ codes "floor 1 1 2" ∷ codes "floor 7 1 7" ∷ codes "floor 9 1 9"
      ∷ codes "waiting 11 1 12" ∷ codes "hold 1 1 5 12 12" ∷ []
