-- Worked certificates: the fault of each, or none, computed from the definitions.
use Rattle.std.specs.Prelude.{◌≡◌, ℕ, List, [], ◌∷◌, Option, Some, None}
use Rattle.lp_stack.specs.declared.number.TaskId.{TaskId}
use Rattle.lp_stack.specs.declared.view.Class.{Class}
use Rattle.lp_model.specs.declared.check.ForkKind.TheVariants.{Own, Share}
use Rattle.lp_model.specs.Rules.{Rules}
use Rattle.lp_definitions.specs.declared.event.Event.{Event}
use Rattle.lp_definitions.specs.declared.event.Event.TheVariants.{Walk, Stop, Enable, Reverse}
use Rattle.lp_definitions.specs.Events.{fork}
use Rattle.lp_worked_laws.specs.Rows.{a, c, normal, call, ret, sleep, wake, enter, exit, die, patch_a}
use Rattle.lp_definitions.specs.Run.{leg_of}
use Rattle.lp_definitions.specs.declared.cert.Claim.{Claim}
use Rattle.lp_definitions.specs.declared.cert.Claim.TheVariants.{Waiting, Floor}
use Rattle.lp_definitions.specs.declared.line.Line.{Line}
use Rattle.lp_definitions.specs.declared.line.Line.TheVariants.{Hold, Busy, Born}
use Rattle.lp_definitions.specs.declared.cert_fault.CertFault.{CertFault}
use Rattle.lp_definitions.specs.declared.cert_fault.CertFault.TheVariants.{NoSuchGroup, NotOnStack, NoBlame, Gap, BadBirth, NoLeg}
use Rattle.lp_definitions.specs.Judgement.{cert_fault}

-- ---- Words of the rows

abbrev pub hold : (group task serial from to : ℕ) → Line
hold group task serial from to = Hold (record { 0 = group }) (record { 0 = task }) serial from to

abbrev pub busy : (group task at : ℕ) → Line
busy group task at = Busy (record { 0 = group }) (record { 0 = task }) at

abbrev pub born : (group parent at : ℕ) → Line
born group parent at = Born (record { 0 = group }) (record { 0 = parent }) at

-- a certificate, in the order of its first line and with the lines after it
pub record Text : Type 0 where
  pub claim : Claim
  pub leg : ℕ
  pub group : ℕ
  pub upto : ℕ
  pub lines : List Line

abbrev pub waiting : (leg group upto : ℕ) → List Line → Text
waiting leg group upto lines = record { claim = Waiting; leg = leg; group = group; upto = upto; lines = lines }

abbrev pub floor : (leg group upto : ℕ) → List Line → Text
floor leg group upto lines = record { claim = Floor; leg = leg; group = group; upto = upto; lines = lines }

-- symbols a, b and c; one patch, of function a. The fault of a certificate that is to make this claim, in the last leg
-- of these events
unfoldable pub fault_for : Rules → List (TaskId × Class) → List Event → Claim → Text → Option CertFault
fault_for model boots events claim text =
    cert_fault model (leg_of model (patch_a boots events)) claim
    (record { claim = text.claim; leg = text.leg; group = record { 0 = text.group }; upto = text.upto; lines = text.lines })

-- the fault of a certificate, taken at its word
abbrev pub says : Rules → List (TaskId × Class) → List Event → Text → Option CertFault
says model boots events text = fault_for model boots events text.claim text

-- ---- Runs

abbrev pub one : List (TaskId × Class)
one = normal 1 ∷ []

abbrev pub two : List (TaskId × Class)
two = normal 1 ∷ normal 2 ∷ []

-- a task sleeps in a changed function during a walk
abbrev pub sleeps : List Event
sleeps = enter 1 ∷ call 1 a ∷ sleep 1 ∷ Enable ∷ Walk ∷ wake 1 ∷ ret 1 ∷ exit 1 ∷ []

-- it calls the function again, and sleeps in it once more
abbrev pub sleeps_twice : List Event
sleeps_twice =
    enter 1 ∷ call 1 a ∷ sleep 1 ∷ Enable ∷ Walk ∷ wake 1 ∷ ret 1 ∷ call 1 a ∷ sleep 1 ∷ Walk ∷ []

-- it sleeps through two walks
abbrev pub sleeps_on : List Event
sleeps_on = enter 1 ∷ call 1 a ∷ sleep 1 ∷ Enable ∷ Walk ∷ Walk ∷ []

-- all CPUs are stopped while a task is in a changed function, and once more when it has left it
abbrev pub stops_twice : List Event
stops_twice = enter 2 ∷ call 2 a ∷ Enable ∷ Stop ∷ ret 2 ∷ Stop ∷ []

-- a task that waits forks, and switches; its child doesn't
abbrev pub forks : List Event
forks = enter 1 ∷ Enable ∷ Walk ∷ fork 1 2 Own ∷ exit 1 ∷ call 2 a ∷ sleep 2 ∷ Walk ∷ []

-- a transition is turned round after a task switched, which sleeps in a changed function
abbrev pub reverses : List Event
reverses = Enable ∷ enter 1 ∷ exit 1 ∷ enter 1 ∷ call 1 a ∷ sleep 1 ∷ Reverse ∷ Walk ∷ []

-- a task is on a CPU during two walks, and asleep during a third
abbrev pub is_walked : List Event
is_walked = enter 1 ∷ call 1 c ∷ Enable ∷ Walk ∷ Walk ∷ sleep 1 ∷ Walk ∷ []

-- one thread of a process sleeps in a changed function while the other leaves the kernel
abbrev pub a_thread_sleeps : List Event
a_thread_sleeps =
    enter 1 ∷ fork 1 2 Share ∷ exit 1 ∷ call 2 a ∷ sleep 2 ∷ Enable ∷ Walk ∷ enter 1 ∷ exit 1 ∷ []

-- ---- What they come to

-- under the three models that the rows speak of
pub record FaultsCompute (hybrid all_at_once process_group : Rules) : Type 0 where
  -- accepted ones
  pub sleeper : says hybrid one sleeps (floor 4 1 7 (hold 1 1 2 5 5 ∷ [])) ≡ None
  pub stopped : says all_at_once two stops_twice (floor 3 0 5 (hold 0 2 2 4 4 ∷ [])) ≡ None
  pub child : says hybrid one forks (waiting 2 2 8 (busy 1 1 3 ∷ born 2 1 4 ∷ hold 2 2 6 8 8 ∷ [])) ≡ None
  pub reversed : says hybrid two reverses (waiting 7 1 8 (hold 1 1 5 8 8 ∷ [])) ≡ None
  pub walked : says hybrid one is_walked (floor 3 1 6 (busy 1 1 4 ∷ busy 1 1 5 ∷ [])) ≡ None
  pub in_two_frames :
      says hybrid one sleeps_twice (waiting 4 1 10 (hold 1 1 2 5 5 ∷ hold 1 1 8 10 10 ∷ [])) ≡ None
  pub in_any_order :
      says hybrid one sleeps_twice (waiting 4 1 10 (hold 1 1 8 10 10 ∷ hold 1 1 2 5 5 ∷ [])) ≡ None
  pub thread : says process_group one a_thread_sleeps (waiting 6 1 9 (hold 1 2 4 7 7 ∷ [])) ≡ None
  pub sleeps_through : says hybrid one sleeps_on (waiting 4 1 6 (hold 1 1 2 5 6 ∷ [])) ≡ None
  pub at_the_opening : says hybrid one sleeps (waiting 4 1 4 []) ≡ None
  -- C1
  pub parent_claimed :
      says hybrid one forks (waiting 2 1 8 (busy 1 1 3 ∷ born 2 1 4 ∷ hold 2 2 6 8 8 ∷ [])) ≡ Some NoSuchGroup
  pub stray_line :
      says hybrid one forks (waiting 2 2 8 (busy 2 1 3 ∷ born 2 1 4 ∷ hold 2 2 6 8 8 ∷ [])) ≡ Some NoSuchGroup
  pub not_there_at_the_opening : says hybrid one forks (waiting 2 2 8 (hold 2 2 6 8 8 ∷ [])) ≡ Some NoSuchGroup
  pub dead_at_the_end :
      says hybrid one (enter 1 ∷ Enable ∷ exit 1 ∷ enter 1 ∷ die 1 ∷ []) (waiting 2 1 5 []) ≡ Some NoSuchGroup
  -- before a line that is no blame
  pub stray_and_no_blame :
      says hybrid one forks (waiting 2 2 8 (busy 2 1 8 ∷ born 2 1 4 ∷ hold 2 2 6 8 8 ∷ [])) ≡ Some NoSuchGroup
  -- C2
  pub frame_left : says hybrid one sleeps_twice (waiting 4 1 10 (hold 1 1 2 5 10 ∷ [])) ≡ Some (NotOnStack 7)
  pub frame_left_at_last : says hybrid one sleeps_twice (waiting 4 1 10 (hold 1 1 2 5 7 ∷ [])) ≡ Some (NotOnStack 7)
  -- before a later line that is no blame
  pub left_and_no_blame :
      says hybrid one sleeps_twice (waiting 4 1 10 (hold 1 1 2 5 10 ∷ busy 1 1 8 ∷ [])) ≡ Some (NotOnStack 7)
  -- C3
  pub on_no_cpu : says hybrid one sleeps (waiting 4 1 7 (busy 1 1 5 ∷ [])) ≡ Some (NoBlame 5)
  pub asleep_at_last :
      says hybrid one is_walked (waiting 3 1 7 (busy 1 1 4 ∷ busy 1 1 5 ∷ busy 1 1 7 ∷ [])) ≡ Some (NoBlame 7)
  pub turned_round : says hybrid one sleeps_on (waiting 4 1 6 (hold 1 1 2 6 5 ∷ [])) ≡ Some (NoBlame 6)
  pub at_no_check : says hybrid one sleeps_on (waiting 4 1 6 (hold 1 1 2 4 6 ∷ [])) ≡ Some (NoBlame 4)
  pub past_its_time : says hybrid one sleeps_on (waiting 4 1 5 (hold 1 1 2 5 6 ∷ [])) ≡ Some (NoBlame 5)
  pub busy_past_its_time : says hybrid one is_walked (waiting 3 1 4 (busy 1 1 4 ∷ busy 1 1 5 ∷ [])) ≡ Some (NoBlame 5)
  pub another_frame : says hybrid one sleeps_on (waiting 4 1 6 (hold 1 1 3 5 6 ∷ [])) ≡ Some (NoBlame 5)
  pub another_groups_task :
      says hybrid two (enter 1 ∷ enter 2 ∷ call 2 a ∷ sleep 2 ∷ Enable ∷ Walk ∷ []) (waiting 5 1 6 (hold 1 2 3 6 6 ∷ [])) ≡ Some (NoBlame 6)
  -- before a gap
  pub no_blame_and_gap :
      says hybrid one sleeps_twice (waiting 4 1 10 (hold 1 1 2 5 5 ∷ busy 1 1 8 ∷ [])) ≡ Some (NoBlame 8)
  -- C4
  pub first_frame_alone : says hybrid one sleeps_twice (waiting 4 1 10 (hold 1 1 2 5 5 ∷ [])) ≡ Some (Gap 10)
  pub no_line : says hybrid one sleeps_twice (waiting 4 1 10 []) ≡ Some (Gap 5)
  pub busy_once : says hybrid one is_walked (waiting 3 1 6 (busy 1 1 4 ∷ [])) ≡ Some (Gap 5)
  pub parents_check_left_out :
      says hybrid one forks (waiting 2 2 8 (born 2 1 4 ∷ hold 2 2 6 8 8 ∷ [])) ≡ Some (Gap 3)
  pub childs_check_left_out :
      says hybrid one forks (waiting 2 2 8 (busy 1 1 3 ∷ born 2 1 4 ∷ [])) ≡ Some (Gap 8)
  pub has_switched : says hybrid one sleeps (floor 4 1 8 (hold 1 1 2 5 5 ∷ [])) ≡ Some (Gap 8)
  -- C5
  pub no_fork : says hybrid one forks (waiting 2 2 8 (busy 1 1 3 ∷ born 2 1 3 ∷ [])) ≡ Some (BadBirth 3)
  pub before_the_leg : says hybrid one forks (waiting 2 2 8 (born 2 1 2 ∷ [])) ≡ Some (BadBirth 2)
  pub past_the_end : says hybrid one forks (waiting 2 2 3 (born 2 1 4 ∷ [])) ≡ Some (BadBirth 4)
  pub born_twice :
      says hybrid one forks (waiting 2 2 8 (busy 1 1 3 ∷ born 2 1 4 ∷ born 2 1 4 ∷ [])) ≡ Some (BadBirth 4)
  pub other_parent :
      says hybrid two (enter 1 ∷ Enable ∷ fork 1 3 Own ∷ []) (waiting 2 3 3 (born 3 2 3 ∷ [])) ≡ Some (BadBirth 3)
  pub parent_of_other_group :
      says hybrid one (enter 1 ∷ Enable ∷ fork 1 2 Own ∷ fork 1 3 Own ∷ []) (waiting 2 3 4 (born 2 1 3 ∷ born 3 1 4 ∷ [])) ≡ Some (BadBirth 4)
  pub thread_is_no_birth :
      says process_group one (enter 1 ∷ Enable ∷ fork 1 2 Share ∷ []) (waiting 2 2 3 (born 2 1 3 ∷ [])) ≡ Some (BadBirth 3)
  -- before another group
  pub no_fork_and_parent_claimed : says hybrid one forks (waiting 2 1 8 (born 2 1 5 ∷ [])) ≡ Some (BadBirth 5)
  -- C6
  pub wrong_leg : says hybrid one forks (waiting 3 2 8 []) ≡ Some NoLeg
  -- before no fork
  pub wrong_leg_and_no_fork : says hybrid one forks (waiting 3 2 8 (born 2 1 3 ∷ [])) ≡ Some NoLeg
  pub ends_too_late : says hybrid one forks (waiting 2 2 9 []) ≡ Some NoLeg
  pub ends_too_early : says hybrid one forks (waiting 2 2 1 []) ≡ Some NoLeg
  pub other_claim :
      fault_for hybrid one sleeps Waiting (floor 4 1 7 (hold 1 1 2 5 5 ∷ [])) ≡ Some NoLeg
