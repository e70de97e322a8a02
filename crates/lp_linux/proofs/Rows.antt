-- The worked rows compute.
use Rattle.std.proofs.Common.{◌≡◌, [], ◌∷◌, refl}
use Rattle.lp_definitions.specs.Leg.{each_live}
use Rattle.lp_linux.specs.Events.{refusal, step}
use Rattle.lp_linux.specs.Reading.{heard}
use Rattle.lp_linux.specs.Rows.{at_boot, shown_after, waits, patched, waits_back, late, LinuxComputes}
use Rattle.lp_linux.specs.Transition.{Release, Linux_6_1, Linux_6_12}

-- either release turns it so
late_turns : (release : Release) → shown_after release at_boot late ≡ (1, waits ∷ waits ∷ []) ∷ (1, waits ∷ waits ∷ []) ∷ (1, patched ∷ waits ∷ []) ∷ (1, patched ∷ waits ∷ []) ∷ (1, patched ∷ patched ∷ []) ∷ (1, patched ∷ patched ∷ []) ∷ (1, waits_back ∷ waits_back ∷ []) ∷ []
unfolding each_live refusal step heard
late_turns Linux_6_1 = refl
late_turns Linux_6_12 = refl

pub linux_computes : LinuxComputes
unfolding each_live refusal step heard
linux_computes =
    record {
      leaving_switches = refl;
      late_turns = late_turns;
      late_is_heard = refl;
      stuck_waits = refl;
      busy_comes_first = refl;
      own_checks_switch = refl;
      no_own_checks = refl;
    }
