use Rattle.std.proofs.Common.{◌≡◌, map, ◌++◌}
use Rattle.std.specs.List.{filter_map}
use Rattle.std.specs.Option.{option_map}
use Rattle.lp_patch.specs.Aimed.{aimed}
use Rattle.lp_numbers.specs.Numbers.{has}
use Rattle.lp_machine.specs.Machine.{view_of}
use Rattle.lp_tasks.specs.Passing.{passing}
use Rattle.lp_transition.specs.Scan.{verdict_of}
use Rattle.lp_transition.specs.inside.ScanSteps.{waiting_slot}
use Rattle.lp_transition.proofs.engine.scan.found_in.Given as goal

-- the verdicts so far, and those still to come
abbrev pub invariant-loop-number : goal.invariant-loop-number
invariant-loop-number g l =
    l.found.items ++ map (verdict_of g.M.Consistency.rules l.kind (aimed l.aim)) (filter_map (λ t. option_map (view_of t) (waiting_slot l.tasks l.waiting t)) l.number-iterator)
    ≡ map (verdict_of g.M.Consistency.rules l.kind (aimed l.aim)) (filter_map (λ t. option_map (view_of t) (waiting_slot l.tasks l.waiting t)) (passing 0 65536 (has l.set)))
