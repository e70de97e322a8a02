use Rattle.std.proofs.Common.{◌≡◌, ℕ, ◌<◌, true, false, nat_eq, map, ◌++◌}
use Rattle.std.specs.List.{filter_map, list_any}
use Rattle.std.specs.Option.{option_map}
use Rattle.lp_patch.specs.Aimed.{aimed}
use Rattle.lp_numbers.specs.Numbers.{has}
use Rattle.lp_machine.specs.Machine.{view_of}
use Rattle.lp_tasks.specs.Passing.{passing}
use Rattle.lp_transition.specs.Scan.{verdict_of}
use Rattle.lp_transition.specs.inside.ScanSteps.{waiting_slot, IsOwnGroup}
use Rattle.lp_transition.proofs.engine.open_scan.own_found.Given as goal

-- the groups that aren't still to come are own, and the verdicts are those so far, before those still to come
abbrev pub invariant-loop-number : goal.invariant-loop-number
invariant-loop-number g l =
    ((group : ℕ) → group < 65536 → has l.groups group ≡ true → list_any (nat_eq group) l.number-iterator ≡ false → IsOwnGroup l.tasks group)
    × (l.found.items ++ map (verdict_of g.M.Consistency.rules l.kind (aimed l.aim)) (filter_map (λ t. option_map (view_of t) (waiting_slot l.tasks l.waiting t)) l.number-iterator)
    ≡ map (verdict_of g.M.Consistency.rules l.kind (aimed l.aim)) (filter_map (λ t. option_map (view_of t) (waiting_slot l.tasks l.waiting t)) (passing 0 65536 (has l.groups))))
