use Rattle.std.proofs.Common.{◌≡◌, ℕ, ◌||◌}
use Rattle.std.specs.List.{list_any}
use Rattle.lp_numbers.specs.Numbers.{has}
use Rattle.lp_machine.specs.Table.{slot}
use Rattle.lp_tasks.specs.inside.Table.{is_in}
use Rattle.lp_tasks.specs.Passing.{passing}
use Rattle.lp_transition.proofs.engine.open_scan.members_of.Given as goal

-- the members so far, and those still to come
abbrev pub invariant-loop-group : goal.invariant-loop-group
invariant-loop-group l =
    (task : ℕ) → (has l.members task || list_any (λ group. is_in group (slot l.tasks task)) l.group-iterator) ≡ list_any (λ group. is_in group (slot l.tasks task)) (passing 0 65536 (has l.groups))
