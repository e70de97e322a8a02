use Rattle.std.proofs.Common.{◌≡◌, ℕ, ◌||◌}
use Rattle.std.specs.List.{list_any}
use Rattle.lp_numbers.specs.Numbers.{has}
use Rattle.lp_machine.specs.Table.{slot}
use Rattle.lp_tasks.specs.inside.Table.{is_in}
use Rattle.lp_tasks.specs.Passing.{passing}
use Rattle.lp_transition.proofs.engine.scan.groups_in.Given as goal

-- the groups so far, and those still to come
abbrev pub invariant-loop-number : goal.invariant-loop-number
invariant-loop-number l =
    (group : ℕ) → (has l.groups group || list_any (λ t. is_in group (slot l.tasks t)) l.number-iterator) ≡ list_any (λ t. is_in group (slot l.tasks t)) (passing 0 65536 (has l.set))
