use Rattle.std.proofs.Common.{◌≡◌, ◌≤◌, ◌+◌, ◌*◌, ◌++◌, ◌∷◌, decimal, drop, length, take}
use Rattle.std.specs.List.{flat_map}
use Rattle.lp_definitions.specs.Events.{group_numbers}
use Rattle.lp_trace.proofs.place.place_groups.Given as goal

abbrev pub invariant-loop-group : goal.invariant-loop-group
invariant-loop-group l =
    (length l.text ≡ length l.fn.text)
    × (l.end ≤ l.at + 6 * l.group-index)
    × (take l.end l.text ++ flat_map (λ group. 32 ∷ decimal group) (group_numbers (drop l.group-index l.groups)) ≡ take l.at l.fn.text ++ flat_map (λ group. 32 ∷ decimal group) (group_numbers l.groups))
