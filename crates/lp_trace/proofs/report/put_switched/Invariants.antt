use Rattle.std.proofs.Common.{◌++◌, ◌∷◌, drop, codes, decimal}
use Rattle.std.specs.List.{flat_map}
use Rattle.lp_definitions.specs.Events.{group_numbers}
use Rattle.lp_text.specs.inside.Writing.{Left, seen_of}
use Rattle.lp_trace.proofs.report.put_switched.Given as goal

abbrev pub invariant-loop-group : goal.invariant-loop-group
invariant-loop-group g l =
    Left (seen_of g.W.Write.contents l.fn.writer) (seen_of g.W.Write.contents l.writer) (l.fn.page.held.items ++ (l.fn.event ++ (codes " over" ++ (flat_map (λ group. 32 ∷ decimal group) (group_numbers l.fn.groups) ++ l.fn.end)))) (l.page.held.items ++ (flat_map (λ group. 32 ∷ decimal group) (group_numbers (drop l.group-index l.fn.groups)) ++ l.fn.end))
