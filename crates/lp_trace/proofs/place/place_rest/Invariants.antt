use Rattle.std.proofs.Common.{◌≡◌, ◌≤◌, ◌+◌, ◌*◌, ◌++◌, decimal, drop, length, map, take}
use Rattle.lp_text.specs.inside.Writing.{line_rest}
use Rattle.lp_trace.proofs.place.place_rest.Given as goal

abbrev pub invariant-loop-number : goal.invariant-loop-number
invariant-loop-number l =
    (length l.text ≡ length l.fn.text)
    × (l.end ≤ l.at + 21 * l.number-index)
    × (take l.end l.text ++ line_rest (map decimal (drop l.number-index l.numbers)) ≡ take l.at l.fn.text ++ line_rest (map decimal l.numbers))
