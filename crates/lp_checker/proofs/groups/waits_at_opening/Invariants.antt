use Rattle.std.proofs.Common.{◌≡◌, ℕ, ◌<◌, false}
use Rattle.lp_machine.specs.Table.{slot}
use Rattle.lp_checker.specs.inside.Sections.{is_waiting_member}
use Rattle.lp_checker.proofs.groups.waits_at_opening.Given as goal

-- none so far
abbrev pub invariant-loop-number : goal.invariant-loop-number
invariant-loop-number g l = (t : ℕ) → t < l.number → is_waiting_member l.fn.cursor.range.opening.target l.fn.group.0 (slot l.fn.cursor.range.opening.table t) ≡ false
