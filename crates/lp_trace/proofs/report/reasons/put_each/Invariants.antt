use Rattle.std.proofs.Common.{◌≡◌, ◌++◌, [], length, option_to_list, IfNone}
use Rattle.lp_text.specs.inside.Writing.{Left, seen_of}
use Rattle.lp_trace.specs.inside.KeptLines.{text_of}
use Rattle.lp_trace.proofs.report.reasons.put_each.Given as goal

abbrev pub invariant-loop-next : goal.invariant-loop-next
invariant-loop-next g l =
    Left (seen_of g.W.Write.contents l.fn.writer) (seen_of g.W.Write.contents l.writer) (l.fn.page.held.items ++ text_of (option_to_list l.fn.first ++ l.fn.reasons)) (l.page.held.items ++ text_of (option_to_list l.next ++ l.reasons))
    × IfNone l.next (l.reasons ≡ [])

abbrev pub decreases-loop-next : goal.decreases-loop-next
decreases-loop-next g l = length (option_to_list l.next ++ l.reasons)
