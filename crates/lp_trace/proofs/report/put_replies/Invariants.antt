use Rattle.std.proofs.Common.{◌≡◌, ◌≤◌, ◌++◌, ◌+◌, drop}
use Rattle.std.specs.List.{flat_map}
use Rattle.lp_text.specs.Words.{line_of}
use Rattle.lp_replay.specs.Replies.{replies_of}
use Rattle.lp_trace.specs.Report.{reply_lines}
use Rattle.lp_text.specs.inside.Writing.{Left, seen_of}
use Rattle.lp_trace.proofs.report.put_replies.Given as goal

abbrev pub invariant-loop-i : goal.invariant-loop-i
invariant-loop-i g l =
    (l.next ≤ l.i)
    × (l.event ≡ l.i)
    × Left (seen_of g.W.Write.contents l.fn.writer) (seen_of g.W.Write.contents l.writer) (l.fn.page.held.items ++ flat_map line_of (reply_lines l.fn.form 1 (replies_of l.fn.replies l.fn.lists))) (l.page.held.items ++ flat_map line_of (reply_lines l.fn.form (l.i + 1) (replies_of (drop l.i l.fn.replies) (drop l.next l.fn.lists))))
