use Rattle.std.proofs.Common.{◌≡◌, ◌++◌, List, [], length, option_to_list, IfNone}
use Rattle.lp_definitions.specs.declared.line.Line.{Line}
use Rattle.lp_trace.specs.inside.KeptLines.{AreAdded, AreKept}
use Rattle.lp_trace.proofs.report.kept_lines.KeptLines.add.Given as goal

-- what is kept so far, the line at hand, and those that are left
abbrev pub invariant-loop-next : goal.invariant-loop-next
invariant-loop-next l = record {
  added : (before : List Line) → AreKept before l.fn.self.starts.items l.fn.self.text.items → AreAdded before l.fn.lines (option_to_list l.next) l.lines l.self.starts.items l.self.text.items;
  none : IfNone l.next (l.lines ≡ []);
  place : l.self.place ≡ l.fn.self.place;
}

abbrev pub decreases-loop-next : goal.decreases-loop-next
decreases-loop-next l = length (option_to_list l.next ++ l.lines)
