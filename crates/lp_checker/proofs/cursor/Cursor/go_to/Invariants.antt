use Rattle.std.proofs.Common.{◌≡◌}
use Rattle.lp_checker.proofs.cursor.Cursor.go_to.Given as goal

-- it stands at the place, in the same leg
abbrev pub invariant-loop-place : goal.invariant-loop-place
invariant-loop-place g l = record {
  range : l.self.range ≡ l.fn.self.range;
  moment : l.self.moment ≡ l._place;
}
