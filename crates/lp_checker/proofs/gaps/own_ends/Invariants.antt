use Rattle.std.proofs.Common.{◌≡◌, suc, ◌-◌, length, nat_eq, take}
use Rattle.lp_checker.specs.inside.Spans.{AreEnds}
use Rattle.lp_checker.proofs.gaps.own_ends.Given as goal

-- the ends of the lines so far
abbrev pub invariant-loop-line : goal.invariant-loop-line
invariant-loop-line l = record {
  all : length l.ends.items ≡ suc (l.fn.section.until - l.fn.section.begin);
  ends : AreEnds l.fn.number l.fn.section.begin (l.fn.section.until - l.fn.section.begin) (λ place at. nat_eq at place) (take l.line-index l.fn.lines) l.ends.items;
}
