use Rattle.std.proofs.Common.{◌≡◌, drop}
use Rattle.lp_definitions.specs.Judgement.{births, last_group}
use Rattle.lp_checker.proofs.groups.last_group.Given as goal

-- the group so far leads on to the last one
abbrev pub invariant-loop-line : goal.invariant-loop-line
invariant-loop-line l = last_group l.fn.first.0 (births l.fn.lines) ≡ last_group l.group.0 (births (drop l.line-index l.fn.lines))
