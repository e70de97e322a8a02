use Rattle.std.proofs.Common.{◌≡◌, drop}
use Rattle.lp_definitions.specs.Judgement.{births}
use Rattle.lp_checker.proofs.groups.first_group.Given as goal

-- no birth so far
abbrev pub invariant-loop-line : goal.invariant-loop-line
invariant-loop-line g l = record {
  range : l.cursor.range ≡ l.fn.cursor.range;
  rest : births l.fn.lines ≡ births (drop l.line-index l.fn.lines);
}
