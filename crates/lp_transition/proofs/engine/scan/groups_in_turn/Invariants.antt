use Rattle.std.proofs.Common.{take}
use Rattle.lp_definitions.specs.Events.{group_numbers}
use Rattle.lp_transition.proofs.RisingGroups.{AreInTurn}
use Rattle.lp_transition.proofs.engine.scan.groups_in_turn.Given as goal

-- the groups that switch by the verdicts so far
abbrev pub invariant-loop-verdict : goal.invariant-loop-verdict
invariant-loop-verdict l = AreInTurn l.tasks (take l.verdict-index l.verdicts) l.from (group_numbers l.groups.items)
