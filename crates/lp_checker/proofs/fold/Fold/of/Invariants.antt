use Rattle.lp_tasks.specs.Openings.{IsOpening}
use Rattle.lp_machine.specs.Table.{leg_tasks}
use Rattle.lp_checker.proofs.OpeningTasks.{IsPutBelow}
use Rattle.lp_checker.proofs.fold.Fold.of.Given as goal

-- the numbers so far are as in the opening
abbrev pub invariant-loop-number : goal.invariant-loop-number
invariant-loop-number l = record {
  opening : IsOpening l.fn.opening;
  below : IsPutBelow l.number (leg_tasks l.tasks) (leg_tasks l.fn.opening.table);
}
