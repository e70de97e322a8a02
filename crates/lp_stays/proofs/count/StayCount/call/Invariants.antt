use Rattle.std.proofs.Common.{◌≡◌, ◌-◌, ◌≤◌, length}
use Rattle.lp_stays.specs.inside.Calls.{calls, one_more}
use Rattle.lp_stays.proofs.count.StayCount.call.Given as goal

-- the lowest patches are done
abbrev pub invariant-loop-below : goal.invariant-loop-below
invariant-loop-below l = record {
  kept : l.self ≡ calls l.from l.task.0 l.fn.func.0 l.level.0 (one_more l.fn.self);
  within : l.from ≤ length l.fn.self.patches;
  few : l.from ≤ 16;
}

abbrev pub decreases-loop-below : goal.decreases-loop-below
decreases-loop-below l = 16 - l.from
