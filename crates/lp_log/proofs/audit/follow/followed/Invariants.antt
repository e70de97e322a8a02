use Rattle.std.proofs.Common.{take}
use Rattle.lp_log.specs.inside.Cursors.{AllFollow}
use Rattle.lp_log.proofs.audit.follow.followed.Given as goal

-- each cursor follows the part so far
abbrev pub invariant-loop-entry : goal.invariant-loop-entry
invariant-loop-entry l = AllFollow (take l.entry-index l.entries) l.seats l.cursors.items
