use Rattle.std.proofs.Common.{List, take}
use Rattle.lp_log.specs.Entries.{Entry}
use Rattle.lp_log.specs.inside.Cursors.{AllFollow, IsLeastDifference}
use Rattle.lp_log.proofs.audit.differences.least_difference.Given as goal

-- the least difference of the seats so far
abbrev pub invariant-loop-place : goal.invariant-loop-place
invariant-loop-place l = (entries : List Entry) → AllFollow entries l.seats l.cursors → IsLeastDifference entries (take l.place l.seats) l.least
