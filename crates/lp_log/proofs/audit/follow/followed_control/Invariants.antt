use Rattle.std.proofs.Common.{take}
use Rattle.lp_log.specs.Audits.{control_part}
use Rattle.lp_log.specs.inside.Cursors.{Follows}
use Rattle.lp_log.proofs.audit.follow.followed_control.Given as goal

-- the cursor follows the part so far
abbrev pub invariant-loop-entry : goal.invariant-loop-entry
invariant-loop-entry l = Follows l.control (control_part (take l.entry-index l.entries)) l.cursor
