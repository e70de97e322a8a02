use Rattle.std.proofs.Common.{sym, arith}
use Rattle.lp_checker.proofs.AtOpening.{waits_by, waits_not}
use Rattle.lp_checker.proofs.groups.waits_at_opening.Goals as goal

pub returns-then-was_waiting : goal.returns-then-was_waiting
returns-then-was_waiting g c = sym (waits_by g.M.Consistency.rules c.args.cursor.now.range.opening c.args.cursor.now.range.events c.number.ensures.opening c.args.group.0 c.loop-number.number (sym c.if-was_waiting.ensures))

pub returns : goal.returns
returns g c = sym (waits_not g.M.Consistency.rules c.args.cursor.now.range.opening c.args.cursor.now.range.events c.number.ensures.opening c.args.group.0 (λ t lt. c.loop-number.invariant t (omega (arith, lt))))
