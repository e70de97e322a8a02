use Rattle.std.proofs.Common.{◌≡◌, ◌++◌, refl, rules}
use Rattle.std.specs.Prelude.{decimal}
use Rattle.lp_text.proofs.QuickLines.{of_fork}
use Rattle.lp_text.proofs.quick.fork_rest.Goals as goal

pub returns : goal.returns
returns c symbols =
    let older : c.in_ok-first.first.now ≡ decimal c.in_ok-parent.parent.0 ++ c.in_ok-parent.second.now = search rules in
    let younger : c.in_ok-third.third.now ≡ decimal c.in_ok-child.child.0 ++ c.in_ok-child.fourth.now = search rules in
    (((c.in_ok-parent.ensures.task, c.in_ok-child.ensures.task), refl), of_fork symbols c.args.text.now c.in_ok-first.first.now c.in_ok-parent.second.now c.in_ok-third.third.now c.in_ok-child.fourth.now c.in_ok-last.last.now c.in_ok-how.more.now c.in_ok-parent.parent c.in_ok-child.child c.in_ok-how.how c.in_ok-first.ensures older c.in_ok-third.ensures younger c.in_ok-last.ensures c.in_ok-how.ensures)
