use Rattle.lp_checker.proofs.Stepping.{opened}
use Rattle.lp_checker.proofs.cursor.opened.Goals as goal

pub returns : goal.returns
returns g c =
    let made = c.in_ok-fold.ensures in
    let at = opened g.M.Consistency.rules g.met.M.Consistency.lawful c.args.opening.now c.args.events.now c.in_ok-fold.fold c.number.ensures.opening made.number made.target made.patches made.tasks in
    rw c.in_ok-boxed.ensures.ok at
