use Rattle.std.proofs.Common.{arith}
use Rattle.lp_machine.proofs.Accept.{enable-below}
use Rattle.lp_transition.specs.inside.Invariant.{told_scan}
use Rattle.lp_transition.proofs.engine.Core.new_level.Goals as goal

pub returns-in-Enable-clause-fits : goal.returns-in-Enable-clause-fits
returns-in-Enable-clause-fits g c =
    let i = c.self.inside in
    let accepted = rw (c.in-Enable.is, ← c.self.view_is) at c.requires.accepted in
    let other = enable-below g.M.Consistency.rules (record { number = i.events; from = i.from.0; target = i.target.0; patches = i.patches; table = i.tasks; blames = i.blames; last_scan = told_scan i.unchanged }) accepted in
    let most = c.patches-most.ensures.value in
    let fits = c.self.invariant.engine.target_fits in
    rw (← c.self.view_is) (omega (arith, other, most, fits, c.min.ensures))
