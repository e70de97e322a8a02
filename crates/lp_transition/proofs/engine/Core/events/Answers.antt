use Rattle.std.proofs.Common.{arith, subst}
use Rattle.std.proofs.lemmas.Grind.{common_steps}
use Rattle.lp_machine.specs.Table.{Engine}
use Rattle.lp_transition.specs.Blames.{AreOfWaiting}
use Rattle.lp_transition.proofs.Blames.{blamed_waits}
use Rattle.lp_transition.specs.inside.Invariant.{told_scan}
use Rattle.lp_transition.proofs.engine.Core.events.Goals as goal

pub returns-clause-sound : goal.returns-clause-sound
returns-clause-sound c = grind (arith, common_steps)

pub returns-clause-blamed : goal.returns-clause-blamed
returns-clause-blamed g c =
    let i = c.self.inside in
    let e : Engine = record { number = i.events; from = i.from.0; target = i.target.0; patches = i.patches; table = i.tasks; blames = i.blames; last_scan = told_scan i.unchanged } in
    subst AreOfWaiting c.self.view_is (blamed_waits g.M.Consistency.rules e c.self.invariant.engine.sound c.self.invariant.blamed)
