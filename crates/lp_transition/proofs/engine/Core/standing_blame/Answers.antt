use Rattle.std.proofs.Common.{subst}
use Rattle.lp_transition.specs.Blames.{is_open}
use Rattle.lp_transition.specs.Scan.{MayLeaveOut}
use Rattle.lp_machine.specs.Table.{Engine, state_in}
use Rattle.lp_transition.specs.inside.Invariant.{told_scan}
use Rattle.lp_transition.proofs.Blames.{blamed_out}
use Rattle.lp_transition.proofs.engine.Core.standing_blame.Goals as goal

pub returns-clause-refused : goal.returns-clause-refused
returns-clause-refused g c = λ kind.
    let i = c.self.inside in
    let e : Engine = record { number = i.events; from = i.from.0; target = i.target.0; patches = i.patches; table = i.tasks; blames = i.blames; last_scan = told_scan i.unchanged } in
    subst (λ (o : Engine). MayLeaveOut g.M.Consistency.rules kind (state_in o) (is_open o)) c.self.view_is (blamed_out g.M.Consistency.rules g.met.M.Consistency.lawful e kind c.self.invariant.engine.sound c.self.invariant.blamed)
