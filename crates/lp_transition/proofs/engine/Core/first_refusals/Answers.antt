use Rattle.lp_transition.proofs.FirstRefusals.{among-told}
use Rattle.lp_machine.specs.Table.{state_in}
use Rattle.lp_numbers.specs.Numbers.{has}
use Rattle.lp_transition.proofs.engine.Core.first_refusals.Goals as goal

pub returns-in-Some : goal.returns-in-Some
returns-in-Some g c =
    let told = rw c.in-Some.is at c.in_ok-found.ensures in
    among-told g.M.Consistency.rules c.args.kind (state_in c.args.self.now) (has c.args.groups.now) c.in-Some.found.items told
