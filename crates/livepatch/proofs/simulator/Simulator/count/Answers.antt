use Rattle.std.proofs.Common.{◌∙◌, length, ap}
use Rattle.lp_definitions.specs.Run.{Run}
use Rattle.lp_machine.specs.Table.{Engine}
use Rattle.lp_cert.proofs.Explaining.{number_is}
use Rattle.livepatch.specs.Simulated.{Simulated, run_with}
use Rattle.livepatch.proofs.simulator.Simulator.count.Goals as goal

pub returns-clause-value : goal.returns-clause-value
returns-clause-value g c =
    let old = c.self.inside in
    let run : Run = run_with old.patches old.boots.items old.events.items in
    c.events.ensures.value
    ∙ (ap (λ (e : Engine). e.number) c.core.ensures
    ∙ (number_is g.M.Consistency.rules run old.explained.core c.self.invariant.stands ∙ ap (λ (s : Simulated). length s.run.events) c.self.view_is))
