use Rattle.std.proofs.Common.{◌≡◌, ◌∙◌, Option, is_some, ap}
use Rattle.std.specs.Option.{option_map}
use Rattle.lp_definitions.specs.Run.{Run}
use Rattle.lp_definitions.specs.Ends.{LegEnd, end_of}
use Rattle.lp_cert.specs.Ends.{leg_under_way, waiting_in}
use Rattle.lp_cert.specs.Explained.{made_in}
use Rattle.lp_cert.proofs.Floors.{current_made}
use Rattle.livepatch.specs.Simulated.{Simulated, run_with}
use Rattle.livepatch.proofs.simulator.Simulator.is_waiting.Goals as goal

pub returns : goal.returns
returns g c =
    let model = g.M.Consistency.rules in
    let old = c.self.inside in
    let run : Run = run_with old.patches old.boots.items old.events.items in
    let current : old.explained.current ≡ option_map (end_of model) (leg_under_way model c.args.self.now.run) =
    current_made model run (made_in old.explained) c.self.invariant.made.of_run ∙ ap (λ (s : Simulated). option_map (end_of model) (leg_under_way model s.run)) c.self.view_is in
    c.is_waiting.ensures ∙ ap (λ (o : Option LegEnd). is_some (waiting_in o c.args.group.0)) current
