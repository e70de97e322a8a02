use Rattle.std.proofs.Common.{◌≡◌, ◌∙◌, ◌≤◌, ◌+◌, Option, None, IfOk, IfSome, length, ap, subst, arith}
use Rattle.std.specs.Option.{option_map}
use Rattle.lp_definitions.specs.Run.{Run, leg_of}
use Rattle.lp_machine.specs.Table.{Engine}
use Rattle.lp_definitions.specs.declared.cert.Cert.{Cert}
use Rattle.lp_definitions.specs.Ends.{LegEnd, end_of}
use Rattle.lp_cert.specs.Ends.{leg_under_way, floor_in}
use Rattle.lp_cert.proofs.Floors.{current_made}
use Rattle.lp_definitions.specs.Judgement.{cert_fault}
use Rattle.livepatch.specs.Simulated.{Simulated, run_with}
use Rattle.livepatch.proofs.Accepting.{ok_some, floor_accepted}
use Rattle.lp_cert.specs.Explained.{made_in}
use Rattle.lp_cert.proofs.Explaining.{number_is}
use Rattle.livepatch.proofs.simulator.Simulator.floor.Goals as goal

pub returns-clause-value : goal.returns-clause-value
returns-clause-value g c =
    let model = g.M.Consistency.rules in
    let old = c.self.inside in
    let run : Run = run_with old.patches old.boots.items old.events.items in
    let current : old.explained.current ≡ option_map (end_of model) (leg_under_way model c.args.self.now.run) =
    current_made model run (made_in old.explained) c.self.invariant.made.of_run ∙ ap (λ (s : Simulated). option_map (end_of model) (leg_under_way model s.run)) c.self.view_is in
    subst (λ (o : Option LegEnd). IfOk c.floor.result (λ found. found ≡ floor_in o)) current c.floor.ensures

pub returns-clause-accepted : goal.returns-clause-accepted
returns-clause-accepted g c =
    let model = g.M.Consistency.rules in
    let old = c.self.inside in
    let run : Run = run_with old.patches old.boots.items old.events.items in
    let is = c.self.invariant in
    let number = number_is model run old.explained.core is.stands in
    let fits = c.events.ensures.fits in
    let told = c.events.ensures.value ∙ ap (λ (e : Engine). e.number) c.core.ensures in
    let room : (leg_of model run).number + length (leg_of model run).events ≤ 1000000 = omega (arith, number, fits, told, is.count) in
    let there : run ≡ c.args.self.now.run = ap (λ (s : Simulated). s.run) c.self.view_is in
    subst (λ (r : Run). IfOk c.floor.result (λ found. IfSome found (λ (cert : Cert). cert_fault model (leg_of model r) cert.claim cert ≡ None))) there
    (ok_some _ _ c.floor.result c.floor.ensures (floor_accepted model g.met.M.Consistency.lawful run is.stands.in_range room (made_in old.explained) is.made.of_run))
