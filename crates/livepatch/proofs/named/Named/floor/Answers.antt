use Rattle.std.proofs.Common.{◌≡◌, None, IfOk, IfSome}
use Rattle.lp_model.specs.Rules.{Rules}
use Rattle.std.specs.Option.{option_map}
use Rattle.lp_definitions.specs.Ends.{end_of}
use Rattle.lp_definitions.specs.declared.cert.Cert.{Cert}
use Rattle.lp_definitions.specs.Judgement.{cert_fault}
use Rattle.lp_definitions.specs.Run.{leg_of}
use Rattle.lp_cert.specs.Ends.{floor_in, leg_under_way}
use Rattle.livepatch.specs.Named.{NamedRun, fault_in, floor_cert}
use Rattle.livepatch.specs.Simulated.{Simulated}
use Rattle.livepatch.proofs.Naming.{by_name}
use Rattle.livepatch.proofs.named.Named.floor.Goals as goal

pub returns-clause-value : goal.returns-clause-value
unfolding floor_cert
returns-clause-value g c =
    by_name (λ (r : Rules) (s : Simulated). IfOk c.floor.result (λ found. found ≡ floor_in (option_map (end_of r) (leg_under_way r s.run)))) g.M.Consistency.rules (record { model = c.self.inside.name; simulated = c.self.inside.simulator }) c.args.self.now c.self.invariant c.self.view_is c.floor.ensures.value

pub returns-clause-accepted : goal.returns-clause-accepted
unfolding fault_in
returns-clause-accepted g c =
    by_name (λ (r : Rules) (s : Simulated). IfOk c.floor.result (λ found. IfSome found (λ (cert : Cert). cert_fault r (leg_of r s.run) cert.claim cert ≡ None))) g.M.Consistency.rules (record { model = c.self.inside.name; simulated = c.self.inside.simulator }) c.args.self.now c.self.invariant c.self.view_is c.floor.ensures.accepted
