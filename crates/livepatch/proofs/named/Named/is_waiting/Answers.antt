use Rattle.std.proofs.Common.{◌≡◌, is_some}
use Rattle.lp_model.specs.Rules.{Rules}
use Rattle.std.specs.Option.{option_map}
use Rattle.lp_definitions.specs.Ends.{end_of}
use Rattle.lp_cert.specs.Ends.{leg_under_way, waiting_in}
use Rattle.livepatch.specs.Named.{NamedRun, waiting_cert}
use Rattle.livepatch.specs.Simulated.{Simulated}
use Rattle.livepatch.proofs.Naming.{by_name}
use Rattle.livepatch.proofs.named.Named.is_waiting.Goals as goal

pub returns : goal.returns
unfolding waiting_cert
returns g c =
    by_name (λ (r : Rules) (s : Simulated). c.is_waiting.result ≡ is_some (waiting_in (option_map (end_of r) (leg_under_way r s.run)) c.args.group.0)) g.M.Consistency.rules (record { model = c.self.inside.name; simulated = c.self.inside.simulator }) c.args.self.now c.self.invariant c.self.view_is c.is_waiting.ensures
