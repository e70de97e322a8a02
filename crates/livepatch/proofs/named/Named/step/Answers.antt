use Rattle.std.proofs.Common.{◌≡◌, IfOk}
use Rattle.lp_model.specs.Rules.{Rules}
use Rattle.lp_definitions.specs.Run.{leg_of, reply}
use Rattle.livepatch.specs.Named.{NamedRun, reply_in}
use Rattle.livepatch.specs.Simulated.{Simulated}
use Rattle.livepatch.proofs.Naming.{by_name}
use Rattle.livepatch.proofs.named.Named.step.Goals as goal

pub returns-clause-reply : goal.returns-clause-reply
unfolding reply_in
returns-clause-reply g c =
    by_name (λ (r : Rules) (s : Simulated). IfOk c.step.result (λ given. given ≡ reply r (leg_of r s.run) c.args.event)) g.M.Consistency.rules (record { model = c.self.inside.name; simulated = c.self.inside.simulator }) c.args.self.now c.self.invariant c.self.view_is c.step.ensures.reply
