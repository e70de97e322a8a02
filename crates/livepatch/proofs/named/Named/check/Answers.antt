use Rattle.std.proofs.Common.{◌≡◌, ◌⊎◌, None, Some, IfOk, MatchResult}
use Rattle.lp_model.specs.Rules.{Rules}
use Rattle.lp_definitions.specs.declared.cert_fault.CertFault.{CertFault}
use Rattle.lp_definitions.specs.declared.cert_fault.CertFault.TheVariants.{NoMemory}
use Rattle.lp_definitions.specs.Holds.{Holds}
use Rattle.lp_definitions.specs.Judgement.{cert_fault}
use Rattle.lp_definitions.specs.Run.{leg_of}
use Rattle.livepatch.specs.Named.{NamedRun, HoldsIn, fault_in}
use Rattle.livepatch.specs.Simulated.{Simulated}
use Rattle.livepatch.proofs.Naming.{by_name}
use Rattle.livepatch.proofs.named.Named.check.Goals as goal

pub returns-clause-answer : goal.returns-clause-answer
unfolding fault_in
returns-clause-answer g c =
    by_name (λ (r : Rules) (s : Simulated). MatchResult c.check.result (λ _. cert_fault r (leg_of r s.run) c.args.cert.now.claim c.args.cert.now ≡ None) (λ (fault : CertFault). fault ≡ NoMemory ⊎ cert_fault r (leg_of r s.run) c.args.cert.now.claim c.args.cert.now ≡ Some fault)) g.M.Consistency.rules (record { model = c.self.inside.name; simulated = c.self.inside.simulator }) c.args.self.now c.self.invariant c.self.view_is c.check.ensures.answer

pub returns-clause-sound : goal.returns-clause-sound
unfolding HoldsIn
returns-clause-sound g c =
    by_name (λ (r : Rules) (s : Simulated). IfOk c.check.result (λ _. Holds r (leg_of r s.run) c.args.cert.now)) g.M.Consistency.rules (record { model = c.self.inside.name; simulated = c.self.inside.simulator }) c.args.self.now c.self.invariant c.self.view_is c.check.ensures.sound
