-- A run under a model that is named, and what the definitions say of it.
use Rattle.std.specs.Prelude.{ℕ, Option}
use Rattle.std.specs.Option.{option_map}
use Rattle.lp_model.specs.Rules.{Rules}
use Rattle.lp_definitions.specs.declared.cert.Cert.{Cert}
use Rattle.lp_definitions.specs.declared.cert_fault.CertFault.{CertFault}
use Rattle.lp_definitions.specs.declared.event.Event.{Event}
use Rattle.lp_definitions.specs.declared.reply.Reply.{Reply}
use Rattle.lp_definitions.specs.Ends.{end_of}
use Rattle.lp_definitions.specs.Holds.{Holds}
use Rattle.lp_definitions.specs.Judgement.{cert_fault}
use Rattle.lp_definitions.specs.Run.{leg_of, reply}
use Rattle.lp_cert.specs.Ends.{floor_in, leg_under_way, waiting_in}
use Rattle.lp_models.specs.declared.name.ModelName.{ModelName}
use Rattle.lp_models.specs.Models.{rules_named}
use Rattle.livepatch.specs.Simulated.{Simulated}

-- the model's name, and the run under it
pub record NamedRun : Type 0 where
  pub model : ModelName
  pub simulated : Simulated

-- the reply to an event that comes now
unfoldable pub reply_in : NamedRun → Event → Reply
reply_in named event = let rules = rules_named named.model in reply rules (leg_of rules named.simulated.run) event

-- the certificate that a group waits in the leg under way, if it does
unfoldable pub waiting_cert : NamedRun → (group : ℕ) → Option Cert
waiting_cert named group = let rules = rules_named named.model in waiting_in (option_map (end_of rules) (leg_under_way rules named.simulated.run)) group

-- the certificate that the leg under way isn't complete, if it isn't
unfoldable pub floor_cert : NamedRun → Option Cert
floor_cert named = let rules = rules_named named.model in floor_in (option_map (end_of rules) (leg_under_way rules named.simulated.run))

-- the fault of a certificate for its claim, by the leg that the run is in
unfoldable pub fault_in : NamedRun → Cert → Option CertFault
fault_in named cert = let rules = rules_named named.model in cert_fault rules (leg_of rules named.simulated.run) cert.claim cert

-- what a certificate claims holds of that leg
unfoldable pub HoldsIn : NamedRun → Cert → Type 0
HoldsIn named cert = let rules = rules_named named.model in Holds rules (leg_of rules named.simulated.run) cert
