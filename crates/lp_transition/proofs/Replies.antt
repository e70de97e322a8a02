-- The reply of what was weighed.
use Rattle.std.proofs.Common.{◌≡◌, ap, ◌∙◌}
use Rattle.lp_model.specs.Rules.{Rules, IsLawful}
use Rattle.lp_definitions.specs.declared.event.Event.{Event}
use Rattle.lp_machine.specs.Machine.{answer}
use Rattle.lp_machine.specs.Steps.{IsReply}
use Rattle.lp_machine.specs.Table.{Engine, state_in}
use Rattle.lp_machine_laws.proofs.Runs.{is_reply}
use Rattle.lp_transition.specs.Weigh.{Weighed, IsWeighed}

-- it is the definitions'
pub weighed_reply : (model : Rules) → IsLawful model → (e : Engine) (step : Weighed) (event : Event) → IsWeighed model e step → step.event ≡ event → IsReply model (state_in e) event step.reply
weighed_reply model lawful e step event weighed is = is_reply model lawful (state_in e) event step.reply (weighed.reply ∙ ap (answer model (state_in e)) is)
