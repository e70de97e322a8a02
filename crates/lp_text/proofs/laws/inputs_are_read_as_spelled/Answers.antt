use Rattle.std.proofs.Common.{ap, ◌∙◌}
use Rattle.lp_text.specs.CheckReading.{check_reading}
use Rattle.lp_text.proofs.InputsSound.{sound_input}
use Rattle.lp_text.proofs.InputsComplete.{complete_input}
use Rattle.lp_text.proofs.laws.inputs_are_read_as_spelled.Goals as goal

pub returns : goal.returns
returns c = λ text input. (λ h. sound_input text input h, λ h. ap check_reading h.1 ∙ complete_input input h.0)
