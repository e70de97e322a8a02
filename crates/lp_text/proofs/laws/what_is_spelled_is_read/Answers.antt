use Rattle.std.proofs.Common.{ap, ◌∙◌}
use Rattle.lp_text.specs.Reading.{reading}
use Rattle.lp_text.proofs.Sound.{sound}
use Rattle.lp_text.proofs.Complete.{complete}
use Rattle.lp_text.proofs.laws.what_is_spelled_is_read.Goals as goal

pub returns : goal.returns
returns c = λ text trace. (λ h. sound text trace h, λ h. ap reading h.1 ∙ complete trace h.0)
