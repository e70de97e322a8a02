use Rattle.lp_text.proofs.BuildRows.{parts_compute}
use Rattle.lp_text.proofs.laws.worked_parts.Goals as goal

pub returns : goal.returns
returns c = parts_compute
