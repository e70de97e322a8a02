use Rattle.lp_text.proofs.Rows.{texts_compute}
use Rattle.lp_text.proofs.laws.worked_texts.Goals as goal

pub returns : goal.returns
returns c = texts_compute
