use Rattle.lp_stays.proofs.Stepping.{unmoved}
use Rattle.lp_stays.proofs.laws.other_events_keep_counts.Goals as goal

pub returns : goal.returns
returns c = unmoved
