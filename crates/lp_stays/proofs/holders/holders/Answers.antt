use Rattle.lp_stays.proofs.Holding.{first-none}
use Rattle.lp_stays.proofs.holders.holders.Goals as goal

pub loop-below-init : goal.loop-below-init
loop-below-init c = first-none c.args.patches.now c.args.func.0
