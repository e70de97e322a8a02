use Rattle.lp_text.proofs.Lanes.{first_marked}
use Rattle.lp_text.proofs.split.first_place.Goals as goal

pub returns : goal.returns
returns c = first_marked c.args.byte c.args.text.now c.if-text-lt32.false c.if-marks-eq0.false
