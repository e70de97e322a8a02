use Rattle.std.proofs.Common.{rules}
use Rattle.lp_cert.proofs.maker.Maker.into_ends.Goals as goal

pub returns : goal.returns
returns c = search rules
