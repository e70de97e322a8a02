use Rattle.std.proofs.Common.{rules}
use Rattle.lp_parts.proofs.Moves.{takes_up_named}
use Rattle.lp_parts.proofs.keeper.take_up.Goals as goal

pub load_as-requires : goal.load_as-requires
load_as-requires g c = (search rules, (search rules, (c.requires.cell, takes_up_named g.P.Keying.key _ _ c.args.key g.K.Key.of c.requires.named c.requires.keeps c.requires.free c.requires.none)))
