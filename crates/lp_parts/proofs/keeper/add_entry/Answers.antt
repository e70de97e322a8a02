use Rattle.std.proofs.Common.{rules}
use Rattle.lp_parts.proofs.Moves.{adds_named}
use Rattle.lp_parts.proofs.keeper.add_entry.Goals as goal

pub load_as-requires : goal.load_as-requires
load_as-requires g c = (search rules, (search rules, (c.requires.cell, adds_named g.P.Keying.key _ _ c.args.entry.now g.I.Item.entry c.requires.named c.requires.keeps c.requires.owns c.requires.own)))
