use Rattle.std.proofs.Common.{◌∙◌, rules, sym}
use Rattle.lp_parts.proofs.Moves.{cuts}
use Rattle.lp_parts.proofs.keeper.Keeper.give.Goals as goal

pub split_pass-token-requires : goal.split_pass-token-requires
split_pass-token-requires g c =
    let i = c.self.invariant in
    (search rules, (search rules, (c.take_up.ensures.cell ∙ (i.1 ∙ sym i.0), cuts g.P.Keying.key _ _)))
