use Rattle.std.proofs.Common.{◌∙◌, rules, sym}
use Rattle.lp_parts.proofs.Moves.{cuts, takes_in}
use Rattle.lp_parts.proofs.keeper.Keeper.add.Goals as goal

pub join_pass-requires : goal.join_pass-requires
join_pass-requires g c =
    let i = c.self.invariant in
    let m = c.mine.invariant in
    (search rules, (search rules, ((i.1 ∙ sym i.0, m.0 ∙ sym i.1, m.1), takes_in g.P.Keying.key _ _ _ _)))

pub split_pass-token-requires : goal.split_pass-token-requires
split_pass-token-requires g c =
    let i = c.self.invariant in
    (search rules, (search rules, (c.add_entry.ensures.cell ∙ (c.join_pass.ensures.0.0 ∙ (i.1 ∙ sym i.0)), cuts g.P.Keying.key _ _)))
