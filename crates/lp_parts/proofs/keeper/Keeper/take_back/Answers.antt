use Rattle.std.proofs.Common.{◌∙◌, ap, rules, sym}
use Rattle.lp_parts.specs.declared.rule.View.{View}
use Rattle.lp_parts.proofs.Moves.{gives_back, takes_in}
use Rattle.lp_parts.proofs.keeper.Keeper.take_back.Goals as goal

pub join_pass-requires : goal.join_pass-requires
join_pass-requires g c =
    let i = c.self.invariant in
    let m = c.mine.invariant in
    (search rules, (search rules, ((i.1 ∙ sym i.0, m.0 ∙ sym i.1, m.1), takes_in g.P.Keying.key _ _ _ _)))

pub load_as-requires : goal.load_as-requires
load_as-requires g c =
    let i = c.self.invariant in
    let j = c.join_pass.ensures in
    (search rules, (search rules, (j.0.0 ∙ (i.1 ∙ sym i.0), gives_back g.P.Keying.key _ _ (ap (λ v. v.keeps) j.1 ∙ i.2) (ap (λ v. v.owns) j.1 ∙ c.mine.invariant.2))))
