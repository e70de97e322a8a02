use Rattle.std.proofs.Common.{ℕ, ◌<◌, ◌↔◌, IsTrue, List, length, sym, subst}
use Rattle.lp_numbers.proofs.Links.{list-groups_of}
use Rattle.lp_numbers.proofs.members.Members.has_more_than.Goals as goal

pub returns : goal.returns
returns c =
    let same = list-groups_of c.self.inside.first c.self.inside.next c.args.group in
    rw (← c.self.view_is) (subst (λ (list : List ℕ). IsTrue c.is_longer.result ↔ (c.args.most < length list)) (sym same) c.is_longer.ensures)
