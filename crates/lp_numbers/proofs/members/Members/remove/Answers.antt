use Rattle.std.proofs.Common.{◌<◌, inl, inr, refl, arith}
use Rattle.lp_numbers.proofs.Links.{linked-removed, member-removed}
use Rattle.lp_numbers.proofs.members.Members.remove.Goals as goal
use Rattle.lp_numbers.proofs.members.Members.remove.Goals.{then-before-eq0, else-before-eq0}

pub invariant_of-self : goal.invariant_of-self
invariant_of-self c =
    let i = c.self.inside in
    let group_within : c.args.group < 65536 = omega arith in
    let member = rw (← c.self.view_is) at c.requires in
    elim c.if-before-eq0.branch [
      | then-before-eq0 w ↦ record {
        linked = rw (c.put.ensures.links, c.put-2.ensures.links, w.self-inside-is, w.put_first.ensures.first) (linked-removed i.first i.next i.before _ c.args.group c.args.number c.get-before.result c.get-next.result c.self.invariant.linked member c.get-next.ensures.link c.get-before.ensures.link (inl (w.if-before-eq0.true, refl)) group_within);
        named = rw w.self-inside-is w.put_first.ensures.named;
      }
      | else-before-eq0 w ↦ record {
        linked = rw (c.put.ensures.links, c.put-2.ensures.links, w.self-inside-is) (linked-removed i.first i.next i.before _ c.args.group c.args.number c.get-before.result c.get-next.result c.self.invariant.linked member c.get-next.ensures.link c.get-before.ensures.link (inr (w.if-before-eq0.false, refl)) group_within);
        named = rw w.self-inside-is c.self.invariant.named;
      }
    ]

pub returns : goal.returns
returns c =
    let i = c.self.inside in
    let group_within : c.args.group < 65536 = omega arith in
    let member = rw (← c.self.view_is) at c.requires in
    elim c.if-before-eq0.branch [
      | then-before-eq0 w ↦ rw (c.put.ensures.links, w.self-inside-is, w.put_first.ensures.first, ← c.self.view_is) (member-removed i.first i.next i.before _ c.args.group c.args.number c.get-before.result c.get-next.result c.self.invariant.linked member c.get-next.ensures.link c.get-before.ensures.link (inl (w.if-before-eq0.true, refl)) group_within)
      | else-before-eq0 w ↦ rw (c.put.ensures.links, w.self-inside-is, ← c.self.view_is) (member-removed i.first i.next i.before _ c.args.group c.args.number c.get-before.result c.get-next.result c.self.invariant.linked member c.get-next.ensures.link c.get-before.ensures.link (inr (w.if-before-eq0.false, refl)) group_within)
    ]
