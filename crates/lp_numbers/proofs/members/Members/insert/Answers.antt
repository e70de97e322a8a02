use Rattle.std.proofs.Common.{◌<◌, arith}
use Rattle.lp_numbers.proofs.Links.{linked-inserted, member-inserted}
use Rattle.lp_numbers.proofs.members.Members.insert.Goals as goal

pub invariant_of-self : goal.invariant_of-self
invariant_of-self c =
    let i = c.self.inside in
    let group_within : c.args.group < 65536 = omega arith in
    let number_within : c.args.number < 65536 = omega arith in
    record {
      linked = rw (c.put_first.ensures.first, c.put.ensures.links, c.put-3.ensures.links, c.put-2.ensures.links) (linked-inserted i.first i.next i.before c.args.group c.args.number c.get-head.result c.self.invariant.linked group_within number_within c.requires.positive (rw (← c.self.view_is) at c.requires.free) c.get-head.ensures.link);
      named = c.put_first.ensures.named;
    }

pub returns : goal.returns
returns c =
    let i = c.self.inside in
    let group_within : c.args.group < 65536 = omega arith in
    let number_within : c.args.number < 65536 = omega arith in
    rw (c.put_first.ensures.first, c.put.ensures.links, ← c.self.view_is) (member-inserted i.first i.next i.before c.args.group c.args.number c.get-head.result c.self.invariant.linked group_within number_within c.requires.positive (rw (← c.self.view_is) at c.requires.free) c.get-head.ensures.link)
