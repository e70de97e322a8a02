use Rattle.std.proofs.Common.{length, refl}
use Rattle.lp_cert.specs.inside.Heads.{IsBornBy, IsHead}
use Rattle.lp_cert.proofs.HeadLemmas.{born_by, put_there}
use Rattle.lp_cert.proofs.reasons.Reasons.bear.Goals as goal

pub returns-clause-born : goal.returns-clause-born
returns-clause-born c =
    let i = c.self.inside in
    let stands : IsHead i.chains.lists (length c.as_slice.result.now) c.head-head.result = rw (c.as_slice.ensures.value, c.head-head.ensures, ← c.self.view_is) (rw (← c.self.view_is) at c.requires.head) in
    rw (← c.self.view_is)
    (put_there (λ scans head next. IsBornBy c.args.birth.now c.args.group scans head next i.chains.lists c.push.new.self.lists) _ _ _ _ i.heads c.put.new.self _ _
    c.as_slice.ensures.value (rw (← c.self.view_is) at c.head-head.ensures) c.put.ensures.values
    (born_by c.as_slice.result.now c.args.group c.args.birth.now c.head-head.result i.chains.lists stands
    _ c.close-before.new.chains.lists c.push.new.self.lists c.close-before.result.0 refl c.close-before.ensures.list c.close-before.ensures.kept c.push.ensures.lists c.push.ensures.id))
