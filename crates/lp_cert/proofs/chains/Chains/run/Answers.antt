use Rattle.std.proofs.Common.{◌∙◌, arith}
use Rattle.std.proofs.lemmas.List.{length-set}
use Rattle.lp_cert.proofs.PartLemmas.{next_without, one_found}
use Rattle.lp_cert.proofs.chains.Chains.run.Goals as goal

pub loop-place-preserved : goal.loop-place-preserved
loop-place-preserved c =
    let lists = c.args.self.now.lists in
    let l = c.loop-place in
    let i = l.invariant in
    record {
      wide = length-set l.run l.place l.at.0 ∙ i.wide;
      next = next_without lists c.args.id.0 c.args.first l.place l.at.0 c.older-at.result.0 i.next c.older-at.ensures.known c.older-at.ensures.list;
      each = one_found lists c.args.id.0 c.args.first l.place l.run l.at.0 (omega arith) i.each i.next;
    }
