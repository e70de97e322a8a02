use Rattle.std.proofs.Common.{◌<◌, length, ◌∙◌, arith}
use Rattle.lp_numbers.proofs.LinkTables.{all_links-more}
use Rattle.lp_numbers.proofs.link_table.reach.Goals as goal

pub loop-links-preserved : goal.loop-links-preserved
loop-links-preserved c =
    let more : length c.loop-links.links.items < 65536 = grind arith in
    record {
      few = grind arith;
      room = grind arith;
      same = rw c.push_reserved.ensures.items (all_links-more c.loop-links.links.items more ∙ c.loop-links.invariant.same);
    }
