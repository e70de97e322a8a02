use Rattle.std.proofs.Common.{rules, ◌≡◌, length, arith}
use Rattle.lp_c.proofs.Flat.{continues_last, share_symbols}
use Rattle.lp_c.proofs.patches.patch_sets.Goals as goal

pub returns-clause-sets : goal.returns-clause-sets
returns-clause-sets c =
    let none : length c.loop-length.rest.now ≡ 0 = search rules in
    continues_last c.args.symbols.now.count c.args.functions.now c.args.lengths.now c.loop-length.length-index c.loop-length.rest.now c.loop-length.sets.items (omega arith) none c.loop-length.invariant

pub returns-clause-share : goal.returns-clause-share
returns-clause-share c =
    let none : length c.loop-length.rest.now ≡ 0 = search rules in
    share_symbols c.args.symbols.now.count c.args.functions.now c.args.lengths.now c.loop-length.sets.items
    (continues_last c.args.symbols.now.count c.args.functions.now c.args.lengths.now c.loop-length.length-index c.loop-length.rest.now c.loop-length.sets.items (omega arith) none c.loop-length.invariant)
