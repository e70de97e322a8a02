use Rattle.std.proofs.Common.{◌<◌, arith}
use Rattle.lp_cert.proofs.ChainLemmas.{place_below, empty_at, entry_at}
use Rattle.lp_cert.proofs.chains.Chains.entry.Goals as goal

pub returns-then-id-eq0-clause-none : goal.returns-then-id-eq0-clause-none
returns-then-id-eq0-clause-none c = rw (← c.self.view_is) (empty_at c.self.inside.entries.items c.args.id.0 c.if-id-eq0.true)

pub index-requires : goal.index-requires
index-requires c =
    let known = rw (← c.self.view_is) at c.requires in
    let some : 0 < c.args.id.0 = omega arith in
    omega (arith, place_below c.self.inside.entries.items c.args.id.0 known some, c.self.inside.entries.ok)

pub returns-clause-some : goal.returns-clause-some
returns-clause-some c =
    let known = rw (← c.self.view_is) at c.requires in
    let some : 0 < c.args.id.0 = omega arith in
    rw (← c.self.view_is) (entry_at c.self.inside.entries.items c.args.id.0 c.index.result.now c.self.invariant known some c.index.ensures)
