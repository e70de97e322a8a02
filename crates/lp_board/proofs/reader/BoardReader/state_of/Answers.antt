use Rattle.std.proofs.Common.{rules}
use mathlib.Core.List.{IsPrefix}
use Rattle.lp_board.proofs.Prefixes.{prefix_trans}
use Rattle.lp_board.proofs.reader.BoardReader.state_of.Goals as goal

pub returns-in-Some-clause-seen : goal.returns-in-Some-clause-seen
returns-in-Some-clause-seen g c =
    let before : IsPrefix c.args.self.now.seen c.args.self.now.known = rw (← c.self.view_is) c.self.invariant in
    let later : IsPrefix c.args.self.now.known c.saw.new.self.seen = search rules in
    prefix_trans c.args.self.now.seen c.args.self.now.known c.saw.new.self.seen before later
