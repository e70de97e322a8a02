use Rattle.std.proofs.Common.{◌-◌, [], ◌++◌, List, get_or, length, reverse, ap, sym, subst, ◌∙◌, arith}
use Rattle.std.proofs.lemmas.List.{drop_all}
use Rattle.lp_cert.specs.declared.reason.Reason.{Reason}
use Rattle.lp_cert.specs.Heads.{lines_of}
use Rattle.lp_cert.specs.inside.Chains.{IsTail}
use Rattle.lp_cert.proofs.head.Head.lines.Goals as goal

pub lines_after-requires-clause-tail : goal.lines_after-requires-clause-tail
lines_after-requires-clause-tail c =
    let older = get_or c.args.chains.now.lists c.args.self.older.0 [] in
    subst (λ (tail : List Reason). IsTail tail older) (sym c.none-2.ensures.list) (record { shorter = omega arith; rest = sym (drop_all (length older - 0) older (omega arith)) })

pub returns : goal.returns
unfolding lines_of
returns c = sym (c.lines_after.ensures ∙ ap (λ (tail : List Reason). reverse (lines_of c.args.scans.now tail) ++ c.lines_after.result) c.none-2.ensures.list)
