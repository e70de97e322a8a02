use Rattle.std.proofs.Common.{sym, ◌∙◌, arith}
use Rattle.std.proofs.lemmas.Grind.{common_steps}
use Rattle.lp_numbers.specs.Numbers.{has}
use Rattle.lp_board.specs.inside.Changes.{target_if}
use Rattle.lp_board.proofs.Taken.{given-more, none-more}
use Rattle.lp_board.proofs.update.levels_in.Goals as goal
use Rattle.lp_board.proofs.update.levels_in.Goals.{in-Some+in_ok-push, in_default}

pub loop-verdict-preserved : goal.loop-verdict-preserved
loop-verdict-preserved g c =
    let k = c.loop-verdict.verdict-index in
    let f = target_if c.args.core.now (has c.args.over.now) in
    elim c.match-target_if.branch [
      | in-Some+in_ok-push w ↦ rw (w.levels-is, w.in_ok-push.ensures.items) (given-more f c.args.verdicts.now k _ c.loop-verdict.levels.items w.in-Some.level c.loop-verdict-test.true (sym c.target_if.ensures ∙ w.in-Some.is) c.loop-verdict.invariant)
      | in_default w ↦ rw w.levels-is (none-more f c.args.verdicts.now k _ c.loop-verdict.levels.items c.loop-verdict-test.true (sym c.target_if.ensures ∙ w.in_default.is) c.loop-verdict.invariant)
    ]

pub returns : goal.returns
returns g c = grind (arith, common_steps)
