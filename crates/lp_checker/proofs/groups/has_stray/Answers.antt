use Rattle.std.proofs.Common.{sym, ap, ◌∙◌, arith}
use Rattle.std.proofs.lemmas.Grind.{common_steps}
use Rattle.std.proofs.lemmas.List.{drop_all}
use Rattle.std.proofs.Math.Seq.{drop-cons}
use Rattle.lp_checker.proofs.Strays.{strays, strays_are, stray_here}
use Rattle.lp_checker.proofs.groups.has_stray.Goals as goal

pub returns-then-group-section : goal.returns-then-group-section
returns-then-group-section c = λ model leg last begin.
    sym (strays_are model leg last c.args.first.0 begin c.args.lines.now ∙ c.loop-line.invariant ∙ stray_here c.args.lines.now c.loop-line.line-index c.loop-line.section.0 c.in-Hold.group _ (drop-cons c.args.lines.now c.loop-line.line-index _ c.loop-line-test.true) c.in-Hold.is c.if-group-section.true)

pub returns : goal.returns
returns c = λ model leg last begin.
    sym (strays_are model leg last c.args.first.0 begin c.args.lines.now ∙ c.loop-line.invariant ∙ ap (strays c.loop-line.section.0) (drop_all c.loop-line.line-index c.args.lines.now (omega (arith, c.loop-line-test.false))))

pub loop-line-preserved : goal.loop-line-preserved
loop-line-preserved c = grind (arith, common_steps)
