use Rattle.std.proofs.Common.{◌≡◌, ◌++◌, refl, rules}
use Rattle.std.specs.Prelude.{decimal}
use Rattle.lp_text.specs.inside.Cut.{IsCut}
use Rattle.lp_text.proofs.Choices.{at_some}
use Rattle.lp_text.proofs.QuickLines.{of_call}
use Rattle.lp_text.proofs.quick.call_rest.Goals as goal

pub returns : goal.returns
returns c =
    let cut : IsCut 10 c.in_ok-third.third.now c.cut.result.0.now c.in-Some.more.now = at_some (λ more. IsCut 10 c.in_ok-third.third.now c.cut.result.0.now more.now) c.cut.result.1 c.in-Some.more c.cut.ensures.cut c.in-Some.is in
    let number : c.in_ok-first.first.now ≡ decimal c.in_ok-task.task.0 ++ c.in_ok-task.second.now = search rules in
    (((c.in_ok-task.ensures.task, c.in_ok-func.ensures.known), refl), of_call c.args.symbols.now c.args.text.now c.in_ok-first.first.now c.in_ok-task.second.now c.in_ok-third.third.now c.cut.result.0.now c.in-Some.more.now c.in_ok-task.task c.in_ok-func.func c.in_ok-first.ensures number c.in_ok-third.ensures cut.whole c.in_ok-func.ensures.name)
