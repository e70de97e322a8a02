use Rattle.std.proofs.Common.{◌≡◌, List, Option, Some, sym, ap, ◌∙◌, arith}
use Rattle.std.proofs.lemmas.Grind.{common_steps}
use Rattle.lp_machine.specs.declared.standing_blame.StandingBlame.{StandingBlame}
use Rattle.lp_transition.specs.inside.Blames.{blame_at, looked_at}
use Rattle.lp_transition.proofs.BlameLists.{looked-there, looked-gone}
use Rattle.lp_transition.proofs.engine.blames.Blames.look_again.Goals as goal

pub returns-then-has_frame-clause-blames : goal.returns-then-has_frame-clause-blames
returns-then-has_frame-clause-blames c =
    let b = c.in-Some-of.blame in
    let x = c.in-Some.live in
    looked-there c.args.tasks.now c.args.task.0 c.group-group.result.0 x b c.args.self.now (sym c.in-Some.ensures.value) c.group-group.ensures (sym c.of.ensures ∙ c.in-Some-of.is) (sym c.has_frame.ensures ∙ c.if-has_frame.true)

pub returns-clause-blames : goal.returns-clause-blames
returns-clause-blames c =
    let b = c.in-Some-of.blame in
    let x = c.in-Some.live in
    let old = c.self.inside.of_group in
    let gone = sym c.has_frame.ensures ∙ c.if-has_frame.false in
    let stands : blame_at old c.group-group.result.0 ≡ Some b = ap (λ (bs : List (Option StandingBlame)). blame_at bs c.group-group.result.0) c.self.view_is ∙ (sym c.of.ensures ∙ c.in-Some-of.is) in
    λ group.
    looked-gone c.args.tasks.now c.args.task.0 c.group-group.result.0 x b old (sym c.in-Some.ensures.value) c.group-group.ensures stands c.if-blame-task.false gone c.put.new.self c.put.ensures.values group
    ∙ ap (λ (bs : List (Option StandingBlame)). looked_at c.args.tasks.now c.args.task.0 group (blame_at bs group)) c.self.view_is

pub returns-then-has_frame-clause-groups : goal.returns-then-has_frame-clause-groups
returns-then-has_frame-clause-groups c = grind (arith, common_steps)

pub returns-then-blame-task-clause-groups : goal.returns-then-blame-task-clause-groups
returns-then-blame-task-clause-groups c = grind (arith, common_steps)
