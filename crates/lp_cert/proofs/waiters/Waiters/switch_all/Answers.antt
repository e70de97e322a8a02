use Rattle.std.proofs.Common.{◌≡◌, ◌+◌, ◌<◌, [], ◌∷◌, ◌++◌, length, take, get_or, sym, ap, ◌∙◌, add-one, arith}
use Rattle.std.proofs.Math.Seq.{take-suc}
use Rattle.std.proofs.lemmas.List.{map-append}
use Rattle.lp_stack.specs.declared.number.GroupId.{GroupId}
use Rattle.lp_definitions.specs.Events.{group_numbers}
use Rattle.lp_cert.specs.inside.Waiters.{after_switch, lines_at}
use Rattle.lp_cert.proofs.MoreWaiters.{one_left}
use Rattle.lp_cert.proofs.waiters.Waiters.switch_all.Goals as goal

pub loop-group-preserved : goal.loop-group-preserved
loop-group-preserved c =
    let gs = c.args.groups.now in
    let i = c.loop-group.group-index in
    let none : GroupId = record { 0 = 0 } in
    let within : i < length gs = omega arith in
    let step : take (i + 1) gs ≡ take i gs ++ get_or gs i none ∷ [] = rw add-one (take-suc gs i none within) in
    let numbers : group_numbers (take (i + 1) gs) ≡ group_numbers (take i gs) ++ (get_or gs i none).0 ∷ [] = ap group_numbers step ∙ map-append (λ (g : GroupId). g.0) (take i gs) (get_or gs i none ∷ []) in
    λ group.
    one_left c.args.self.now c.loop-group.self c.switch_one.new.self (group_numbers (take i gs)) (get_or gs i none).0 c.loop-group.invariant c.switch_one.ensures.groups c.switch_one.ensures.reasons group
    ∙ ap (λ gone. after_switch gone (lines_at c.args.self.now) group) (sym numbers)
