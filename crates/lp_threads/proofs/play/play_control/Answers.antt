use Rattle.std.proofs.Common.{None, Some, arith, refl, ◌∙◌}
use Rattle.std.proofs.lemmas.Grind.{common_steps}
use Rattle.lp_threads.proofs.Players.{commanded}
use Rattle.lp_threads.proofs.play.play_control.Goals as goal

pub returns : goal.returns
returns g c =
    commanded g.S.TraceName.events c.control-script.result.now c.loop-event.event-index c.loop-event.control c.loop-event.control None
    c.control-script.ensures.script c.loop-event.invariant refl (λ _. grind (arith, common_steps)) tt

pub returns-in-Err : goal.returns-in-Err
returns-in-Err g c =
    let back = c.in_ok-back-in-Err in
    commanded g.S.TraceName.events c.control-script.result.now c.loop-event.event-index c.loop-event.control back.back (Some back.told)
    c.control-script.ensures.script c.loop-event.invariant (back.ensures.part ∙ c.in-Err.ensures.turned) (λ none. cc) back.ensures.full
