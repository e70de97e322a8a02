use Rattle.std.proofs.Common.{◌≡◌, ◌∙◌, ◌<◌, ℕ, List, Vec, Global, All, Some, ap, arith, length, subst, sym}
use Rattle.lp_definitions.specs.declared.event.Event.{Event}
use Rattle.lp_log.specs.Seats.{owner}
use Rattle.lp_threads.specs.Plays.{events_of}
use Rattle.lp_threads.proofs.Dealt.{owned}
use Rattle.lp_threads.proofs.scripts.Scripts.of.Goals as goal

pub returns-clause-owned : goal.returns-clause-owned
returns-clause-owned g c =
    let scripts = c.args.self.now in
    let within : c.from.result < length scripts.tasks.items = omega (arith, scripts.wide, c.from.ensures) in
    let dealt = scripts.dealt.scripts c.from.result c.index.result.now within in
    let script =
    c.as_slice.ensures.value ∙ ap (λ (v : Vec Event Global). v.items) c.index.ensures ∙ dealt
    ∙ ap (λ (task : ℕ). events_of task g.S.TraceName.events) c.from.ensures in
    subst (λ (events : List Event). All (λ (event : Event). owner event ≡ Some c.args.task.0) events) (sym script) (owned c.args.task.0 g.S.TraceName.events)
