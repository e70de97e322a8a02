use Rattle.std.proofs.Common.{◌≡◌, ◌∙◌, List, All, None, subst, sym}
use Rattle.lp_definitions.specs.declared.event.Event.{Event}
use Rattle.lp_log.specs.Seats.{owner}
use Rattle.lp_threads.proofs.Dealt.{unowned}
use Rattle.lp_threads.proofs.scripts.Scripts.control.Goals as goal

pub returns-clause-owned : goal.returns-clause-owned
returns-clause-owned g c =
    let script = c.as_slice.ensures.value ∙ c.args.self.now.dealt.rest in
    subst (λ (events : List Event). All (λ (event : Event). owner event ≡ None) events) (sym script) (unowned g.S.TraceName.events)
