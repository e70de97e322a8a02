use Rattle.std.proofs.Common.{◌≡◌, ◌∙◌, Some, ap, subst}
use Rattle.livepatch.specs.Named.{NamedRun}
use Rattle.lp_c.specs.Held.{Held, TellsState}
use Rattle.lp_c.proofs.exports.lp_state.Goals as goal

pub returns-clause-state : goal.returns-clause-state
returns-clause-state c = λ x is.
    let both : Some c.in-Some.session.value ≡ Some x = c.in-Some.ensures.taken ∙ is in
    let same : c.in-Some.session.value ≡ x = cc in
    let named : c.simulator.result.now ≡ x.named = c.simulator.ensures ∙ ap (λ (h : Held). h.named) (c.deref.ensures ∙ same) in
    subst (λ (n : NamedRun). TellsState (record { named = n; groups = x.groups; cert = x.cert }) c.state_of.result) named (c.state_of.ensures x.groups x.cert)
