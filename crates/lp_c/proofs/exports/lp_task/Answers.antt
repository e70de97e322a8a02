use Rattle.std.proofs.Common.{◌≡◌, ◌∙◌, Some, ap}
use Rattle.lp_machine.specs.Table.{slot}
use Rattle.livepatch.specs.Named.{NamedRun}
use Rattle.lp_c.specs.Held.{Held}
use Rattle.lp_c.proofs.exports.lp_task.Goals as goal

pub returns-clause-task : goal.returns-clause-task
returns-clause-task c = λ x is live there.
    let both : Some c.in-Some.session.value ≡ Some x = c.in-Some.ensures.taken ∙ is in
    let same : c.in-Some.session.value ≡ x = cc in
    let named : c.simulator.result.now ≡ x.named = c.simulator.ensures ∙ ap (λ (h : Held). h.named) (c.deref.ensures ∙ same) in
    c.tell_task-status.ensures.task live (ap (λ (n : NamedRun). slot n.simulated.core.table c.args.task) named ∙ there)
