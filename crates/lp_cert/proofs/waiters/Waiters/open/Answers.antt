use Rattle.std.proofs.Common.{◌∙◌}
use Rattle.lp_machine.specs.Table.{state_in}
use Rattle.lp_cert.specs.inside.Waiters.{has_off}
use Rattle.lp_cert.proofs.MoreWaiters.{headless_head, headless_lines, opened_lines}
use Rattle.lp_cert.proofs.waiters.Waiters.open.Goals as goal

pub invariant_of-self : goal.invariant_of-self
invariant_of-self g c =
    let taken = c.take_in_all.ensures.taken 0 in
    let reasons = c.take_in_all.new.reasons in
    λ group there. headless_head reasons.lists reasons.scans _ (taken.lists ∙ c.clear_past.ensures.lists) (taken.scans ∙ c.clear_past.ensures.scans) (taken.headless group there)

pub returns : goal.returns
returns g c =
    let taken = c.take_in_all.ensures.taken 0 in
    let reasons = c.take_in_all.new.reasons in
    λ sound group.
    opened_lines c.take_in_all.new.groups reasons group (has_off (state_in c.args.core.now) c.args.level.0 group) (c.take_in_all.ensures.groups sound group)
    (λ there. headless_lines reasons group (taken.lists ∙ c.clear_past.ensures.lists) (taken.scans ∙ c.clear_past.ensures.scans) (taken.headless group there))
