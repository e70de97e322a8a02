use Rattle.std.proofs.Common.{[], ◌∷◌, ◌++◌, ap, ◌∙◌}
use Rattle.lp_cert.specs.declared.head.Waiter.{Waiter}
use Rattle.lp_cert.specs.Waiters.{waiter_in}
use Rattle.lp_cert.proofs.Listed.{all_listed, none_listed, one_listed}
use Rattle.lp_cert.proofs.waiters.listed.Goals as goal

pub loop-number-init : goal.loop-number-init
loop-number-init c =
    none_listed (waiter_in c.args.reasons.now) c.args.groups.now c.in_ok-list.list.items c.into_iter-number-iterator.result c.in_ok-list.ensures.items c.into_iter-number-iterator.ensures.into_iter_gives

pub loop-number-preserved : goal.loop-number-preserved
loop-number-preserved c =
    let list = c.loop-number.list.items in
    one_listed (waiter_in c.args.reasons.now) list c.push.new.self.items _ c.in-Some.number c.loop-number.number-iterator c.next.new.self c.loop-number.invariant
    (c.in_ok-push.ensures.items ∙ ap (λ (w : Waiter). list ++ w ∷ []) c.waiter.ensures) c.in-Some.ensures.steps

pub returns : goal.returns
returns c = all_listed (waiter_in c.args.reasons.now) c.loop-number.list.items _ c.loop-number.number-iterator c.loop-number.invariant c.in-None.ensures.steps.0
