use Rattle.std.proofs.Common.{◌≡◌, suc, length, get_or, arith}
use Rattle.std.proofs.lemmas.Grind.{common_steps}
use Rattle.std.proofs.Common.{refl, ap, ◌∙◌, arith}
use Rattle.lp_numbers.specs.inside.Links.{list_from}
use Rattle.lp_numbers.proofs.Links.{walk-on, none_walked}
use Rattle.lp_numbers.proofs.members.is_longer.Goals as goal

pub loop-at-init : goal.loop-at-init
loop-at-init c = record { all = refl; few = omega arith; chain = (0, rw c.get-at.ensures.link (c.requires.lists.chained c.args.group)) }

pub loop-at-smaller : goal.loop-at-smaller
loop-at-smaller c =
    let on = walk-on c.args.next.now c.args.before.now c.loop-at.invariant.chain.0 c.loop-at.at c.loop-at-test.true c.loop-at.invariant.chain.1 in
    rw (c.get-at-in-loop-at.ensures.link, on.0) (omega arith)

pub loop-at-preserved : goal.loop-at-preserved
loop-at-preserved c =
    let next = c.args.next.now in
    let at = c.loop-at.at in
    let on = walk-on next c.args.before.now c.loop-at.invariant.chain.0 at c.loop-at-test.true c.loop-at.invariant.chain.1 in
    let long : length (list_from next at) ≡ suc (length (list_from next (get_or next at 0))) = ap length on.0 in
    let all = c.loop-at.invariant.all in
    let few = c.loop-at.invariant.few in
    rw c.get-at-in-loop-at.ensures.link (record {
      all = omega (arith, all, long, c.if-left-eq0.false);
      few = omega (arith, few);
      chain = (at, on.1);
    })

pub returns : goal.returns
returns c =
    let next = c.args.next.now in
    let none : length (list_from next c.loop-at.at) ≡ 0 = ap (λ a. length (list_from next a)) c.loop-at-test.false ∙ ap length (none_walked next 65536) in
    let all = rw c.get-at.ensures.link at c.loop-at.invariant.all in
    ((λ no. absurd (cc)), (λ h. absurd (omega (arith, h, all, none))))

pub returns-then-left-eq0 : goal.returns-then-left-eq0
returns-then-left-eq0 c = grind (arith, common_steps)
