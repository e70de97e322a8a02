use Rattle.std.proofs.Common.{ℕ, ◌<◌, true, refl, sym, ap, ◌∙◌, ◌||◌, length, arith}
use Rattle.std.proofs.lemmas.List.{length-set}
use Rattle.lp_numbers.specs.Numbers.{has}
use Rattle.lp_numbers.specs.inside.Links.{among, list_from}
use Rattle.lp_numbers.proofs.Links.{at-below, walk-on, added, none_left}
use Rattle.lp_numbers.proofs.members.add_list.Goals as goal

pub loop-at-init : goal.loop-at-init
loop-at-init c = record { all = λ n. refl; chain = (0, rw c.get-at.ensures.link (c.requires.lists.chained c.args.group)) }

pub loop-at-smaller : goal.loop-at-smaller
loop-at-smaller c =
    let on = walk-on c.args.next.now c.args.before.now c.loop-at.invariant.chain.0 c.loop-at.at c.loop-at-test.true c.loop-at.invariant.chain.1 in
    rw (c.get-at-in-loop-at.ensures.link, on.0) (omega arith)

pub loop-at-preserved : goal.loop-at-preserved
loop-at-preserved c =
    let next = c.args.next.now in
    let at = c.loop-at.at in
    let on = walk-on next c.args.before.now c.loop-at.invariant.chain.0 at c.loop-at-test.true c.loop-at.invariant.chain.1 in
    let below : at < 65536 = at-below next c.args.before.now c.loop-at.invariant.chain.0 at c.loop-at.invariant.chain.1 in
    let within : at < length c.loop-at.set = omega (arith, below, length-set c.loop-at.set at true, ap length c.insert.ensures.after, c.insert.ensures.numbers) in
    rw c.get-at-in-loop-at.ensures.link (record {
      all = λ n. rw c.insert.ensures.after (added c.loop-at.set at n (list_from next _) within ∙ ap (λ l. has c.loop-at.set n || among n l) (sym on.0) ∙ c.loop-at.invariant.all n);
      chain = (at, on.1);
    })

pub returns : goal.returns
returns c = λ n.
    sym (none_left c.args.next.now c.loop-at.at n (has c.loop-at.set n) c.loop-at-test.false)
    ∙ c.loop-at.invariant.all n
    ∙ ap (λ (at : ℕ). has c.args.set.now n || among n (list_from c.args.next.now at)) c.get-at.ensures.link
