use Rattle.std.proofs.Common.{◌≡◌, ◌+◌, ◌∙◌, ap, min, suc, length, arith}
use Rattle.lp_cert.specs.declared.chains.Entry.{Entry}
use Rattle.lp_cert.proofs.ChainLemmas.{lists_of-length, lists_of-push, one_more_counted, AreLinked-push}
use Rattle.lp_cert.proofs.chains.Chains.push.Goals as goal

count : (c : goal.After-len) → length c.args.self.now.lists ≡ suc (length c.self.inside.entries.items)
count c = rw (← c.self.view_is) (lists_of-length c.self.inside.entries.items)

pub overflow_add-count : goal.overflow_add-count
overflow_add-count c =
    let known = rw (← c.self.view_is) at c.requires.known in
    omega (arith, known, lists_of-length c.self.inside.entries.items, c.self.inside.entries.ok, c.count-count.ensures.few)

pub overflow_cast-count : goal.overflow_cast-count
overflow_cast-count c =
    let known = rw (← c.self.view_is) at c.requires.known in
    let room = rw (← c.self.view_is) at c.requires.room in
    omega (arith, known, room, lists_of-length c.self.inside.entries.items, c.self.inside.entries.ok, c.count-count.ensures.few)

pub invariant_of-self : goal.invariant_of-self
invariant_of-self c =
    let entries = c.self.inside.entries.items in
    let entry : Entry = record { reason = c.args.reason; older = c.args.older; count = c.count-count.result + 1; lines = c.min.result; jump = c.jump_after-jump.result } in
    let known = rw (← c.self.view_is) at c.requires.known in
    let all = rw (← c.self.view_is) at c.count-count.ensures.all in
    rw c.push_reserved.ensures.items (AreLinked-push entries entry c.self.invariant (record {
      older = known;
      count = omega (arith, all);
      few = omega (arith, c.count-count.ensures.few);
      lines = one_more_counted _ c.args.reason c.lines.result _ _ (rw (← c.self.view_is) at c.lines.ensures.all) c.lines-2.ensures (c.min.ensures ∙ ap (λ n. min n 4294967295) c.saturating_add-lines.ensures);
      jump = rw (← c.self.view_is) at c.jump_after-jump.ensures.known;
      tail = rw (← c.self.view_is) at c.jump_after-jump.ensures.tail;
    }))

pub returns-clause-lists : goal.returns-clause-lists
returns-clause-lists c =
    let entry : Entry = record { reason = c.args.reason; older = c.args.older; count = c.count-count.result + 1; lines = c.min.result; jump = c.jump_after-jump.result } in
    rw (c.push_reserved.ensures.items, ← c.self.view_is) (lists_of-push c.self.inside.entries.items entry)

pub returns-clause-id : goal.returns-clause-id
returns-clause-id c = omega (arith, count c, c.self.inside.entries.ok)

pub returns-clause-room : goal.returns-clause-room
returns-clause-room c =
    let room = rw (← c.self.view_is) at c.requires.room in
    rw (← c.self.view_is) (omega (arith, room))
