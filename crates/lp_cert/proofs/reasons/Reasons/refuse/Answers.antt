use Rattle.std.proofs.Common.{length, sym, ap, ◌∙◌}
use Rattle.lp_cert.specs.declared.head.Head.{Head}
use Rattle.lp_cert.specs.Waiters.{head_of}
use Rattle.lp_cert.specs.inside.Heads.{IsHead, IsRefusedBy, continues_after}
use Rattle.lp_cert.proofs.HeadLemmas.{put_there, refused_new, refused_on}
use Rattle.lp_cert.proofs.reasons.Reasons.refuse.Goals as goal

pub returns-then-continues-clause-refused : goal.returns-then-continues-clause-refused
returns-then-continues-clause-refused c =
    let reasons = c.args.self.now in
    refused_on reasons.scans c.args.group c.args.refused.now (head_of reasons c.args.group.0) reasons.lists c.requires.head
    (ap (λ (h : Head). continues_after h.ongoing c.args.refused.now) (sym c.head-head.ensures) ∙ (sym c.continues.ensures ∙ c.if-continues.true))

pub returns-clause-refused : goal.returns-clause-refused
returns-clause-refused c =
    let i = c.self.inside in
    let stands : IsHead i.chains.lists (length c.as_slice-scans.result.now) c.head-head.result = rw (c.as_slice-scans.ensures.value, c.head-head.ensures, ← c.self.view_is) (rw (← c.self.view_is) at c.requires.head) in
    rw (← c.self.view_is)
    (put_there (λ scans head next. IsRefusedBy c.args.refused.now c.args.group scans head next i.chains.lists c.close.new.chains.lists) _ _ _ _ i.heads c.put.new.self _ _
    c.as_slice-scans.ensures.value (rw (← c.self.view_is) at c.head-head.ensures) c.put.ensures.values
    (refused_new c.as_slice-scans.result.now c.args.group c.args.refused.now c.head-head.result i.chains.lists stands
    (record { ongoing = c.reason_begun.result; older = c.close.result }) c.close.new.chains.lists
    c.requires.used (sym c.continues.ensures ∙ c.if-continues.false) c.reason_begun.ensures c.close.ensures.list c.close.ensures.known c.close.ensures.kept))
