use Rattle.std.proofs.Common.{◌++◌, ◌∷◌, [], ℕ, List, drop, sym, ap, ◌∙◌, arith}
use Rattle.std.proofs.lemmas.List.{append-nil}
use Rattle.lp_definitions.specs.Events.{group_numbers}
use Rattle.lp_definitions.specs.declared.reply.Reply.{Reply}
use Rattle.lp_definitions.specs.declared.reply.What.{What}
use Rattle.lp_replay.specs.declared.replies.ShortReply.{ShortReply}
use Rattle.lp_replay.specs.Replies.{lists_in, replies_of, what_of}
use Rattle.lp_replay.proofs.ReplyLists.{told-next, replies-end}
use Rattle.lp_replay.proofs.replies.ReplyList.to_vec.Goals as goal

pub loop-packed-preserved : goal.loop-packed-preserved
loop-packed-preserved c =
    let i = c.self.inside in
    let l = c.loop-packed in
    let same = c.get-reply.ensures ∙ c.packed-item.is in
    let steps = c.lists-next.ensures.value ∙ ap {A = ShortReply} {B = ℕ} (λ r. lists_in r.what) same in
    let what = c.in_ok-what.ensures ∙ ap {A = ShortReply} {B = What} (λ r. what_of r.what (group_numbers c.at.result.now ∷ [])) same in
    let added = c.in_ok-push.ensures.items ∙ ap {A = ShortReply} {B = List Reply} (λ r. l.replies.items ++ record { what = c.in_ok-what.what; completed = r.completed } ∷ []) same in (
      omega (arith, l.invariant.0, c.lists-next.ensures.few),
      told-next c.as_slice-packed-items.result.now i.groups l.packed-index l.next _ c.lists-next.result _ c.in_ok-what.what l.replies.items c.push.new.self.items c.loop-packed-test.true steps c.at.ensures what added
          ∙ l.invariant.1,
    )

pub returns : goal.returns
returns c =
    let l = c.loop-packed in
    let rest = replies-end c.as_slice-packed-items.result.now (drop l.next c.self.inside.groups) l.packed-index c.loop-packed-test.false in
    sym (append-nil l.replies.items)
    ∙ ap (λ r. l.replies.items ++ r) (sym rest)
    ∙ l.invariant.1
    ∙ ap (λ r. replies_of r c.self.inside.groups) c.as_slice-packed-items.ensures.value
    ∙ c.self.view_is
