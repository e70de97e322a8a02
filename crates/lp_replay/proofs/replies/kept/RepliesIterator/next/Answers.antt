use Rattle.std.proofs.Common.{◌≡◌, drop, ℕ, length, List, ◌∷◌, arith, rules, ap, sym, ◌∙◌}
use Rattle.lp_definitions.specs.declared.reply.Reply.{Reply}
use Rattle.lp_replay.specs.declared.replies.ShortReply.{ShortReply}
use Rattle.lp_replay.specs.declared.replies.kept.Replies.{Replies}
use Rattle.lp_replay.specs.Replies.{replies_of, kept_reply, lists_in}
use Rattle.lp_replay.proofs.ReplyLists.{kept-next, none-left}
use Rattle.lp_replay.proofs.replies.kept.RepliesIterator.next.Goals as goal
use Rattle.lp_replay.proofs.replies.kept.RepliesIterator.next.Goals.{then-lists-eq1, else-lists-eq1}

pub returns-in_err-packed-clause-steps : goal.returns-in_err-packed-clause-steps
returns-in_err-packed-clause-steps c =
    let none = none-left c.args.self.now.short.now (drop c.args.self.now.next c.args.self.now.groups.now) c.in_err-packed.ensures.cases in
    rw c.from_residual.ensures (none, none)

pub returns-clause-steps : goal.returns-clause-steps
returns-clause-steps c =
    let short : ShortReply = c.get-short.result in
    let others : List ShortReply = c.in_ok-packed.others.now in
    let lists : List (List ℕ) = drop c.args.self.now.next c.args.self.now.groups.now in
    let kept : Reply = kept_reply (record { short = short; groups = c.at-groups.result }) in
    let first = ap (λ l. replies_of l lists) c.in_ok-packed.ensures.cases.0 ∙ ap {A = ShortReply} {B = List Reply} (λ r. replies_of (r ∷ others) lists) (sym c.get-short.ensures) in
    elim c.if-lists-eq1.branch [
      | then-lists-eq1 w ↦
          let one : 1 ≡ lists_in short.what = omega (arith, c.lists.ensures.value, w.if-lists-eq1) in
          first
          ∙ kept-next short others lists (drop w.place_after-self.result c.args.self.now.groups.now) _ (w.place_after-self.ensures ∙ ap (λ (n : ℕ). drop n lists) one) c.at-groups.ensures
          ∙ ap {A = Replies} {B = List Reply} (λ s. kept ∷ replies_of s.short.now (drop s.next s.groups.now)) (sym w.self-is)
      | else-lists-eq1 w ↦
          let none : 0 ≡ lists_in short.what = omega (arith, c.lists.ensures.value, c.lists.ensures.few, w.if-lists-eq1) in
          first
          ∙ kept-next short others lists lists _ (ap (λ (n : ℕ). drop n lists) none) c.at-groups.ensures
          ∙ ap {A = Replies} {B = List Reply} (λ s. kept ∷ replies_of s.short.now (drop s.next s.groups.now)) (sym w.self-is)
    ]

pub returns-clause-goes : goal.returns-clause-goes
returns-clause-goes c =
    let shorter = ap length (returns-clause-steps c) in
    search rules
