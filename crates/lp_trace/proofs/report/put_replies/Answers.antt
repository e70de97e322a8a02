use Rattle.std.proofs.Common.{◌≡◌, ◌+◌, ◌∙◌, ap, List, ℕ, [], ◌∷◌, ◌++◌, drop, refl, sym, subst, arith}
use Rattle.std.proofs.lemmas.Grind.{common_steps}
use Rattle.std.specs.List.{flat_map}
use Rattle.lp_definitions.specs.Events.{group_numbers}
use Rattle.lp_text.specs.Words.{line_of}
use Rattle.lp_replay.specs.Replies.{first_groups, replies_of, reply_of}
use Rattle.lp_trace.specs.Report.{reply_line, reply_lines}
use Rattle.lp_text.specs.inside.Writing.{Left, seen_of}
use Rattle.lp_trace.proofs.Pages.{puts_err, held_err, held_next, held_taken, held_end}
use Rattle.lp_trace.proofs.Reports.{events_next, events_plain, events_end}
use Rattle.lp_trace.proofs.report.put_replies.Goals as goal
use Rattle.lp_trace.proofs.report.put_replies.Goals.{then-not-hold_common, else-not-hold_common, then-not-hold_switched+in_ok-put_event, else-not-hold_switched}

pub hold_common-requires : goal.hold_common-requires
hold_common-requires g c = (c.args.form, c.requires)

pub returns-in_err-put_event : goal.returns-in_err-put_event
returns-in_err-put_event g c =
    let P : List ℕ → Type 0 = λ h. Left (seen_of g.W.Write.contents c.args.writer.now) (seen_of g.W.Write.contents c.loop-i.writer) (c.args.page.now.held.items ++ flat_map line_of (reply_lines c.args.form 1 (replies_of c.args.replies.now c.args.lists.now))) (h ++ flat_map line_of (reply_lines c.args.form (c.loop-i.i + 1) (replies_of (drop c.loop-i.i c.args.replies.now) (drop c.loop-i.next c.args.lists.now)))) in
    let kept = c.if-not-hold_switched.ensures.kept refl ∙ c.if-not-hold_common.ensures.kept refl in
    puts_err _ _ c.args.page.now.held.items _ _ c.from_residual.result c.from_residual.ensures.0 (held_err _ (seen_of g.W.Write.contents c.loop-i.writer) _ _ c.hold_switched.new.held.items _ _ _ (events_next c.args.form c.args.replies.now c.args.lists.now c.loop-i.i c.loop-i.next _ _ _ c.loop-i-test.true refl c.at-groups.ensures) (subst P (sym kept) c.loop-i.invariant.2) (rw (c.get-reply.ensures ∙ c.index-replies-i.is) at c.in_err-put_event.ensures))

pub loop-i-preserved : goal.loop-i-preserved
loop-i-preserved g c =
    let numbered : c.increment.new.self ≡ c.loop-i.i + 1 = c.increment.ensures ∙ ap (λ n. n + 1) c.loop-i.invariant.1 in
    let P : List ℕ → Type 0 = λ h. Left (seen_of g.W.Write.contents c.args.writer.now) (seen_of g.W.Write.contents c.loop-i.writer) (c.args.page.now.held.items ++ flat_map line_of (reply_lines c.args.form 1 (replies_of c.args.replies.now c.args.lists.now))) (h ++ flat_map line_of (reply_lines c.args.form (c.loop-i.i + 1) (replies_of (drop c.loop-i.i c.args.replies.now) (drop c.loop-i.next c.args.lists.now)))) in
    elim c.if-not-hold_common.branch [
      | then-not-hold_common w ↦
          let steps = rw (w.get-reply.ensures ∙ c.index-replies-i.is) at w.lists-next.ensures.value in
          let kept = w.if-not-hold_common.ensures.kept refl in (
            rw w.next-is (omega (arith, c.loop-i.invariant.0, w.lists-next.ensures.few)),
            numbered,
            rw (w.next-is, w.page-is, w.writer-is) (elim w.if-not-hold_switched.branch [
              | then-not-hold_switched+in_ok-put_event v ↦ rw (v.page-is, v.writer-is) (held_next _ (seen_of g.W.Write.contents c.loop-i.writer) _ _ w.hold_switched.new.held.items _ _ _ v.put_event.new.page.held.items (events_next c.args.form c.args.replies.now c.args.lists.now c.loop-i.i c.loop-i.next _ w.lists-next.result _ c.loop-i-test.true steps w.at-groups.ensures) (subst P (sym (v.if-not-hold_switched.ensures.kept refl ∙ kept)) c.loop-i.invariant.2) (rw (w.get-reply.ensures ∙ c.index-replies-i.is) at v.in_ok-put_event.ensures))
              | else-not-hold_switched v ↦ rw (v.page-is, v.writer-is) (held_taken _ _ _ c.hold_common.new.held.items _ _ _ _ (rw (w.get-reply.ensures ∙ c.index-replies-i.is) at (v.if-not-hold_switched.ensures.taken refl c.args.form ∙ ap (λ (n : ℕ). c.hold_common.new.held.items ++ line_of (reply_line c.args.form n (reply_of w.get-reply.result (group_numbers w.at-groups.result.now ∷ [])))) numbered)) (events_next c.args.form c.args.replies.now c.args.lists.now c.loop-i.i c.loop-i.next _ w.lists-next.result _ c.loop-i-test.true steps w.at-groups.ensures) (subst P (sym kept) c.loop-i.invariant.2))
            ]),
          )
      | else-not-hold_common w ↦
          let plain = rw c.index-replies-i.is at (w.if-not-hold_common.ensures.plain refl c.args.form c.requires) in (
            rw w.next-is (omega (arith, c.loop-i.invariant.0)),
            numbered,
            rw (w.next-is, w.page-is, w.writer-is) (held_taken _ _ _ c.loop-i.page.held.items _ _ _ _ (rw c.index-replies-i.is at (w.if-not-hold_common.ensures.taken refl c.args.form c.requires (c.loop-i.i + 1) numbered (first_groups (drop c.loop-i.next c.args.lists.now)))) (events_plain c.args.form c.args.replies.now c.args.lists.now c.loop-i.i c.loop-i.next _ c.loop-i-test.true plain) c.loop-i.invariant.2),
          )
    ]

pub returns : goal.returns
returns g c =
    held_end _ _ _ c.loop-i.page.held.items _ (events_end c.args.form c.args.replies.now _ c.loop-i.i _ c.loop-i-test.false) c.loop-i.invariant.2

pub loop-i-init : goal.loop-i-init
loop-i-init g c = grind (arith, common_steps)
