use Rattle.std.proofs.Common.{◌++◌, List, ℕ, subst, sym}
use Rattle.std.specs.List.{flat_map}
use Rattle.lp_cert.specs.Ends.{end_in, ends_left}
use Rattle.lp_text.specs.Words.{line_of}
use Rattle.lp_text.specs.inside.Writing.{Left, seen_of}
use Rattle.lp_trace.specs.Report.{leg_lines}
use Rattle.lp_trace.proofs.Reports.{block_first}
use Rattle.lp_trace.proofs.Pages.{puts_err, held_err, held_next, held_taken}
use Rattle.lp_trace.proofs.report.legs.put_legs.Goals as goal

pub returns-in_err-put_leg : goal.returns-in_err-put_leg
returns-in_err-put_leg g c =
    let next = block_first (leg_lines c.args.form) (ends_left c.loop-leg.leg-iterator) (ends_left c.next.new.self) (end_in c.in-Some.leg) c.in-Some.ensures.steps in
    let P : List ℕ → Type 0 = λ h. Left (seen_of g.W.Write.contents c.args.writer.now) (seen_of g.W.Write.contents c.loop-leg.writer) (c.args.page.now.held.items ++ flat_map line_of (flat_map (leg_lines c.args.form) c.args.legs.now)) (h ++ flat_map line_of (flat_map (leg_lines c.args.form) (ends_left c.loop-leg.leg-iterator))) in
    puts_err _ _ c.args.page.now.held.items _ _ c.from_residual.result c.from_residual.ensures.0 (held_err _ (seen_of g.W.Write.contents c.loop-leg.writer) _ _ c.hold_leg.new.held.items _ _ _ next (subst P (sym (c.hold_leg.ensures.kept c.if-not-hold_leg.true)) c.loop-leg.invariant) c.in_err-put_leg.ensures)

pub loop-leg-preserved : goal.loop-leg-preserved
loop-leg-preserved g c =
    let next = block_first (leg_lines c.args.form) (ends_left c.loop-leg.leg-iterator) (ends_left c.next.new.self) (end_in c.in-Some.leg) c.in-Some.ensures.steps in
    held_taken _ _ _ c.loop-leg.page.held.items _ _ _ _ (c.hold_leg.ensures.taken c.if-not-hold_leg.false) next c.loop-leg.invariant

pub loop-leg-preserved-in-Continue-1 : goal.loop-leg-preserved-in-Continue-1
loop-leg-preserved-in-Continue-1 g c =
    let next = block_first (leg_lines c.args.form) (ends_left c.loop-leg.leg-iterator) (ends_left c.next.new.self) (end_in c.in-Some.leg) c.in-Some.ensures.steps in
    let P : List ℕ → Type 0 = λ h. Left (seen_of g.W.Write.contents c.args.writer.now) (seen_of g.W.Write.contents c.loop-leg.writer) (c.args.page.now.held.items ++ flat_map line_of (flat_map (leg_lines c.args.form) c.args.legs.now)) (h ++ flat_map line_of (flat_map (leg_lines c.args.form) (ends_left c.loop-leg.leg-iterator))) in
    held_next _ (seen_of g.W.Write.contents c.loop-leg.writer) _ _ c.hold_leg.new.held.items _ _ _ c.put_leg.new.page.held.items next (subst P (sym (c.hold_leg.ensures.kept c.if-not-hold_leg.true)) c.loop-leg.invariant) c.in_ok-put_leg.ensures
