use Rattle.std.proofs.Common.{List, refl, ap, subst, ◌++◌}
use Rattle.std.specs.List.{flat_map}
use Rattle.lp_definitions.specs.declared.reply.Reply.{Reply}
use Rattle.lp_definitions.specs.Ends.{LegEnd}
use Rattle.lp_definitions.specs.Outcome.{Outcome}
use Rattle.lp_trace.specs.Report.{report, reply_lines, leg_lines}
use Rattle.lp_trace.proofs.Pages.{puts_err, held_prefix, held_err, held_last}
use Rattle.lp_trace.proofs.Reports.{header_part, model_part, events_part, legs_part, stays_part, report_split, after_header, after_model, after_events, after_legs}
use Rattle.lp_text.specs.Words.{line_of}
use Rattle.lp_text.specs.inside.Writing.{Left, TakesPrefix, seen_of}
use Rattle.lp_trace.proofs.report.put_report.Goals as goal

pub returns-in_err-put_header : goal.returns-in_err-put_header
returns-in_err-put_header g c =
    let o : Outcome = c.args.outcome.now in
    puts_err (seen_of g.W.Write.contents c.args.writer.now) (seen_of g.W.Write.contents c.put_header.new.writer) c.args.page.now.held.items c.put_header.new.page.held.items (report c.args.form c.args.name.now o) c.from_residual.result c.from_residual.ensures.0 (held_prefix _ _ c.args.page.now.held.items (header_part c.args.form c.args.name.now o) ((model_part c.args.form c.args.name.now o) ++ ((events_part c.args.form c.args.name.now o) ++ ((legs_part c.args.form c.args.name.now o) ++ (stays_part c.args.form c.args.name.now o)))) (report c.args.form c.args.name.now o) (report_split c.args.form c.args.name.now o) c.in_err-put_header.ensures)

pub returns-in_err-put_model : goal.returns-in_err-put_model
returns-in_err-put_model g c =
    let o : Outcome = c.args.outcome.now in
    puts_err (seen_of g.W.Write.contents c.args.writer.now) (seen_of g.W.Write.contents c.put_model.new.writer) c.args.page.now.held.items c.put_model.new.page.held.items (report c.args.form c.args.name.now o) c.from_residual-in_err-put_model.result c.from_residual-in_err-put_model.ensures.0 (held_err (seen_of g.W.Write.contents c.args.writer.now) (seen_of g.W.Write.contents c.put_header.new.writer) (seen_of g.W.Write.contents c.put_model.new.writer) _ c.put_header.new.page.held.items (model_part c.args.form c.args.name.now o) _ ((events_part c.args.form c.args.name.now o) ++ ((legs_part c.args.form c.args.name.now o) ++ (stays_part c.args.form c.args.name.now o))) refl (after_header c.args.form c.args.name.now o c.args.page.now.held.items c.put_header.new.page.held.items c.put_header.new.page.held.items c.put_header.new.page.held.items c.put_header.new.page.held.items (seen_of g.W.Write.contents c.args.writer.now) (seen_of g.W.Write.contents c.put_header.new.writer) (seen_of g.W.Write.contents c.put_header.new.writer) (seen_of g.W.Write.contents c.put_header.new.writer) (seen_of g.W.Write.contents c.put_header.new.writer) c.in_ok-put_header.ensures) c.in_err-put_model.ensures)

pub returns-in_err-put_events : goal.returns-in_err-put_events
returns-in_err-put_events g c =
    let o : Outcome = c.args.outcome.now in
    puts_err (seen_of g.W.Write.contents c.args.writer.now) (seen_of g.W.Write.contents c.put_events.new.writer) c.args.page.now.held.items c.put_events.new.page.held.items (report c.args.form c.args.name.now o) c.from_residual-in_err-put_events.result c.from_residual-in_err-put_events.ensures.0 (held_err (seen_of g.W.Write.contents c.args.writer.now) (seen_of g.W.Write.contents c.put_model.new.writer) (seen_of g.W.Write.contents c.put_events.new.writer) _ c.put_model.new.page.held.items (events_part c.args.form c.args.name.now o) _ ((legs_part c.args.form c.args.name.now o) ++ (stays_part c.args.form c.args.name.now o)) refl (after_model c.args.form c.args.name.now o c.args.page.now.held.items c.put_header.new.page.held.items c.put_model.new.page.held.items c.put_model.new.page.held.items c.put_model.new.page.held.items (seen_of g.W.Write.contents c.args.writer.now) (seen_of g.W.Write.contents c.put_header.new.writer) (seen_of g.W.Write.contents c.put_model.new.writer) (seen_of g.W.Write.contents c.put_model.new.writer) (seen_of g.W.Write.contents c.put_model.new.writer) c.in_ok-put_header.ensures c.in_ok-put_model.ensures) (subst (λ (rs : List Reply). TakesPrefix (seen_of g.W.Write.contents c.put_model.new.writer) (seen_of g.W.Write.contents c.put_events.new.writer) (c.put_model.new.page.held.items ++ flat_map line_of (reply_lines c.args.form 1 rs))) (ap (λ (seen : Outcome). seen.replies) c.outcome.view_is) c.in_err-put_events.ensures))

pub returns-in_err-put_legs : goal.returns-in_err-put_legs
returns-in_err-put_legs g c =
    let o : Outcome = c.args.outcome.now in
    puts_err (seen_of g.W.Write.contents c.args.writer.now) (seen_of g.W.Write.contents c.put_legs.new.writer) c.args.page.now.held.items c.put_legs.new.page.held.items (report c.args.form c.args.name.now o) c.from_residual-in_err-put_legs.result c.from_residual-in_err-put_legs.ensures.0 (held_err (seen_of g.W.Write.contents c.args.writer.now) (seen_of g.W.Write.contents c.put_events.new.writer) (seen_of g.W.Write.contents c.put_legs.new.writer) _ c.put_events.new.page.held.items (legs_part c.args.form c.args.name.now o) _ (stays_part c.args.form c.args.name.now o) refl (after_events c.args.form c.args.name.now o c.args.page.now.held.items c.put_header.new.page.held.items c.put_model.new.page.held.items c.put_events.new.page.held.items c.put_events.new.page.held.items (seen_of g.W.Write.contents c.args.writer.now) (seen_of g.W.Write.contents c.put_header.new.writer) (seen_of g.W.Write.contents c.put_model.new.writer) (seen_of g.W.Write.contents c.put_events.new.writer) (seen_of g.W.Write.contents c.put_events.new.writer) c.in_ok-put_header.ensures c.in_ok-put_model.ensures (subst (λ (rs : List Reply). Left (seen_of g.W.Write.contents c.put_model.new.writer) (seen_of g.W.Write.contents c.put_events.new.writer) (c.put_model.new.page.held.items ++ flat_map line_of (reply_lines c.args.form 1 rs)) c.put_events.new.page.held.items) (ap (λ (seen : Outcome). seen.replies) c.outcome.view_is) c.in_ok-put_events.ensures)) (subst (λ (ends : List LegEnd). TakesPrefix (seen_of g.W.Write.contents c.put_events.new.writer) (seen_of g.W.Write.contents c.put_legs.new.writer) (c.put_events.new.page.held.items ++ flat_map line_of (flat_map (leg_lines c.args.form) ends))) (ap (λ (seen : Outcome). seen.legs) c.outcome.view_is) c.in_err-put_legs.ensures))

pub returns : goal.returns
returns g c =
    let o : Outcome = c.args.outcome.now in
    held_last (seen_of g.W.Write.contents c.args.writer.now) (seen_of g.W.Write.contents c.put_legs.new.writer) (seen_of g.W.Write.contents c.put_stays.new.writer) (report c.args.form c.args.name.now o) c.args.page.now.held.items c.put_legs.new.page.held.items _ (stays_part c.args.form c.args.name.now o) c.put_stays.result refl (after_legs c.args.form c.args.name.now o c.args.page.now.held.items c.put_header.new.page.held.items c.put_model.new.page.held.items c.put_events.new.page.held.items c.put_legs.new.page.held.items (seen_of g.W.Write.contents c.args.writer.now) (seen_of g.W.Write.contents c.put_header.new.writer) (seen_of g.W.Write.contents c.put_model.new.writer) (seen_of g.W.Write.contents c.put_events.new.writer) (seen_of g.W.Write.contents c.put_legs.new.writer) c.in_ok-put_header.ensures c.in_ok-put_model.ensures (subst (λ (rs : List Reply). Left (seen_of g.W.Write.contents c.put_model.new.writer) (seen_of g.W.Write.contents c.put_events.new.writer) (c.put_model.new.page.held.items ++ flat_map line_of (reply_lines c.args.form 1 rs)) c.put_events.new.page.held.items) (ap (λ (seen : Outcome). seen.replies) c.outcome.view_is) c.in_ok-put_events.ensures) (subst (λ (ends : List LegEnd). Left (seen_of g.W.Write.contents c.put_events.new.writer) (seen_of g.W.Write.contents c.put_legs.new.writer) (c.put_events.new.page.held.items ++ flat_map line_of (flat_map (leg_lines c.args.form) ends)) c.put_legs.new.page.held.items) (ap (λ (seen : Outcome). seen.legs) c.outcome.view_is) c.in_ok-put_legs.ensures)) c.put_stays.new.page.held.items c.put_stays.ensures
