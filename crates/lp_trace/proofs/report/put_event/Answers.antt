use Rattle.std.proofs.Common.{◌≡◌, ◌++◌, ◌∷◌, [], ◌∙◌, ap, sym, subst, codes, decimal, List, ℕ, arith}
use Rattle.std.proofs.lemmas.Grind.{common_steps}
use Rattle.std.specs.List.{flat_map}
use Rattle.lp_definitions.specs.Events.{group_numbers}
use Rattle.lp_replay.specs.declared.replies.ShortWhat.{ShortWhat}
use Rattle.lp_replay.specs.Replies.{what_of}
use Rattle.lp_text.specs.Words.{line_of}
use Rattle.lp_trace.specs.Report.{what_words, complete_words}
use Rattle.lp_text.specs.inside.Writing.{Puts, seen_of}
use Rattle.lp_trace.proofs.Reports.{switched_line}
use Rattle.lp_trace.proofs.report.put_event.Goals as goal

pub returns-in-Switched : goal.returns-in-Switched
returns-in-Switched g c =
    let groups : List ℕ = group_numbers c.args.groups.now in
    let line : List ℕ = c.number-event.result.now ++ (codes " over" ++ (flat_map (λ group. 32 ∷ decimal group) groups ++ c.line_end-end.result.now)) in
    let same : line ≡ line_of (decimal c.args.event ∷ (what_words c.args.form (what_of c.args.reply.what (groups ∷ [])) ++ complete_words c.args.reply.completed)) =
    ap (λ l. l ++ (codes " over" ++ (flat_map (λ group. 32 ∷ decimal group) groups ++ c.line_end-end.result.now))) c.number-event.ensures
    ∙ ap (λ l. decimal c.args.event ++ (codes " over" ++ (flat_map (λ group. 32 ∷ decimal group) groups ++ l))) c.line_end-end.ensures
    ∙ sym (switched_line (decimal c.args.event) groups (complete_words c.args.reply.completed))
    ∙ ap (λ (what : ShortWhat). line_of (decimal c.args.event ∷ (what_words c.args.form (what_of what (groups ∷ [])) ++ complete_words c.args.reply.completed))) (sym c.in-Switched.is) in
    let P : List ℕ → Type 0 = λ l. Puts (seen_of g.W.Write.contents c.args.writer.now) (seen_of g.W.Write.contents c.put_switched.new.writer) c.args.page.now.held.items c.put_switched.new.page.held.items c.put_switched.result l in
    subst P same c.put_switched.ensures

pub returns-in-Refused : goal.returns-in-Refused
returns-in-Refused g c = grind (arith, common_steps)

pub returns-in-Ran : goal.returns-in-Ran
returns-in-Ran g c = grind (arith, common_steps)

pub returns-in-Done : goal.returns-in-Done
returns-in-Done g c = grind (arith, common_steps)
