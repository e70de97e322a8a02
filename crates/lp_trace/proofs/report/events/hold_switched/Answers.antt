use Rattle.std.proofs.Common.{◌++◌, ◌∷◌, [], ◌∙◌, ap, codes, decimal, sym, List, ℕ}
use Rattle.std.specs.List.{flat_map}
use Rattle.lp_definitions.specs.Events.{group_numbers}
use Rattle.lp_replay.specs.declared.replies.ShortWhat.{ShortWhat}
use Rattle.lp_replay.specs.Replies.{what_of}
use Rattle.lp_text.specs.Words.{line_of}
use Rattle.lp_trace.specs.Report.{complete_words, what_words}
use Rattle.lp_trace.proofs.Reports.{switched_line}
use Rattle.lp_trace.proofs.report.events.hold_switched.Goals as goal

pub returns-in-Switched-clause-taken : goal.returns-in-Switched-clause-taken
returns-in-Switched-clause-taken c = λ held form.
    let before : List ℕ = c.args.held.now.items in
    let event : List ℕ = decimal c.args.event.now in
    let groups : List ℕ = group_numbers c.args.groups.now in
    c.hold_switched.ensures.taken held
    ∙ ap (λ l. before ++ (event ++ (codes " over" ++ (flat_map (λ group. 32 ∷ decimal group) groups ++ l)))) c.switched_end-len.ensures.words
    ∙ ap (λ l. before ++ l) (sym (switched_line event groups (complete_words c.args.reply.completed)))
    ∙ ap (λ (what : ShortWhat). before ++ line_of (event ∷ (what_words form (what_of what (groups ∷ [])) ++ complete_words c.args.reply.completed))) (sym c.in-Switched.is)
