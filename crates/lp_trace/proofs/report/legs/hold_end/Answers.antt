use Rattle.std.proofs.Common.{◌∷◌, ◌++◌, ◌∙◌, ap, ap₂, codes, decimal, length, sym, List, ℕ}
use Rattle.lp_text.proofs.Writing.{line_split}
use Rattle.lp_text.specs.CertTexts.{end_words}
use Rattle.lp_trace.specs.Report.{target_words}
use Rattle.lp_trace.proofs.report.legs.hold_end.Goals as goal

pub returns-clause-taken : goal.returns-clause-taken
returns-clause-taken c = λ held.
    let leg = c.args.leg.now in
    let before : List ℕ = c.args.held.now.items in
    let words : List (List ℕ) = target_words c.args.form leg.target ++ end_words leg.completed (length leg.certs) in
    c.hold_end.ensures.taken held
    ∙ ap₂ (λ n l. before ++ (codes "leg " ++ (decimal n ++ l))) c.turn_to.ensures (sym c.in-Some.ensures.words)
    ∙ ap (λ l. before ++ l) (sym (line_split (codes "leg") (decimal leg.opened ∷ words)))
