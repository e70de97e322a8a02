use Rattle.std.proofs.Common.{ap, sym, codes, ◌∷◌, [], decimal}
use Rattle.std.specs.Fmt.{digits}
use Rattle.lp_text.specs.inside.Writing.{line_rest}
use Rattle.lp_trace.proofs.report.events.numbered_rest.Goals as goal

pub returns-in-0-clause-words : goal.returns-in-0-clause-words
unfolding digits
returns-in-0-clause-words c = sym (ap (λ n. line_rest (codes "ran" ∷ decimal n ∷ [])) c.in-0.is)

pub returns-in-1-clause-words : goal.returns-in-1-clause-words
unfolding digits
returns-in-1-clause-words c = sym (ap (λ n. line_rest (codes "ran" ∷ decimal n ∷ [])) c.in-1.is)

pub returns-in-2-clause-words : goal.returns-in-2-clause-words
unfolding digits
returns-in-2-clause-words c = sym (ap (λ n. line_rest (codes "ran" ∷ decimal n ∷ [])) c.in-2.is)

pub returns-in-3-clause-words : goal.returns-in-3-clause-words
unfolding digits
returns-in-3-clause-words c = sym (ap (λ n. line_rest (codes "ran" ∷ decimal n ∷ [])) c.in-3.is)

pub returns-in-4-clause-words : goal.returns-in-4-clause-words
unfolding digits
returns-in-4-clause-words c = sym (ap (λ n. line_rest (codes "ran" ∷ decimal n ∷ [])) c.in-4.is)
