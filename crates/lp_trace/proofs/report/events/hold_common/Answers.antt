use Rattle.std.proofs.Common.{◌++◌, ◌∷◌, [], ◌∙◌, ap, sym, decimal, List, ℕ}
use Rattle.lp_replay.specs.Replies.{what_of}
use Rattle.lp_text.specs.inside.Writing.{line_rest}
use Rattle.lp_text.proofs.Writing.{line_split}
use Rattle.lp_trace.specs.Report.{complete_words, what_words}
use Rattle.lp_trace.proofs.Rests.{rest_for}
use Rattle.lp_trace.proofs.report.events.hold_common.Goals as goal

pub hold_short-requires : goal.hold_short-requires
hold_short-requires c =
    (rest_for c.requires.0 c.args.rests.now c.from-code.result c.code.result c.args.reply.now c.in-Some.rest c.if-code-ge-CODES.false c.in-Some.is c.from-code.ensures c.code.ensures c.requires.1).size

pub returns-in-Some-clause-taken : goal.returns-in-Some-clause-taken
returns-in-Some-clause-taken c = λ held form are number same groups.
    let before : List ℕ = c.args.held.now.items in
    let rest = rest_for form c.args.rests.now c.from-code.result c.code.result c.args.reply.now c.in-Some.rest c.if-code-ge-CODES.false c.in-Some.is c.from-code.ensures c.code.ensures are in
    let words : List (List ℕ) = what_words form (what_of c.args.reply.now.what (groups ∷ [])) ++ complete_words c.args.reply.now.completed in
    c.hold_short.ensures.taken held
    ∙ ap (λ l. before ++ (decimal c.args.event.now ++ l)) (rest.words (groups ∷ []))
    ∙ ap (λ (n : ℕ). before ++ (decimal n ++ line_rest words)) same
    ∙ ap (λ l. before ++ l) (sym (line_split (decimal number) words))

pub returns-in-Some-clause-plain : goal.returns-in-Some-clause-plain
returns-in-Some-clause-plain c = λ held form are.
    (rest_for form c.args.rests.now c.from-code.result c.code.result c.args.reply.now c.in-Some.rest c.if-code-ge-CODES.false c.in-Some.is c.from-code.ensures c.code.ensures are).plain
