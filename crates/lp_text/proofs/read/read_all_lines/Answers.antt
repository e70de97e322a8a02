use Rattle.std.proofs.Common.{◌≡◌, ◌∷◌, ◌∙◌, Err, ap}
use Rattle.std.specs.Prelude.{option_copied}
use Rattle.lp_text.specs.inside.Cut.{parts_left}
use Rattle.lp_text.specs.Reading.{reading_from, reading_lines}
use Rattle.lp_text.specs.Words.{lines, parts}
use Rattle.lp_text.proofs.Early.{begins_early, none_early}
use Rattle.lp_text.proofs.OnLines.{begins_err, begins_ok}
use Rattle.lp_text.proofs.read.read_all_lines.Goals as goal

pub returns-in-Err-clause-exact : goal.returns-in-Err-clause-exact
returns-in-Err-clause-exact c =
    let line = c.cut.result.0.now in
    let cut : parts 10 c.args.text.now ≡ line ∷ parts 10 c.in-Some.rest.now = c.cut.ensures.parts ∙ ap (λ left. line ∷ parts_left 10 (option_copied left)) c.in-Some.is in
    begins_err c.args.text.now line c.in-Some.rest.now cut c.in-Err.fault c.in-Err.ensures.form

pub returns-in-Ok-clause-exact : goal.returns-in-Ok-clause-exact
returns-in-Ok-clause-exact c =
    let line = c.cut.result.0.now in
    let cut : parts 10 c.args.text.now ≡ line ∷ parts 10 c.in-Some.rest.now = c.cut.ensures.parts ∙ ap (λ left. line ∷ parts_left 10 (option_copied left)) c.in-Some.is in
    let begins : reading_lines (lines c.args.text.now) ≡ reading_from 2 c.in-Ok.parser (lines c.in-Some.rest.now) = begins_ok c.args.text.now line c.in-Some.rest.now cut c.in-Ok.parser c.in-Ok.ensures.form c.in-Ok.ensures.empty in
    rw begins c.read_lines.ensures

pub returns-in-Err-clause-early : goal.returns-in-Err-clause-early
returns-in-Err-clause-early c =
    let line = c.cut.result.0.now in
    let cut : parts 10 c.args.text.now ≡ line ∷ parts 10 c.in-Some.rest.now = c.cut.ensures.parts ∙ ap (λ left. line ∷ parts_left 10 (option_copied left)) c.in-Some.is in
    begins_early c.args.text.now line c.in-Some.rest.now cut (Err c.in-Err.fault) c.in-Err.ensures.early

pub returns-in-Ok-clause-early : goal.returns-in-Ok-clause-early
returns-in-Ok-clause-early c =
    let line = c.cut.result.0.now in
    let cut : parts 10 c.args.text.now ≡ line ∷ parts 10 c.in-Some.rest.now = c.cut.ensures.parts ∙ ap (λ left. line ∷ parts_left 10 (option_copied left)) c.in-Some.is in
    none_early (reading_lines (lines c.args.text.now)) c.in-Ok.parser (lines c.in-Some.rest.now) c.read_lines.result (begins_ok c.args.text.now line c.in-Some.rest.now cut c.in-Ok.parser c.in-Ok.ensures.form c.in-Ok.ensures.empty)
