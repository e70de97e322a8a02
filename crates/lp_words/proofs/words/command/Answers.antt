-- The program's command line is the definition's.
use Rattle.std.proofs.Common.{ap, codes, ◌≡◌, ◌∙◌}
use Rattle.std.proofs.lemmas.Result.{IfOk-weaker}
use Rattle.clap.specs.Words.{App, app_of, new_app, with_subcommand}
use Rattle.lp_words.specs.Asked.{comparing, lpt, subcommand}
use Rattle.lp_words.proofs.words.command.Goals as goal

pub returns : goal.returns
returns c =
    let with : App → App → App = λ app sub. with_subcommand app sub.top in
    let one : app_of c.in_ok-lpt.lpt ≡ with (new_app (codes "lpt")) (subcommand (codes "run")) =
    c.in_ok-lpt.ensures ∙ ap (λ app. with app (subcommand (codes "run"))) c.new-lpt.ensures.app in
    let two : app_of c.in_ok-lpt-2.lpt ≡ with (with (new_app (codes "lpt")) (subcommand (codes "run"))) (subcommand (codes "check")) =
    c.in_ok-lpt-2.ensures ∙ ap (λ app. with app (subcommand (codes "check"))) one in
    let three : app_of c.in_ok-lpt-3.lpt ≡ with (with (with (new_app (codes "lpt")) (subcommand (codes "run"))) (subcommand (codes "check"))) (subcommand (codes "threads")) =
    c.in_ok-lpt-3.ensures ∙ ap (λ app. with app (subcommand (codes "threads"))) two in
    IfOk-weaker c.subcommand.result _ _
    (λ command added. c.in_ok-comparing.ensures _ _ added ∙ ap (λ app. with app comparing) three)
    c.subcommand.ensures
