use Rattle.std.proofs.Common.{rules, ◌≡◌, ap, sym, ◌∙◌, arith}
use Rattle.std.proofs.lemmas.Grind.{common_steps}
use Rattle.lp_board.specs.Words.{all_shown, shown_word}
use Rattle.lp_board.specs.Names.{state_after}
use Rattle.lp_board.specs.Pages.{shown_at}
use Rattle.lp_board.specs.inside.Publishers.{page_of}
use Rattle.lp_board.proofs.PageLemmas.{all_shown-page}
use Rattle.lp_board.proofs.reader.read_sheet.Goals as goal

pub returns-in-Ok-clause-shown : goal.returns-in-Ok-clause-shown
returns-in-Ok-clause-shown g c =
    let page = page_of c.args.sheet.now in
    let name = g.N.DeskName.desk in
    let listed : c.in-Ok.tasks.items ≡ all_shown (shown_at page) = search rules in
    listed ∙ all_shown-page page (state_after name page.events) c.requires ∙ ap (λ es. all_shown (shown_word (state_after name es))) (sym c.again.ensures)

pub returns-in-Ok-clause-later : goal.returns-in-Ok-clause-later
returns-in-Ok-clause-later g c = grind (arith, common_steps)
