use Rattle.std.proofs.Common.{◌≡◌, ◌++◌, [], ◌∷◌, map, ap, ◌∙◌, append_assoc}
use Rattle.std.proofs.lemmas.List.{append-nil}
use Rattle.lp_board.specs.Pages.{shown_by}
use Rattle.lp_board.proofs.LiveTasks.{all_listed, entry}
use Rattle.lp_board.proofs.levels.shown_of.Goals as goal

pub loop-number-preserved : goal.loop-number-preserved
loop-number-preserved c =
    let shown = c.shown_by.ensures ∙ ap (shown_by c.args.heading) c.level_at.ensures in
    let here = rw c.in-Some.ensures.steps at c.loop-number.invariant in
    rw (c.in_ok-push.ensures.items, shown, append_assoc) here

pub returns : goal.returns
returns c =
    let whole = rw (c.in-None.ensures.steps.0, append-nil) at c.loop-number.invariant in
    whole ∙ all_listed c.args.live.now c.args.levels.now c.args.heading c.requires
