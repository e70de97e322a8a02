use Rattle.std.proofs.Common.{refl, ◌∙◌}
use Rattle.lp_board.proofs.Headings.{update-leads}
use Rattle.lp_board.proofs.sheet.Update.of.Goals as goal

pub returns : goal.returns
returns g c =
    let e = c.args.core.now in
    let step = c.args.step.now in
    update-leads g.M.Consistency.rules g.met.M.Consistency.lawful e c.events.ensures.sound c.events.ensures.wide step.verdicts step c.target.result c.args.heading refl c.target.ensures c.requires.weighed c.requires.heading
    c.in_ok-levels.levels.items c.heading_by-heading.result _ (c.in_ok-levels.ensures ∙ rw (c.event.ensures, c.reply-reply.ensures, c.verdicts.ensures) refl) (c.heading_by-heading.ensures ∙ rw (c.event-2.ensures, c.reply-reply.ensures) refl) refl refl
