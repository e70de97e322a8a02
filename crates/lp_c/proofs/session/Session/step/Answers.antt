use Rattle.std.proofs.Common.{◌∙◌, ap}
use Rattle.lp_c.specs.Codes.{told_of}
use Rattle.lp_c.specs.Held.{Held, reply_to}
use Rattle.lp_c.proofs.session.Session.step.Goals as goal

pub returns-then-is_some-clause-told : goal.returns-then-is_some-clause-told
returns-then-is_some-clause-told c =
    c.told_of-told.ensures ∙ ap told_of (c.in_ok-reply.ensures.reply ∙ ap (λ (h : Held). reply_to h c.args.event) c.self.view_is)

pub returns-else-is_some-clause-told : goal.returns-else-is_some-clause-told
returns-else-is_some-clause-told c =
    c.told_of-told.ensures ∙ ap told_of (c.in_ok-reply.ensures.reply ∙ ap (λ (h : Held). reply_to h c.args.event) c.self.view_is)
