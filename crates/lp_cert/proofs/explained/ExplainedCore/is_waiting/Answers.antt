use Rattle.std.proofs.Common.{◌∙◌, ap, is_some}
use Rattle.lp_cert.specs.Ends.{waiting_in}
use Rattle.lp_cert.specs.Explained.{Explained}
use Rattle.lp_cert.proofs.Explaining.{waits_upto}
use Rattle.lp_cert.proofs.explained.ExplainedCore.is_waiting.Goals as goal

pub returns : goal.returns
returns g c =
    let i = c.self.inside in
    c.is_waiting.ensures ∙ (waits_upto i.core.value.number c.args.group.0 i.maker.current ∙ ap (λ (e : Explained). is_some (waiting_in e.current c.args.group.0)) c.self.view_is)
