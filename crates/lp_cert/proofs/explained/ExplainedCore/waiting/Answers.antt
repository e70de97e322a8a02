use Rattle.std.proofs.Common.{◌∙◌, ap, ap₂}
use Rattle.std.specs.Option.{option_map}
use Rattle.lp_machine.specs.Table.{Engine}
use Rattle.lp_cert.specs.Ends.{cert_upto, waiting_in}
use Rattle.lp_cert.specs.Explained.{Explained}
use Rattle.lp_cert.proofs.Explaining.{waiting_upto}
use Rattle.lp_cert.proofs.explained.ExplainedCore.waiting.Goals as goal

pub returns : goal.returns
returns g c =
    let i = c.self.inside in
    c.up_to.ensures
    ∙ (ap₂ (λ n o. option_map (cert_upto n) o) (c.events.ensures.value ∙ ap (λ (e : Engine). e.number) c.deref.ensures) c.in_ok-found.ensures
    ∙ (waiting_upto i.core.value.number c.args.group.0 i.maker.current ∙ ap (λ (e : Explained). waiting_in e.current c.args.group.0) c.self.view_is))
