use Rattle.std.proofs.Common.{◌<◌, sym, ap, ◌∙◌, arith}
use Rattle.std.specs.Option.{option_map}
use Rattle.lp_cert.specs.Ends.{waiting_in}
use Rattle.lp_cert.specs.Invariant.{open_end}
use Rattle.lp_cert.proofs.Asked.{waiting_asked, not_some}
use Rattle.lp_cert.proofs.Keeping.{ok_weaker}
use Rattle.lp_cert.proofs.maker.Maker.waiting.Goals as goal

pub returns : goal.returns
returns c =
    let i = c.self.inside in
    let few : c.args.group.0 < 65536 = omega arith in
    let unended = not_some c.in-Some.leg.completed (sym c.is_some.ensures ∙ c.if-is_some.false) in
    let asked = waiting_asked i.noted i.waiters c.in-Some.leg c.args.group unended few ∙ ap (λ o. waiting_in (option_map (open_end i.noted i.waiters) o) c.args.group.0) (sym c.in-Some.is) in
    rw (← c.self.view_is) (ok_weaker _ _ (λ found is. is ∙ asked) c.cert_of.result c.cert_of.ensures)
