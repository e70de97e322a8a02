use Rattle.std.proofs.Common.{subst}
use Rattle.lp_definitions.specs.Run.{plus}
use Rattle.lp_transition.specs.Weigh.{HasBlamesAfter, HasToldBlamesAfter}
use Rattle.lp_cert.specs.Ends.{IsMadeWith}
use Rattle.lp_cert.proofs.Explaining.{made_same}
use Rattle.lp_cert.proofs.maker.Maker.take_weighed.Goals as goal

pub returns-in-Ok-ready-clause-blames : goal.returns-in-Ok-ready-clause-blames
returns-in-Ok-ready-clause-blames g c =
    subst (λ event. HasBlamesAfter g.M.Consistency.rules c.args.core.now event c.take.new.self) c.in-Ok.ensures.event
    (record { verdicts = c.in-Ok.step.verdicts; enough = c.in-Ok.ensures.weighed.verdicts; blames = c.take.ensures.blames })

pub returns-in-Ok-ready-clause-made : goal.returns-in-Ok-ready-clause-made
returns-in-Ok-ready-clause-made g c = λ run stands is.
    let model = g.M.Consistency.rules in
    let e = c.args.core.now in
    let weighed = c.in-Ok.ensures.weighed in
    let blames : HasToldBlamesAfter model e c.in-Ok.step.event c.take.new.self =
    record { by = record { verdicts = c.in-Ok.step.verdicts; enough = weighed.verdicts; blames = c.take.ensures.blames }; told = weighed.told } in
    let ready = made_same model run e c.args.self.now c.ready.new.self c.ready.ensures.ended c.ready.ensures.current is in
    let made = c.note.ensures.made run c.take.new.self stands ready (c.take.ensures.step.reaches run stands) blames c.take.ensures.last_scan in
    subst (λ event. IsMadeWith model (plus run event) c.take.new.self c.note.new.self) c.in-Ok.ensures.event made
