use Rattle.std.proofs.Common.{None, sym, ap, ◌∙◌}
use Rattle.std.specs.Option.{option_map}
use Rattle.lp_cert.specs.Ends.{Made, passed_upto}
use Rattle.lp_cert.specs.Invariant.{open_end}
use Rattle.lp_cert.proofs.Upto.{open_upto}
use Rattle.lp_cert.proofs.maker.Maker.note_passed.Goals as goal

pub returns : goal.returns
returns g c =
    let i = c.self.inside in
    ap (λ n. let made : Made = record { ended = i.ended.ends; current = option_map (open_end n i.waiters) i.current; ready = None } in made) c.events.ensures.value
    ∙ (ap (λ current. let made : Made = record { ended = i.ended.ends; current = current; ready = None } in made) (sym (open_upto c.args.core.now.number i.noted i.waiters i.current))
    ∙ ap (passed_upto c.args.core.now.number) c.self.view_is)
