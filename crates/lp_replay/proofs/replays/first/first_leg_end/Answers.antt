use Rattle.std.proofs.Common.{◌≡◌, arith, ap, length, subst, sym, List, refl, ◌∙◌}
use Rattle.std.specs.Prelude.{option_to_list, slice_get}
use Rattle.lp_definitions.specs.declared.event.Event.{Event}
use Rattle.lp_definitions.specs.Run.{first_leg}
use Rattle.lp_definitions.specs.Ends.{LegEnd}
use Rattle.lp_cert.specs.Explained.{IsExplained, made_in}
use Rattle.lp_cert.proofs.Explaining.{explained_first}
use Rattle.lp_definitions.specs.Outcome.{leg_ends}
use Rattle.lp_replay.specs.Outcome.{run_of}
use Rattle.lp_replay.specs.inside.Recording.{first_made}
use Rattle.lp_replay.proofs.Recording.{ok_weaker}
use Rattle.lp_replay.proofs.replays.first.first_leg_end.Goals as goal

pub take_first_leg-requires : goal.take_first_leg-requires
take_first_leg-requires g c =
    let model = g.M.Consistency.rules in
    let run = run_of c.args.trace.now in
    let first : IsExplained model run c.in_ok-explained.explained = subst (IsExplained model run) (sym c.in_ok-explained.ensures) (explained_first model run c.in_ok-core.core.value refl c.in_ok-core.ensures.stands c.in_ok-core.ensures.unscanned c.in_ok-core.ensures.blameless) in
    (run, first, omega (arith, ap length c.events.ensures.value, c.events.ensures.limits.events_few))

pub returns : goal.returns
returns g c =
    let model = g.M.Consistency.rules in
    let trace = c.args.trace.now in
    let run = run_of trace in
    let made = made_in c.take_first_leg.new.explained in
    let first : IsExplained model run c.in_ok-explained.explained = subst (IsExplained model run) (sym c.in_ok-explained.ensures) (explained_first model run c.in_ok-core.core.value refl c.in_ok-core.ensures.stands c.in_ok-core.ensures.unscanned c.in_ok-core.ensures.blameless) in
    let told : first_made made ≡ slice_get (leg_ends model (first_leg model run) trace.events) 0 =
    subst (λ (events : List Event). first_made made ≡ slice_get (leg_ends model (first_leg model run) events) 0) c.events.ensures.value (c.in_ok-take_first_leg.ensures run first) in
    ok_weaker (λ (found : List LegEnd). found ≡ option_to_list (first_made made)) (λ (found : List LegEnd). found ≡ option_to_list (slice_get (leg_ends model (first_leg model run) trace.events) 0)) (λ found h. h ∙ ap option_to_list told) c.first_of.result c.first_of.ensures
