use Rattle.std.proofs.Common.{arith, ◌≡◌, ◌≤◌, ◌-◌, ◌∙◌, sym, ap, ap₂, List, take, drop, length}
use Rattle.std.proofs.lemmas.Result.{IfOk-weaker}
use Rattle.lp_definitions.specs.declared.event.Event.{Event}
use Rattle.lp_definitions.specs.Run.{leg_of}
use Rattle.lp_replay.specs.Legs.{leg_numbered, opened_by}
use Rattle.lp_replay.specs.Outcome.{run_of}
use Rattle.lp_replay.proofs.Legs.{longer, nowhere, too_late, numbered_at}
use Rattle.lp_replay.proofs.replays.leg.leg_numbered.Goals.{then-number-eq0-via-then-number-eq0, then-number-eq0-via-else-number-eq0+then-number-events}
use Rattle.lp_replay.proofs.replays.leg.leg_numbered.Goals as goal

pub returns-then-number-eq0 : goal.returns-then-number-eq0
returns-then-number-eq0 g c =
    let model = g.M.Consistency.rules in
    let all : c.events-events.result.now ≡ c.args.trace.now.events = c.events-events.ensures.value in
    elim c.then-number-eq0.branch [ then-number-eq0-via-then-number-eq0 w ↦ nowhere model c.args.trace.now c.args.number w.if-number-eq0.true | then-number-eq0-via-else-number-eq0+then-number-events w ↦ too_late model c.args.trace.now c.args.number (omega (arith, w.if-number-events.true, ap length all)) ]

pub opened_after-requires : goal.opened_after-requires
opened_after-requires g c =
    let few : length c.events-events.result.now ≤ 1000000 = omega (arith, ap length c.events-events.ensures.value, c.events-events.ensures.limits.events_few) in
    (run_of c.args.trace.now, rw c.deref_mut.ensures.value c.in_ok-core.ensures.stands, omega (arith, few, c.split_at.ensures.front_len, c.split_at.ensures.back_len))

pub returns : goal.returns
returns g c =
    let model = g.M.Consistency.rules in
    let trace = c.args.trace.now in
    let all : c.events-events.result.now ≡ trace.events = c.events-events.ensures.value in
    let first : c.split_at.result.0.now ≡ take (c.args.number - 1) trace.events = c.split_at.ensures.front ∙ ap (take (c.args.number - 1)) all in
    let last : c.split_at.result.1.now ≡ drop (c.args.number - 1) trace.events = c.split_at.ensures.back ∙ ap (drop (c.args.number - 1)) all in
    let numbered : opened_by model (leg_of model (longer (run_of trace) c.split_at.result.0.now)) c.split_at.result.1.now ≡ leg_numbered model trace c.args.number =
    ap₂ (λ (before after : List Event). opened_by model (leg_of model (longer (run_of trace) before)) after) first last
    ∙ sym (numbered_at model trace c.args.number (c.args.number - 1) (omega arith)) in
    IfOk-weaker c.opened_after.result _ _ (λ found h. h (run_of trace) (rw c.deref_mut.ensures.value c.in_ok-core.ensures.stands) ∙ numbered) c.opened_after.ensures
