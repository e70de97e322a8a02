use Rattle.std.proofs.Common.{◌≡◌, ◌≤◌, ◌<◌, ℕ, false, arith, subst, sym, take, ◌∙◌, ◌+◌, ◌++◌, ap, List, length, get_or}
use Rattle.std.proofs.lemmas.List.{take_all}
use Rattle.lp_definitions.specs.declared.event.Event.{Event}
use Rattle.lp_definitions.specs.declared.event.Event.TheVariants.{Walk}
use Rattle.lp_definitions.specs.Events.{is_control}
use Rattle.lp_definitions.specs.Leg.{Leg}
use Rattle.lp_definitions.specs.Run.{leg_of}
use Rattle.lp_replay.proofs.Legs.{GoesOn, at_first, at_more, ends_at, ends_last, ends_opened, goes_first, goes_more, leg_first, leg_longer, longer, numbered}
use Rattle.lp_replay.proofs.replays.leg.to_end.Goals as goal

pub loop-count-init : goal.loop-count-init
loop-count-init g c = λ run stands.
    let model = g.M.Consistency.rules in (
      at_first model run c.args.events.now c.args.core.now stands,
      subst (λ (l : Leg). GoesOn model (leg_of model run) c.args.events.now 0 l) (sym (leg_first model run c.args.events.now)) (goes_first model (leg_of model run) c.args.events.now),
    )

pub returns-then-count-last-clause-leg : goal.returns-then-count-last-clause-leg
returns-then-count-last-clause-leg g c = λ run stands.
    let model = g.M.Consistency.rules in
    let leg = leg_of model run in
    let none : (k : ℕ) (d : Event) → c.loop-count.count ≤ k → k < length c.args.events.now → is_control (get_or c.args.events.now k d) ≡ false = λ k d from below. c.up_to_control-last.ensures k d (omega arith) below in
    ends_at model leg c.args.events.now c.loop-count.count _ (c.loop-count.invariant run stands).1 none
    ∙ ap (λ (es : List Event). record leg { events = leg.events ++ es }) (sym (take_all (length c.args.events.now) c.args.events.now (omega arith)))

pub step-requires : goal.step-requires
step-requires g c =
    let h = c.requires in
    numbered g.M.Consistency.rules h.0 c.args.events.now c.loop-count.count c.loop-count.core (omega arith) h.2 ((c.loop-count.invariant h.0 h.1).0)

pub returns-then-branch-clause-leg : goal.returns-then-branch-clause-leg
returns-then-branch-clause-leg g c = λ run stands.
    let model = g.M.Consistency.rules in
    let here = c.loop-count.invariant run stands in
    let said = c.in_ok-step.ensures (longer run (take c.loop-count.count c.args.events.now)) here.0 in
    ends_opened model (leg_of model run) c.args.events.now c.loop-count.count _ _ here.1 (omega arith) (sym said.0 ∙ c.if-branch.true)

pub loop-count-preserved : goal.loop-count-preserved
loop-count-preserved g c = λ run stands.
    let model = g.M.Consistency.rules in
    let here = c.loop-count.invariant run stands in
    let said = c.in_ok-step.ensures (longer run (take c.loop-count.count c.args.events.now)) here.0 in (
      at_more model run c.args.events.now c.loop-count.count _ c.step.new.core (omega arith) said.1,
      subst (λ (l : Leg). GoesOn model (leg_of model run) c.args.events.now (c.loop-count.count + 1) l) (sym (leg_longer model run c.args.events.now c.loop-count.count _ (omega arith))) (goes_more model (leg_of model run) c.args.events.now c.loop-count.count _ _ here.1 (omega arith) (sym said.0 ∙ c.if-branch.false)),
    )

pub returns-clause-leg : goal.returns-clause-leg
returns-clause-leg g c = λ run stands.
    let model = g.M.Consistency.rules in
    let here = c.loop-count.invariant run stands in
    let leg = leg_of model run in
    ends_last model leg c.args.events.now c.loop-count.count (get_or c.args.events.now 0 Walk) _ here.1 (omega arith)
    ∙ ap (λ (es : List Event). record leg { events = leg.events ++ es }) (take_all c.loop-count.count c.args.events.now (omega arith) ∙ sym (take_all (length c.args.events.now) c.args.events.now (omega arith)))
