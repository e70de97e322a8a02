use Rattle.std.proofs.Common.{◌≡◌, ◌∙◌, ◌∷◌, ◌++◌, ◌-◌, [], List, length, take, sym, ap, subst}
use Rattle.lp_definitions.specs.declared.event.Event.{Event}
use Rattle.lp_definitions.specs.Run.{Run, leg_of, reply}
use Rattle.lp_cert.specs.Explained.{Explained}
use Rattle.livepatch.specs.Simulated.{IsKept, Simulated, run_with}
use Rattle.livepatch.proofs.Keeping.{kept_after, taken_back}
use Rattle.livepatch.proofs.simulator.Simulator.step.Goals as goal

pub invariant_of-self : goal.invariant_of-self
invariant_of-self g c =
    let model = g.M.Consistency.rules in
    let old = c.self.inside in
    subst (λ (es : List Event). IsKept model (run_with old.patches old.boots.items es) old.explained c.ready.new.opening) (sym c.ready.ensures.items)
    (c.ready.ensures.kept (run_with old.patches old.boots.items old.events.items) old.explained (sym c.core.ensures) c.self.invariant)

pub invariant_of-self-in-Ok : goal.invariant_of-self-in-Ok
invariant_of-self-in-Ok g c =
    let model = g.M.Consistency.rules in
    let old = c.self.inside in
    let run : Run = run_with old.patches old.boots.items old.events.items in
    let items : c.push_reserved.new.self.items ≡ old.events.items ++ c.args.event ∷ [] = c.push_reserved.ensures.items ∙ ap (λ (es : List Event). es ++ c.args.event ∷ []) c.ready.ensures.items in
    subst (λ (es : List Event). IsKept model (run_with old.patches old.boots.items es) c.step.new.self c.give_up_opening.new.opening) (sym items)
    (kept_after model run c.args.event old.explained c.step.new.self c.in-Ok.reply c.in-Ok.ensures.step (c.in-Ok.ensures.explained run) c.ready.new.opening c.give_up_opening.new.opening c.in_ok-ready.ensures.some (c.ready.ensures.kept run old.explained (sym c.core.ensures) c.self.invariant) c.give_up_opening.ensures.opened c.give_up_opening.ensures.other)

-- the event is out of the journal again
pub invariant_of-self-in-Err : goal.invariant_of-self-in-Err
invariant_of-self-in-Err g c =
    let model = g.M.Consistency.rules in
    let old = c.self.inside in
    let run : Run = run_with old.patches old.boots.items old.events.items in
    let items : c.push_reserved.new.self.items ≡ old.events.items ++ c.args.event ∷ [] = c.push_reserved.ensures.items ∙ ap (λ (es : List Event). es ++ c.args.event ∷ []) c.ready.ensures.items in
    let back : c.take_back.new.events.items ≡ old.events.items = c.take_back.ensures ∙ (ap (λ (es : List Event). take (length es - 1) es) items ∙ taken_back old.events.items c.args.event) in
    subst (λ (es : List Event). IsKept model (run_with old.patches old.boots.items es) c.step.new.self c.ready.new.opening) (sym back)
    (subst (λ (e : Explained). IsKept model run e c.ready.new.opening) (sym c.in-Err.ensures.unchanged)
    (c.ready.ensures.kept run old.explained (sym c.core.ensures) c.self.invariant))

pub returns-in-Ok-clause-reply : goal.returns-in-Ok-clause-reply
returns-in-Ok-clause-reply g c =
    let model = g.M.Consistency.rules in
    let old = c.self.inside in
    c.in-Ok.ensures.step.replies (run_with old.patches old.boots.items old.events.items) c.self.invariant.stands
    ∙ ap (λ (s : Simulated). reply model (leg_of model s.run) c.args.event) c.self.view_is
