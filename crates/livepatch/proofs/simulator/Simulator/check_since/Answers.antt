use Rattle.std.proofs.Common.{◌≡◌, ◌∙◌, ◌⊎◌, List, drop, length, None, Some, IfOk, MatchResult, sym, ap, subst, arith}
use Rattle.lp_definitions.specs.declared.event.Event.{Event}
use Rattle.lp_definitions.specs.Leg.{Leg}
use Rattle.lp_definitions.specs.Run.{Run, leg_of}
use Rattle.lp_machine.specs.Table.{state_in}
use Rattle.lp_checker.specs.Folds.{leg_with}
use Rattle.lp_definitions.specs.Holds.{Holds}
use Rattle.lp_definitions.specs.Judgement.{cert_fault}
use Rattle.lp_definitions.specs.declared.cert_fault.CertFault.{CertFault}
use Rattle.lp_definitions.specs.declared.cert_fault.CertFault.TheVariants.{NoMemory}
use Rattle.livepatch.specs.Simulated.{Simulated, run_with}
use Rattle.livepatch.proofs.Keeping.{leg_is, opening_within}
use Rattle.livepatch.proofs.simulator.Simulator.check_since.Goals as goal

pub since-events-requires : goal.since-events-requires
since-events-requires g c =
    let model = g.M.Consistency.rules in
    let old = c.self.inside in
    let run : Run = run_with old.patches old.boots.items old.events.items in
    let there : run ≡ c.args.self.now.run = ap (λ (s : Simulated). s.run) c.self.view_is in
    let opening : state_in c.args.opening.now ≡ (leg_of model run).opening = c.requires ∙ sym (ap (λ (r : Run). (leg_of model r).opening) there) in
    omega (arith, opening_within model run old.explained old.opening c.args.opening.now c.self.invariant opening, ap (λ (es : List Event). length es) c.as_slice.ensures.value)

pub returns-clause-answer : goal.returns-clause-answer
returns-clause-answer g c =
    let model = g.M.Consistency.rules in
    let old = c.self.inside in
    let run : Run = run_with old.patches old.boots.items old.events.items in
    let there : run ≡ c.args.self.now.run = ap (λ (s : Simulated). s.run) c.self.view_is in
    let opening : state_in c.args.opening.now ≡ (leg_of model run).opening = c.requires ∙ sym (ap (λ (r : Run). (leg_of model r).opening) there) in
    let events : c.since-events.result.now ≡ drop c.args.opening.now.number old.events.items = c.since-events.ensures ∙ ap (λ (es : List Event). drop c.args.opening.now.number es) c.as_slice.ensures.value in
    let leg : leg_with c.args.opening.now c.since-events.result.now ≡ leg_of model c.args.self.now.run =
    ap (leg_with c.args.opening.now) events ∙ (leg_is model run old.explained old.opening c.args.opening.now c.self.invariant opening ∙ ap (leg_of model) there) in
    subst (λ (l : Leg). MatchResult c.check_by.result (λ _. cert_fault model l c.args.cert.now.claim c.args.cert.now ≡ None) (λ (fault : CertFault). fault ≡ NoMemory ⊎ cert_fault model l c.args.cert.now.claim c.args.cert.now ≡ Some fault)) leg c.check_by.ensures.answer

pub returns-clause-sound : goal.returns-clause-sound
returns-clause-sound g c =
    let model = g.M.Consistency.rules in
    let old = c.self.inside in
    let run : Run = run_with old.patches old.boots.items old.events.items in
    let there : run ≡ c.args.self.now.run = ap (λ (s : Simulated). s.run) c.self.view_is in
    let opening : state_in c.args.opening.now ≡ (leg_of model run).opening = c.requires ∙ sym (ap (λ (r : Run). (leg_of model r).opening) there) in
    let events : c.since-events.result.now ≡ drop c.args.opening.now.number old.events.items = c.since-events.ensures ∙ ap (λ (es : List Event). drop c.args.opening.now.number es) c.as_slice.ensures.value in
    let leg : leg_with c.args.opening.now c.since-events.result.now ≡ leg_of model c.args.self.now.run =
    ap (leg_with c.args.opening.now) events ∙ (leg_is model run old.explained old.opening c.args.opening.now c.self.invariant opening ∙ ap (leg_of model) there) in
    subst (λ (l : Leg). IfOk c.check_by.result (λ _. Holds model l c.args.cert.now)) leg c.check_by.ensures.sound
