use Rattle.std.proofs.Common.{◌≡◌, ◌∙◌, ◌⊎◌, [], None, Some, IfOk, MatchResult, ap, subst}
use Rattle.lp_definitions.specs.Leg.{Leg}
use Rattle.lp_definitions.specs.Run.{Run, leg_of}
use Rattle.lp_machine.specs.Steps.{StandsIn}
use Rattle.lp_machine.specs.Table.{Engine, no_scan, state_in}
use Rattle.lp_checker.specs.Folds.{leg_with}
use Rattle.lp_definitions.specs.Holds.{Holds}
use Rattle.lp_definitions.specs.Judgement.{cert_fault}
use Rattle.lp_definitions.specs.declared.cert_fault.CertFault.{CertFault}
use Rattle.lp_definitions.specs.declared.cert_fault.CertFault.TheVariants.{NoMemory}
use Rattle.livepatch.specs.Simulated.{Simulated, run_with}
use Rattle.livepatch.proofs.Keeping.{leg_here, opens_here}
use Rattle.livepatch.proofs.simulator.Simulator.check_here.Goals as goal

pub returns-clause-answer : goal.returns-clause-answer
returns-clause-answer g c =
    let model = g.M.Consistency.rules in
    let old = c.self.inside in
    let run : Run = c.args.self.now.run in
    let there : run_with old.patches old.boots.items old.events.items ≡ run = ap (λ (s : Simulated). s.run) c.self.view_is in
    let stands : StandsIn model run (state_in old.explained.core) = subst (λ (r : Run). StandsIn model r (state_in old.explained.core)) there c.self.invariant.stands in
    let same : c.in_ok-opening.opening ≡ record old.explained.core { blames = []; last_scan = no_scan } = c.in_ok-opening.ensures.same ∙ ap (λ (e : Engine). record e { blames = []; last_scan = no_scan }) c.core-core.ensures in
    let leg : leg_with c.in_ok-opening.opening [] ≡ leg_of model run = leg_here model run c.in_ok-opening.opening c.requires (opens_here model run old.explained.core c.in_ok-opening.opening stands c.requires same) in
    subst (λ (l : Leg). MatchResult c.check_by.result (λ _. cert_fault model l c.args.cert.now.claim c.args.cert.now ≡ None) (λ (fault : CertFault). fault ≡ NoMemory ⊎ cert_fault model l c.args.cert.now.claim c.args.cert.now ≡ Some fault)) leg c.check_by.ensures.answer

pub returns-clause-sound : goal.returns-clause-sound
returns-clause-sound g c =
    let model = g.M.Consistency.rules in
    let old = c.self.inside in
    let run : Run = c.args.self.now.run in
    let there : run_with old.patches old.boots.items old.events.items ≡ run = ap (λ (s : Simulated). s.run) c.self.view_is in
    let stands : StandsIn model run (state_in old.explained.core) = subst (λ (r : Run). StandsIn model r (state_in old.explained.core)) there c.self.invariant.stands in
    let same : c.in_ok-opening.opening ≡ record old.explained.core { blames = []; last_scan = no_scan } = c.in_ok-opening.ensures.same ∙ ap (λ (e : Engine). record e { blames = []; last_scan = no_scan }) c.core-core.ensures in
    let leg : leg_with c.in_ok-opening.opening [] ≡ leg_of model run = leg_here model run c.in_ok-opening.opening c.requires (opens_here model run old.explained.core c.in_ok-opening.opening stands c.requires same) in
    subst (λ (l : Leg). IfOk c.check_by.result (λ _. Holds model l c.args.cert.now)) leg c.check_by.ensures.sound
