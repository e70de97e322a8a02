use Rattle.std.proofs.Common.{◌≡◌, Option, sym, ◌∙◌, arith}
use Rattle.std.proofs.lemmas.Grind.{common_steps}
use Rattle.std.proofs.lemmas.Result.{IfOk-weaker}
use Rattle.lp_definitions.specs.Tasks.{first_of}
use Rattle.lp_definitions.specs.declared.cert_fault.CertFault.{CertFault}
use Rattle.lp_checker.specs.Folds.{leg_with}
use Rattle.lp_checker.specs.inside.Stages.{later_tests}
use Rattle.lp_definitions.specs.Judgement.{cert_fault}
use Rattle.lp_checker.proofs.Stages.{at_no_leg, past_no_leg}
use Rattle.lp_checker.proofs.judge.fault_of.Goals as goal

pub returns-then-is_no_leg-clause-fault : goal.returns-then-is_no_leg-clause-fault
returns-then-is_no_leg-clause-fault g c = sym (at_no_leg g.M.Consistency.rules c.args.opening.now c.args.events.now c.args.claim c.args.cert.now (sym c.if-is_no_leg.ensures))

pub returns-clause-fault : goal.returns-clause-fault
returns-clause-fault g c =
    let model = g.M.Consistency.rules in
    let range = c.in_ok-cursor.cursor.range in
    let lines = c.as_slice.result.now in
    let same = past_no_leg model c.args.opening.now c.args.events.now c.args.claim c.args.cert.now _ range lines (sym c.if-is_no_leg.ensures) (omega (arith, c.saturating_sub-last.ensures, c.number.ensures.value)) c.in_ok-cursor.ensures c.as_slice.ensures in
    IfOk-weaker c.later_fault.result (λ (fault : Option CertFault). fault ≡ first_of (later_tests model range c.args.cert.now.group.0 lines)) (λ fault. fault ≡ cert_fault model (leg_with c.args.opening.now c.args.events.now) c.args.claim c.args.cert.now) (λ fault e. e ∙ same) c.later_fault.ensures

pub open-requires-clause-room : goal.open-requires-clause-room
open-requires-clause-room g c = grind (arith, common_steps)

pub open-requires-clause-within : goal.open-requires-clause-within
open-requires-clause-within g c = grind (arith, common_steps)
