use Rattle.std.proofs.Common.{◌≡◌, Some, Err, arith, ap, inr, sym, ◌∙◌}
use Rattle.lp_definitions.specs.declared.cert_fault.CertFault.{CertFault}
use Rattle.lp_checker.specs.Folds.{leg_with}
use Rattle.lp_laws.proofs.CertLawProofs.{holds}
use Rattle.lp_checker.proofs.NoLeg.{found_by_first}
use Rattle.lp_checker.proofs.judge.judge.Goals as goal

same : (fault other : CertFault) → Some fault ≡ Some other → fault ≡ other
same fault other h = cc h

pub returns-in-None-clause-sound : goal.returns-in-None-clause-sound
returns-in-None-clause-sound g c =
    holds g.M.Consistency.rules g.met.M.Consistency.lawful (leg_with c.args.opening.now c.args.events.now) c.number.ensures.opening.sound c.args.claim c.args.cert.now (sym c.in_ok-fault_of.ensures.fault ∙ c.in-None.is)

pub returns-in-Some-clause-answer : goal.returns-in-Some-clause-answer
returns-in-Some-clause-answer g c = inr (sym c.in_ok-fault_of.ensures.fault ∙ c.in-Some.is)

pub returns-in-Some-clause-early : goal.returns-in-Some-clause-early
returns-in-Some-clause-early g c = λ early. ap Err (same _ _ (sym c.in-Some.is ∙ (c.in_ok-fault_of.ensures.fault ∙ early)))

pub returns-in_err-fault_of-clause-early : goal.returns-in_err-fault_of-clause-early
returns-in_err-fault_of-clause-early g c = grind (arith, found_by_first)
