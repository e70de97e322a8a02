-- Accepted certificates hold.
use Rattle.std.proofs.Common.{◌≡◌, ℕ, ◌≤◌, None, IsTrue, IsFalse, subst, arith}
use Rattle.std.proofs.lemmas.Bool.{false_from_ne_true}
use Rattle.lp_model.specs.Rules.{Rules, IsLawful}
use Rattle.lp_definitions.specs.Leg.{Leg}
use Rattle.lp_definitions.specs.Schedule.{Schedule, waits, complete, IsLegal}
use Rattle.lp_definitions.specs.Sound.{IsSound}
use Rattle.lp_laws.proofs.Waiting.{waits-is, complete-is, complete_later}
use Rattle.lp_laws.proofs.Certified.{certified}
use Rattle.lp_definitions.specs.declared.cert.Cert.{Cert}
use Rattle.lp_definitions.specs.declared.cert.Claim.{Claim}
use Rattle.lp_definitions.specs.Judgement.{moment_of, cert_fault}
use Rattle.lp_definitions.specs.Holds.{Holds}
use Rattle.lp_laws.specs.CertLaws.{TrustsCertificates}
use Rattle.lp_laws.proofs.Accepted.{told}

module _ (model : Rules) (lawful : IsLawful model) (leg : Leg) (sound : IsSound leg.opening) (claim : Claim) (cert : Cert) (accepted : cert_fault model leg claim cert ≡ None) where
  abbrev last : ℕ
  last = moment_of model leg cert.upto

  waits_last : (schedule : Schedule) → IsLegal model leg schedule → IsTrue (waits model leg schedule last cert.group.0)
  waits_last schedule is_legal =
      let h = told model leg lawful sound claim cert accepted in
      certified model leg lawful sound schedule is_legal last cert.group.0 h.someone.task h.someone.life h.chain h.someone.live h.someone.is

  not_complete : (schedule : Schedule) → IsLegal model leg schedule → (k : ℕ) → k ≤ last → IsFalse (complete model leg schedule k)
  not_complete schedule is_legal k le =
      false_from_ne_true _ (λ done.
      let w = waits-is model leg schedule last cert.group.0 (waits_last schedule is_legal) in
      w.off (complete-is model leg schedule last (complete_later model leg lawful sound schedule k last le done) w.task w.life w.positive w.within w.live))

  pub holds : Holds model leg cert
  holds =
      let h = told model leg lawful sound claim cert accepted in
      record {
        begun = h.begun;
        there = h.there;
        waits = λ schedule is_legal k at.
            let same : last ≡ k = omega (arith, at) in
            subst (λ n. IsTrue (waits model leg schedule n cert.group.0)) same (waits_last schedule is_legal);
        floor = λ schedule is_legal k le. not_complete schedule is_legal k (omega (arith, le));
      }

pub trusts_certificates : (model : Rules) → IsLawful model → TrustsCertificates model
trusts_certificates model lawful =
    record { holds = λ leg sound claim cert accepted. holds model lawful leg sound claim cert accepted }
