-- The certificate at a place of those that are kept, and its reasons.
use Rattle.std.proofs.Common.{◌≡◌, ℕ, ◌<◌, List, length, map, get_or, slice_get, Some, sym, ap, subst, ◌∙◌, arith}
use Rattle.std.proofs.lemmas.List.{length-map}
use Rattle.lp_definitions.specs.declared.cert.Claim.{Claim}
use Rattle.lp_definitions.specs.declared.cert.Cert.{Cert}
use Rattle.lp_cert.specs.declared.head.Waiter.{Waiter}
use Rattle.lp_cert.specs.declared.reason.Reason.{Reason}
use Rattle.lp_cert.specs.Waiters.{kept_cert}
use Rattle.lp_cert.specs.inside.Heads.{IsHead}
use Rattle.lp_cert.specs.inside.Waiters.{AreHeads}
use Rattle.lp_cert.proofs.Listed.{mapped_at}
use Rattle.lp_cert.proofs.StillStanding.{head_at}

module _ (claim : Claim) (leg upto : ℕ) (lists : List (List Reason)) (scans : List ℕ) (waiters : List Waiter) (certs : List Cert)
    (is : map (kept_cert claim leg upto lists scans) waiters ≡ certs) (heads : AreHeads lists (length scans) waiters)
    (place : ℕ) (waiter : Waiter) (within : place < length certs) (here : waiter ≡ get_or waiters place waiter) where
  pub cert_at : slice_get certs place ≡ Some (kept_cert claim leg upto lists scans waiter)
  cert_at =
      subst (λ (cs : List Cert). slice_get cs place ≡ Some (kept_cert claim leg upto lists scans waiter)) is
      (mapped_at (kept_cert claim leg upto lists scans) waiters place waiter (subst (λ (cs : List Cert). place < length cs) (sym is) within) here)

  pub known_at : IsHead lists (length scans) waiter.head
  known_at =
      let all = sym (ap length is) ∙ length-map waiters (kept_cert claim leg upto lists scans) in
      head_at lists (length scans) waiters place waiter heads (omega (arith, within, all)) here

  pub is_at : (cert : Cert) → slice_get certs place ≡ Some cert → kept_cert claim leg upto lists scans waiter ≡ cert
  is_at cert found = let both = sym cert_at ∙ found in cc
