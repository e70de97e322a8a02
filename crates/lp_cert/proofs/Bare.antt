-- Groups that wait without a line.
use Rattle.std.proofs.Common.{◌≡◌, ℕ, zero, suc, ◌<◌, List, [], ◌∷◌, length, map, reverse, slice_get, Some, refl, sym, ap, ap₂, subst, ◌∙◌, arith}
use Rattle.std.specs.List.{AllByRecursion}
use Rattle.std.specs.Option.{option_map}
use Rattle.lp_stack.specs.declared.number.GroupId.{GroupId}
use Rattle.lp_definitions.specs.declared.cert.Claim.{Claim}
use Rattle.lp_definitions.specs.declared.cert.Cert.{Cert}
use Rattle.lp_definitions.specs.declared.line.Line.{Line}
use Rattle.lp_definitions.specs.Certificates.{group_id}
use Rattle.lp_cert.specs.Waiters.{LegReasons, kept_cert, waiter_in}
use Rattle.lp_cert.specs.declared.cert_head.CommonHead.{CommonHead}
use Rattle.lp_cert.specs.inside.Bare.{bare_cert, bare_certs as certs_of}
use Rattle.lp_cert.specs.inside.Waiters.{IsBare, lines_in}

-- ---- Their certificates

module _ (claim : Claim) (leg upto : ℕ) (reasons : LegReasons) where
  abbrev kept : ℕ → Cert
  kept group = kept_cert claim leg upto reasons.lists reasons.scans (waiter_in reasons group)

  bare_kept : (group : ℕ) → lines_in reasons group ≡ [] → bare_cert claim leg upto (group_id group) ≡ kept group
  bare_kept group none = ap (λ (lines : List Line). record { claim = claim; leg = leg; group = group_id group; upto = upto; lines = reverse lines }) (sym none)

  -- of groups that wait without a line the numbers say all
  pub all_bare : (groups : List ℕ) → AllByRecursion (IsBare reasons) groups
      → map (bare_cert claim leg upto) (map group_id groups) ≡ map (kept_cert claim leg upto reasons.lists reasons.scans) (map (waiter_in reasons) groups)
  all_bare [] bare = refl
  all_bare (group ∷ groups) bare = ap₂ (λ (c : Cert) (cs : List Cert). c ∷ cs) (bare_kept group bare.0) (all_bare groups bare.1)

-- and none has a line
pub no_lines : (claim : Claim) (leg upto : ℕ) (groups : List GroupId) (k : ℕ) → k < length (map (bare_cert claim leg upto) groups)
    → option_map (λ (cert : Cert). cert.lines) (slice_get (map (bare_cert claim leg upto) groups) k) ≡ Some []
no_lines claim leg upto [] k within = absurd (omega arith)
no_lines claim leg upto (group ∷ groups) zero within = refl
no_lines claim leg upto (group ∷ groups) (suc k) within = no_lines claim leg upto groups k (omega arith)

-- of these certificates none has
pub none_has_lines : (certs : List Cert) (head : CommonHead) (groups : List GroupId) (k : ℕ) → certs ≡ certs_of head groups → k < length certs → option_map (λ (cert : Cert). cert.lines) (slice_get certs k) ≡ Some []
none_has_lines certs head groups k is within =
    ap (λ (cs : List Cert). option_map (λ (cert : Cert). cert.lines) (slice_get cs k)) is
    ∙ no_lines head.claim head.leg head.upto groups k (subst (λ (cs : List Cert). k < length cs) is within)
