-- The first lines of certificates.
use Rattle.std.specs.Prelude.{ℕ, List, [], ◌∷◌, map, decimal}
use Rattle.lp_cert.specs.declared.cert_head.CertHead.{CertHead}
use Rattle.lp_text.specs.CertTexts.{claim_word}

-- the first line of a certificate that begins so
abbrev pub head_words : CertHead → List (List ℕ)
head_words head = claim_word head.claim ∷ map decimal (head.leg ∷ head.group.0 ∷ head.upto ∷ [])
