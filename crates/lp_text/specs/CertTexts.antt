-- Certificates and the ends of legs as texts, each line as its words.
use Rattle.std.specs.Prelude.{ℕ, List, [], ◌∷◌, map, decimal, codes, Option, Some, None}
use Rattle.lp_definitions.specs.declared.line.Line.{Line}
use Rattle.lp_definitions.specs.declared.line.Line.TheVariants.{Hold, Busy, Born}
use Rattle.lp_definitions.specs.declared.cert.Claim.{Claim}
use Rattle.lp_definitions.specs.declared.cert.Claim.TheVariants.{Waiting, Floor}
use Rattle.lp_definitions.specs.declared.cert.Cert.{Cert}

abbrev pub claim_word : Claim → List ℕ
claim_word Waiting = codes "waiting"
claim_word Floor = codes "floor"

-- what is claimed: the leg, the group, and the last event after which it waits
abbrev pub claim_words : Cert → List (List ℕ)
claim_words cert = claim_word cert.claim ∷ map decimal (cert.leg ∷ cert.group.0 ∷ cert.upto ∷ [])

-- a line of a certificate
abbrev pub reason_words : Line → List (List ℕ)
reason_words (Hold group task serial from to) = codes "hold" ∷ map decimal (group.0 ∷ task.0 ∷ serial ∷ from ∷ to ∷ [])
reason_words (Busy group task at) = codes "busy" ∷ map decimal (group.0 ∷ task.0 ∷ at ∷ [])
reason_words (Born group parent at) = codes "born" ∷ map decimal (group.0 ∷ parent.0 ∷ at ∷ [])

-- the lines of a certificate
abbrev pub cert_lines : Cert → List (List (List ℕ))
cert_lines cert = claim_words cert ∷ map reason_words cert.lines

-- the event of a leg's completion, or how many groups wait at its end
abbrev pub end_words : Option ℕ → ℕ → List (List ℕ)
end_words (Some event) waiting = codes "complete" ∷ decimal event ∷ []
end_words None waiting = codes "waiting" ∷ decimal waiting ∷ []
