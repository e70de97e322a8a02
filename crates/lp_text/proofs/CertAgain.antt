-- The words of a certificate are read again.
use Rattle.std.proofs.Common.{◌≡◌, ◌<◌, ℕ, List, [], ◌∷◌, map, length, Some, Ok, refl, arith, codes}
use Rattle.std.specs.Prelude.{decimal}
use Rattle.std.specs.List.{AllByRecursion}
use Rattle.std.proofs.lemmas.Fmt.{decimal_nonempty, length-decimal-le}
use Rattle.lp_definitions.specs.declared.cert.Claim.{Claim}
use Rattle.lp_definitions.specs.declared.cert.Claim.TheVariants.{Waiting, Floor}
use Rattle.lp_definitions.specs.declared.cert.Cert.{Cert}
use Rattle.lp_definitions.specs.declared.line.Line.{Line}
use Rattle.lp_definitions.specs.declared.line.Line.TheVariants.{Hold, Busy, Born}
use Rattle.lp_text.specs.CertTexts.{cert_lines, claim_word, claim_words, reason_words}
use Rattle.lp_text.specs.CheckReading.{claim_of, event_number_of, next_event, last_event, next_member, claim_line, hold_line, busy_line, born_line, reason_line}
use Rattle.lp_text.specs.CheckTexts.{IsCert, IsEventNumber, IsMember, IsReason}
use Rattle.lp_text.proofs.Again.{at_most, last_word_again, next_number_again, next_word_again, numeral_again}
use Rattle.lp_text.proofs.Complete.{Clean, CleanLine, all_map, number_clean}

-- ---- Words

event_number_again : (n : ℕ) → IsEventNumber n → event_number_of (decimal n) ≡ Some n
unfolding event_number_of
event_number_again n small = numeral_again 7 n (length-decimal-le 7 n (omega arith) small (omega arith)) small

next_event_again : (n : ℕ) (rest : List (List ℕ)) → IsEventNumber n → next_event (decimal n ∷ rest) ≡ Ok (n, rest)
unfolding next_event
next_event_again n rest small = rw (next_word_again (decimal n) rest (decimal_nonempty n (omega arith)), event_number_again n small) refl

last_event_again : (n : ℕ) → IsEventNumber n → last_event (decimal n ∷ []) ≡ Ok n
unfolding last_event
last_event_again n small = rw (last_word_again (decimal n) (decimal_nonempty n (omega arith)), event_number_again n small) refl

next_member_again : (n : ℕ) (rest : List (List ℕ)) → IsMember n → next_member (decimal n ∷ rest) ≡ Ok (n, rest)
unfolding next_member
next_member_again n rest small = rw (next_number_again n rest (omega arith), at_most n 65535 (omega arith)) refl

claim_again : (c : Claim) → claim_of (claim_word c) ≡ Some c
claim_again Waiting = refl
claim_again Floor = refl

claim_word_some : (c : Claim) → 0 < length (claim_word c)
claim_word_some Waiting = omega arith
claim_word_some Floor = omega arith

-- ---- Lines

pub claim_line_again : (cert : Cert) → IsCert cert → claim_line (claim_words cert) ≡ Ok (record cert { lines = [] })
unfolding claim_line
claim_line_again cert h =
    rw (next_word_again (claim_word cert.claim) (map decimal (cert.leg ∷ cert.group.0 ∷ cert.upto ∷ [])) (claim_word_some cert.claim), claim_again cert.claim, next_event_again cert.leg (map decimal (cert.group.0 ∷ cert.upto ∷ [])) h.leg, next_member_again cert.group.0 (map decimal (cert.upto ∷ [])) h.group, last_event_again cert.upto h.upto) refl

pub reason_line_again : (line : Line) → IsReason line → reason_line (reason_words line) ≡ Ok line
unfolding reason_line hold_line busy_line born_line
reason_line_again (Hold group task serial from to) h =
    rw (next_word_again (codes "hold") (map decimal (group.0 ∷ task.0 ∷ serial ∷ from ∷ to ∷ [])) (omega arith), next_member_again group.0 (map decimal (task.0 ∷ serial ∷ from ∷ to ∷ [])) h.0, next_member_again task.0 (map decimal (serial ∷ from ∷ to ∷ [])) h.1, next_event_again serial (map decimal (from ∷ to ∷ [])) h.2, next_event_again from (map decimal (to ∷ [])) h.3, last_event_again to h.4) refl
reason_line_again (Busy group task at) h =
    rw (next_word_again (codes "busy") (map decimal (group.0 ∷ task.0 ∷ at ∷ [])) (omega arith), next_member_again group.0 (map decimal (task.0 ∷ at ∷ [])) h.0, next_member_again task.0 (map decimal (at ∷ [])) h.1, last_event_again at h.2) refl
reason_line_again (Born group parent at) h =
    rw (next_word_again (codes "born") (map decimal (group.0 ∷ parent.0 ∷ at ∷ [])) (omega arith), next_member_again group.0 (map decimal (parent.0 ∷ at ∷ [])) h.0, next_member_again parent.0 (map decimal (at ∷ [])) h.1, last_event_again at h.2) refl

-- ---- Lines without spaces and ends in their words

event_clean : (n : ℕ) → IsEventNumber n → Clean (decimal n)
event_clean n small = number_clean n small

member_clean : (n : ℕ) → IsMember n → Clean (decimal n)
member_clean n small = number_clean n (omega arith)

claim_clean : (c : Claim) → Clean (claim_word c)
claim_clean Waiting = refl
claim_clean Floor = refl

pub reason_clean : (line : Line) → IsReason line → CleanLine (reason_words line)
reason_clean (Hold group task serial from to) h = (omega arith, (refl, (member_clean group.0 h.0, (member_clean task.0 h.1, (event_clean serial h.2, (event_clean from h.3, (event_clean to h.4, tt)))))))
reason_clean (Busy group task at) h = (omega arith, (refl, (member_clean group.0 h.0, (member_clean task.0 h.1, (event_clean at h.2, tt)))))
reason_clean (Born group parent at) h = (omega arith, (refl, (member_clean group.0 h.0, (member_clean parent.0 h.1, (event_clean at h.2, tt)))))

pub reasons_clean : (lines : List Line) → AllByRecursion IsReason lines → AllByRecursion CleanLine (map reason_words lines)
reasons_clean lines h = all_map IsReason CleanLine reason_words reason_clean lines h

pub cert_clean : (cert : Cert) → IsCert cert → AllByRecursion CleanLine (cert_lines cert)
cert_clean cert h =
    ((omega arith, (claim_clean cert.claim, (event_clean cert.leg h.leg, (member_clean cert.group.0 h.group, (event_clean cert.upto h.upto, tt))))), reasons_clean cert.lines h.lines)
