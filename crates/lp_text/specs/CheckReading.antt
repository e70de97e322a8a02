-- Reading the input of a check: a trace text, then the line `lpcert 1`, then one certificate.
use Rattle.std.specs.Prelude.{ℕ, ◌+◌, List, [], ◌∷◌, ◌++◌, length, codes, nat_le, nat_lt, ◌==◌, if◌then◌else◌, Option, None, Some, Result, Ok, Err}
use Rattle.std.specs.Str.{bytes_eq}
use Rattle.std.specs.Str.Parse.{digits_value}
use Rattle.lp_definitions.specs.declared.cert.Claim.{Claim}
use Rattle.lp_definitions.specs.declared.cert.Claim.TheVariants.{Waiting, Floor}
use Rattle.lp_definitions.specs.declared.cert.Cert.{Cert}
use Rattle.lp_definitions.specs.declared.line.Line.{Line}
use Rattle.lp_definitions.specs.declared.line.Line.TheVariants.{Hold, Busy, Born}
use Rattle.lp_text.specs.CertTexts.{claim_word}
use Rattle.lp_text.specs.declared.fault.Cause.{Cause}
use Rattle.lp_text.specs.declared.fault.Cause.TheVariants as cause
use Rattle.lp_text.specs.declared.fault.TraceFault.{TraceFault}
use Rattle.lp_text.specs.declared.check_input.CheckInput.{CheckInput}
use Rattle.lp_text.specs.Words.{lines, words, is_numeral}
use Rattle.lp_text.specs.Reading.{◌>>=◌, needs, next_word, last_word, next_number, fault_at, reading_lines}

-- ---- The words of a certificate's line

abbrev pub claim_of : List ℕ → Option Claim
claim_of word =
    if bytes_eq word (claim_word Waiting) then Some Waiting
    else if bytes_eq word (claim_word Floor) then Some Floor
    else None

-- the number of an event, which a word of 1 to 7 digits spells
unfoldable pub event_number_of : List ℕ → Option ℕ
event_number_of word = if is_numeral 7 word then Some (digits_value 10 word) else None

unfoldable pub next_event : List (List ℕ) → Result (ℕ × List (List ℕ)) Cause
next_event given = do
  word ← next_word given
  number ← needs cause.Cert (event_number_of word.0)
  Ok (number, word.1)

unfoldable pub last_event : List (List ℕ) → Result ℕ Cause
last_event given = do
  word ← last_word given
  needs cause.Cert (event_number_of word)

-- the number of a group or a task
unfoldable pub next_member : List (List ℕ) → Result (ℕ × List (List ℕ)) Cause
next_member given = do
  number ← next_number given
  if nat_le number.0 65535 then Ok number else Err cause.Cert

-- ---- The lines

-- `waiting L G K` or `floor L G K`, with no reason yet
unfoldable pub claim_line : List (List ℕ) → Result Cert Cause
claim_line given = do
  word ← next_word given
  claim ← needs cause.Cert (claim_of word.0)
  leg ← next_event word.1
  group ← next_member leg.1
  upto ← last_event group.1
  Ok (record { claim = claim; leg = leg.0; group = record { 0 = group.0 }; upto = upto; lines = [] })

-- `hold G T S F E`
unfoldable pub hold_line : List (List ℕ) → Result Line Cause
hold_line given = do
  group ← next_member given
  task ← next_member group.1
  serial ← next_event task.1
  from ← next_event serial.1
  to ← last_event from.1
  Ok (Hold (record { 0 = group.0 }) (record { 0 = task.0 }) serial.0 from.0 to)

-- `busy G T A`
unfoldable pub busy_line : List (List ℕ) → Result Line Cause
busy_line given = do
  group ← next_member given
  task ← next_member group.1
  at ← last_event task.1
  Ok (Busy (record { 0 = group.0 }) (record { 0 = task.0 }) at)

-- `born G P A`
unfoldable pub born_line : List (List ℕ) → Result Line Cause
born_line given = do
  group ← next_member given
  parent ← next_member group.1
  at ← last_event parent.1
  Ok (Born (record { 0 = group.0 }) (record { 0 = parent.0 }) at)

unfoldable pub reason_line : List (List ℕ) → Result Line Cause
reason_line given = do
  word ← next_word given
  if bytes_eq word.0 (codes "hold") then hold_line word.1
      else if bytes_eq word.0 (codes "busy") then busy_line word.1
      else if bytes_eq word.0 (codes "born") then born_line word.1
      else Err cause.Cert

-- whatever is wrong with a certificate's line, it has one cause
abbrev pub as_cert : {A : Type 0} → Result A Cause → Result A Cause
as_cert (Ok x) = Ok x
as_cert (Err why) = Err cause.Cert

-- ---- The text

-- the reasons from the line of this number on, and what stands after the last line end
unfoldable pub reasons_from : ℕ → List Line → List (List ℕ) → Result (List Line) TraceFault
reasons_from number so_far [] = Ok so_far
reasons_from number so_far (rest ∷ []) = fault_at number (if length rest == 0 then Ok so_far else Err cause.Unended)
reasons_from number so_far (line ∷ next ∷ more) = do
  reason ← fault_at number (as_cert (reason_line (words line)))
  reasons_from (number + 1) (so_far ++ reason ∷ []) (next ∷ more)

-- the certificate from the line of this number on: a claim, then its reasons
unfoldable pub cert_from : ℕ → List (List ℕ) → Result Cert TraceFault
cert_from number [] = fault_at number (Err cause.Cert)
cert_from number (rest ∷ []) = fault_at number (if length rest == 0 then Err cause.Cert else Err cause.Unended)
cert_from number (line ∷ next ∷ more) = do
  cert ← fault_at number (as_cert (claim_line (words line)))
  reasons ← reasons_from (number + 1) [] (next ∷ more)
  Ok (record cert { lines = reasons })

-- the lines of the trace, and those of the certificate if there is one: the first line `lpcert 1` that has its end
-- stands between them
unfoldable pub divided : List (List ℕ) → List (List ℕ) × Option (List (List ℕ))
divided [] = ([], None)
divided (rest ∷ []) = (rest ∷ [], None)
divided (line ∷ next ∷ more) =
    let further = divided (next ∷ more) in
    if bytes_eq line (codes "lpcert 1") then ([] ∷ [], Some (next ∷ more)) else (line ∷ further.0, further.1)

-- the certificate after so many lines, of which the last is `lpcert 1`; or it is missing there
abbrev pub cert_after : ℕ → Option (List (List ℕ)) → Result Cert TraceFault
cert_after number None = fault_at number (Err cause.Cert)
cert_after number (Some more) = cert_from (number + 1) more

-- the trace and the certificate that an input spells, or its first fault. Line 0 stands for the input as a whole
unfoldable pub check_reading : List ℕ → Result CheckInput TraceFault
check_reading text =
    if nat_lt 134217728 (length text) then fault_at 0 (Err cause.Long)
    else let parts = divided (lines text) in do
      trace ← reading_lines parts.0
      cert ← cert_after (length parts.0) parts.1
      Ok (record { trace = trace; cert = cert })
