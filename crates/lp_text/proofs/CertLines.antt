-- One line of a certificate after another.
use Rattle.std.proofs.Common.{◌≡◌, ◌<◌, ◌+◌, ℕ, List, [], ◌∷◌, ◌++◌, length, true, false, Option, None, Some, Result, Ok, Err, refl, arith, ap, ◌∙◌}
use Rattle.std.specs.Prelude.{◌==◌, if◌then◌else◌}
use Rattle.std.proofs.lemmas.Bool.{cond-true, cond-false}
use Rattle.lp_definitions.specs.declared.cert.Cert.{Cert}
use Rattle.lp_definitions.specs.declared.line.Line.{Line}
use Rattle.lp_text.specs.declared.fault.ReadFault.{ReadFault}
use Rattle.lp_text.specs.declared.fault.Cause.{Cause}
use Rattle.lp_text.specs.declared.fault.Cause.TheVariants as cause
use Rattle.lp_text.specs.declared.fault.TraceFault.{TraceFault}
use Rattle.lp_text.specs.Faults.{IsReadFault}
use Rattle.lp_text.specs.inside.LineFaults.{cause_at}
use Rattle.lp_text.specs.inside.Cut.{parts_left}
use Rattle.lp_text.specs.Words.{parts, words}
use Rattle.lp_text.specs.Reading.{◌>>=◌, fault_at}
use Rattle.lp_text.specs.CheckReading.{as_cert, cert_from, claim_line, reason_line, reasons_from}
use Rattle.lp_text.proofs.Cuts.{parts-some_there}

pub step : (number : ℕ) (so_far : List Line) (line : List ℕ) (more : List (List ℕ)) → 0 < length more → reasons_from number so_far (line ∷ more) ≡ (fault_at number (as_cert (reason_line (words line))) >>= λ reason. reasons_from (number + 1) (so_far ++ reason ∷ []) more)
unfolding reasons_from
step number so_far line [] h = absurd (omega arith)
step number so_far line (next ∷ more) h = refl

reasons_step : (number : ℕ) (so_far : List Line) (line rest : List ℕ) → reasons_from number so_far (line ∷ parts 10 rest) ≡ (fault_at number (as_cert (reason_line (words line))) >>= λ reason. reasons_from (number + 1) (so_far ++ reason ∷ []) (parts 10 rest))
reasons_step number so_far line rest = step number so_far line (parts 10 rest) (parts-some_there 10 rest)

pub first : (number : ℕ) (line : List ℕ) (more : List (List ℕ)) → 0 < length more → cert_from number (line ∷ more) ≡ (fault_at number (as_cert (claim_line (words line))) >>= λ (cert : Cert). reasons_from (number + 1) [] more >>= λ reasons. Ok (record cert { lines = reasons }))
unfolding cert_from
first number line [] h = absurd (omega arith)
first number line (next ∷ more) h = refl

pub cert_step : (number : ℕ) (line rest : List ℕ) → cert_from number (line ∷ parts 10 rest) ≡ (fault_at number (as_cert (claim_line (words line))) >>= λ (cert : Cert). reasons_from (number + 1) [] (parts 10 rest) >>= λ reasons. Ok (record cert { lines = reasons }))
cert_step number line rest = first number line (parts 10 rest) (parts-some_there 10 rest)

-- the loop over the reasons: what it has come to, and the next line
module _ (total : Result (List Line) TraceFault) (number : ℕ) (so_far : List Line) (rest line : List ℕ) (left : Option (List ℕ)) (here : total ≡ reasons_from number so_far (parts 10 rest)) (cut : parts 10 rest ≡ line ∷ parts_left 10 left) where
  pub ends : left ≡ None → total ≡ fault_at number (if length line == 0 then Ok so_far else Err cause.Unended)
  unfolding reasons_from
  ends last = here ∙ ap (reasons_from number so_far) (cut ∙ ap (λ l. line ∷ parts_left 10 l) last)

  goes_on : (more : List ℕ) → left ≡ Some more → total ≡ (fault_at number (as_cert (reason_line (words line))) >>= λ reason. reasons_from (number + 1) (so_far ++ reason ∷ []) (parts 10 more))
  goes_on more next = here ∙ ap (reasons_from number so_far) (cut ∙ ap (λ l. line ∷ parts_left 10 l) next) ∙ reasons_step number so_far line more

  pub line_ok : (more : List ℕ) (reason : Line) → left ≡ Some more → as_cert (reason_line (words line)) ≡ Ok reason → total ≡ reasons_from (number + 1) (so_far ++ reason ∷ []) (parts 10 more)
  line_ok more reason next h =
      goes_on more next ∙ ap (λ x. fault_at number x >>= λ reason. reasons_from (number + 1) (so_far ++ reason ∷ []) (parts 10 more)) h

  -- a cause at a line is the text's fault there
  pub line_err : (more : List ℕ) (why : Cause) (r : ReadFault) → left ≡ Some more → as_cert (reason_line (words line)) ≡ Err why → r ≡ cause_at number why → IsReadFault r total
  line_err more why r next h at =
      rw at (goes_on more next ∙ ap (λ x. fault_at number x >>= λ reason. reasons_from (number + 1) (so_far ++ reason ∷ []) (parts 10 more)) h)

  pub end_ok : left ≡ None → (length line == 0) ≡ true → total ≡ Ok so_far
  end_ok last h = ends last ∙ ap (fault_at number) (cond-true _ _ _ h)

  pub end_err : left ≡ None → (length line == 0) ≡ false → (r : ReadFault) → r ≡ cause_at number cause.Unended → IsReadFault r total
  end_err last h r at = rw at (ends last ∙ ap (fault_at number) (cond-false _ _ _ h))
