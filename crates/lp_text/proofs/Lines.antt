-- One line of a text after another.
use Rattle.std.proofs.Common.{◌≡◌, ◌<◌, ◌+◌, ℕ, List, [], ◌∷◌, length, Option, None, Some, Result, Ok, Err, refl, arith, ap, ◌∙◌}
use Rattle.lp_text.specs.declared.fault.LineFault.{LineFault}
use Rattle.lp_text.specs.declared.fault.LineFault.TheVariants as line_fault
use Rattle.lp_text.specs.declared.fault.ReadFault.{ReadFault}
use Rattle.lp_text.specs.Faults.{IsReadFault}
use Rattle.lp_text.specs.inside.LineFaults.{cause_at, read_fault, IsLineFault}
use Rattle.lp_text.specs.inside.Cut.{parts_left}
use Rattle.lp_text.specs.declared.fault.Cause.{Cause}
use Rattle.lp_text.specs.declared.fault.Cause.TheVariants as cause
use Rattle.lp_text.specs.declared.fault.TraceFault.{TraceFault}
use Rattle.lp_text.specs.Traces.{TraceValue}
use Rattle.lp_text.specs.Words.{parts, words, form_of}
use Rattle.lp_text.specs.Reading.{◌>>=◌, at_end, empty, fault_at, needs, reading_from, reading_lines, with_line}
use Rattle.lp_text.proofs.Cuts.{parts-some_there}

pub step : (number : ℕ) (so_far : TraceValue) (line : List ℕ) (more : List (List ℕ)) → 0 < length more → reading_from number so_far (line ∷ more) ≡ (fault_at number (with_line so_far (words line)) >>= λ given. reading_from (number + 1) given more)
unfolding reading_from
step number so_far line [] h = absurd (omega arith)
step number so_far line (next ∷ more) h = refl

pub reading_step : (number : ℕ) (so_far : TraceValue) (line rest : List ℕ) → reading_from number so_far (line ∷ parts 10 rest) ≡ (fault_at number (with_line so_far (words line)) >>= λ given. reading_from (number + 1) given (parts 10 rest))
reading_step number so_far line rest = step number so_far line (parts 10 rest) (parts-some_there 10 rest)

pub first : (line : List ℕ) (more : List (List ℕ)) → 0 < length more → reading_lines (line ∷ more) ≡ (fault_at 1 (needs cause.Header (form_of line)) >>= λ form. reading_from 2 (empty form) more)
unfolding reading_lines
first line [] h = absurd (omega arith)
first line (next ∷ more) h = refl

pub first_step : (line rest : List ℕ) → reading_lines (line ∷ parts 10 rest) ≡ (fault_at 1 (needs cause.Header (form_of line)) >>= λ form. reading_from 2 (empty form) (parts 10 rest))
first_step line rest = first line (parts 10 rest) (parts-some_there 10 rest)

-- a cause at a line is the text's fault there
pub is_fault_after : (e : LineFault) (number : ℕ) (x : Result TraceValue Cause) (f : TraceValue → Result TraceValue TraceFault) → IsLineFault e x → IsReadFault (read_fault number e) (fault_at number x >>= f)
is_fault_after line_fault.NoMemory number x f h = tt
is_fault_after (line_fault.Cause why) number x f h = ap (λ y. fault_at number y >>= f) h

-- the loop over the lines: what it has come to, and the next part
module _ (total : Result TraceValue TraceFault) (number : ℕ) (so_far : TraceValue) (rest line : List ℕ) (left : Option (List ℕ)) (here : total ≡ reading_from number so_far (parts 10 rest)) (cut : parts 10 rest ≡ line ∷ parts_left 10 left) where
  ends : left ≡ None → total ≡ fault_at number (at_end so_far line)
  unfolding reading_from
  ends last = here ∙ ap (reading_from number so_far) (cut ∙ ap (λ l. line ∷ parts_left 10 l) last)

  goes_on : (more : List ℕ) → left ≡ Some more → total ≡ (fault_at number (with_line so_far (words line)) >>= λ given. reading_from (number + 1) given (parts 10 more))
  goes_on more next = here ∙ ap (reading_from number so_far) (cut ∙ ap (λ l. line ∷ parts_left 10 l) next) ∙ reading_step number so_far line more

  pub end_ok : left ≡ None → at_end so_far line ≡ Ok so_far → total ≡ Ok so_far
  end_ok last h = ends last ∙ ap (fault_at number) h

  pub end_err : (why : Cause) (r : ReadFault) → left ≡ None → at_end so_far line ≡ Err why → r ≡ cause_at number why → IsReadFault r total
  end_err why r last h at = rw at (ends last ∙ ap (fault_at number) h)

  pub line_ok : (more : List ℕ) (new : TraceValue) → left ≡ Some more → with_line so_far (words line) ≡ Ok new → total ≡ reading_from (number + 1) new (parts 10 more)
  line_ok more new next h = goes_on more next ∙ ap (λ x. fault_at number x >>= λ given. reading_from (number + 1) given (parts 10 more)) h

  pub line_err : (more : List ℕ) (e : LineFault) (r : ReadFault) → left ≡ Some more → IsLineFault e (with_line so_far (words line)) → r ≡ read_fault number e → IsReadFault r total
  line_err more e r next h at = rw (at, goes_on more next) (is_fault_after e number (with_line so_far (words line)) _ h)
