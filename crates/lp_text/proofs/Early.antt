-- Faults of the first line are told before anything is allocated: each later one has a later line.
use Rattle.std.proofs.Common.{◌≡◌, ◌+◌, ◌≤◌, ℕ, List, [], ◌∷◌, Result, Ok, Err, sym, ap, ◌∙◌, arith}
use Rattle.lp_text.specs.declared.fault.Cause.{Cause}
use Rattle.lp_text.specs.declared.fault.Cause.TheVariants as cause
use Rattle.lp_text.specs.declared.fault.TraceFault.{TraceFault}
use Rattle.lp_text.specs.declared.form.TraceForm.{TraceForm}
use Rattle.lp_text.specs.declared.fault.ReadFault.{ReadFault}
use Rattle.lp_text.specs.Faults.{IsToldEarly}
use Rattle.lp_text.specs.Reading.{◌>>=◌, at_end, empty, fault_at, needs, reading_from, reading_lines, with_line}
use Rattle.lp_text.specs.Traces.{TraceValue}
use Rattle.lp_text.specs.Words.{form_of, parts, words}
use Rattle.lp_text.proofs.OnLines.{begins}

line_of_fault : {A : Type 0} (number : ℕ) (r : Result A Cause) (why : TraceFault) → fault_at number r ≡ Err why → why.line ≡ number
line_of_fault number (Ok x) why e = absurd (cc)
line_of_fault number (Err c) why e =
    let same : record { line = number; cause = c } ≡ why = cc in
    sym (ap (λ (w : TraceFault). w.line) same)

pub later : (number : ℕ) (so_far : TraceValue) (lines : List (List ℕ)) (why : TraceFault) → reading_from number so_far lines ≡ Err why → number ≤ why.line
unfolding reading_from
later number so_far [] why e = absurd (cc)
later number so_far (rest ∷ []) why e = omega (arith, line_of_fault number (at_end so_far rest) why e)
later number so_far (line ∷ next ∷ more) why e = step (with_line so_far (words line)) (λ given. later (number + 1) given (next ∷ more) why) e
  where
    step : (r : Result TraceValue Cause) → ((given : TraceValue) → reading_from (number + 1) given (next ∷ more) ≡ Err why → number + 1 ≤ why.line) → (fault_at number r >>= λ given. reading_from (number + 1) given (next ∷ more)) ≡ Err why → number ≤ why.line
    step (Ok given) after h = omega (arith, after given h)
    step (Err c) after h = let same : record { line = number; cause = c } ≡ why = cc in omega (arith, ap (λ (w : TraceFault). w.line) same)

-- what reads on from the second line has no early fault
pub none_early : {X : Type 0} (whole : Result TraceValue TraceFault) (so_far : TraceValue) (lines : List (List ℕ)) (result : Result X ReadFault) → whole ≡ reading_from 2 so_far lines → IsToldEarly whole result
none_early whole so_far lines result same why e low = absurd (omega (arith, low, later 2 so_far lines why (sym same ∙ e)))

-- the first line alone decides what is told early
pub begins_early : {X : Type 0} (text line rest : List ℕ) → parts 10 text ≡ line ∷ parts 10 rest → (result : Result X ReadFault) → IsToldEarly (fault_at 1 (needs cause.Header (form_of line))) result → IsToldEarly (reading_lines (parts 10 text)) result
begins_early {X} text line rest cut result early = by (needs cause.Header (form_of line)) (begins text line rest cut) early
  where
    by : (form : Result TraceForm Cause) → reading_lines (parts 10 text) ≡ (fault_at 1 form >>= λ given. reading_from 2 (empty given) (parts 10 rest)) → IsToldEarly (fault_at 1 form) result → IsToldEarly (reading_lines (parts 10 text)) result
    by (Ok form) is told = none_early (reading_lines (parts 10 text)) (empty form) (parts 10 rest) result is
    by (Err c) is told = λ why e low. let same : record { line = 1; cause = c } ≡ why = cc (is, e) in told why (ap Err same) low
