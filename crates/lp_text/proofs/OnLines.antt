-- Lines of a text that comes in pieces.
use Rattle.std.proofs.Common.{◌≡◌, ◌+◌, ℕ, List, ◌∷◌, ◌++◌, Result, Ok, Err, sym, ap, ◌∙◌, append_assoc}
use Rattle.std.specs.Prelude.{IfErr, IfOk}
use Rattle.lp_text.specs.declared.fault.LineFault.{LineFault}
use Rattle.lp_text.specs.declared.fault.Cause.TheVariants as cause
use Rattle.lp_text.specs.declared.fault.ReadFault.{ReadFault}
use Rattle.lp_text.specs.declared.fault.ReadFault.TheVariants as read
use Rattle.lp_text.specs.declared.fault.TraceFault.{TraceFault}
use Rattle.lp_text.specs.Faults.{IsReadFault}
use Rattle.lp_text.specs.inside.LineFaults.{read_fault, IsLineFault}
use Rattle.lp_text.specs.inside.Cut.{IsCut}
use Rattle.lp_text.specs.Traces.{TraceValue}
use Rattle.lp_text.specs.Words.{form_of, parts, words}
use Rattle.lp_text.specs.Reading.{◌>>=◌, empty, fault_at, needs, reading_from, reading_lines, with_line}
use Rattle.lp_text.proofs.Lines.{first_step, is_fault_after, reading_step}

-- a cut stays where it is when bytes follow
pub cut_on : (at : ℕ) (text first rest bytes : List ℕ) → IsCut at text first rest → parts at (text ++ bytes) ≡ first ∷ parts at (rest ++ bytes)
cut_on at text first rest bytes c =
    ap (λ t. parts at (t ++ bytes)) c.whole ∙ (ap (parts at) (append_assoc first (at ∷ rest) bytes) ∙ c.again (rest ++ bytes))

-- the first line of a text, with bytes that follow
module _ (number : ℕ) (so_far : TraceValue) (text line rest : List ℕ) (cut : IsCut 10 text line rest) where
  steps : (bytes : List ℕ) → reading_from number so_far (parts 10 (text ++ bytes)) ≡ (fault_at number (with_line so_far (words line)) >>= λ given. reading_from (number + 1) given (parts 10 (rest ++ bytes)))
  steps bytes = ap (reading_from number so_far) (cut_on 10 text line rest bytes cut) ∙ reading_step number so_far line (rest ++ bytes)

  pub one_line : (new : TraceValue) → with_line so_far (words line) ≡ Ok new → (bytes : List ℕ) → reading_from number so_far (parts 10 (text ++ bytes)) ≡ reading_from (number + 1) new (parts 10 (rest ++ bytes))
  one_line new h bytes = steps bytes ∙ ap (λ x. fault_at number x >>= λ given. reading_from (number + 1) given (parts 10 (rest ++ bytes))) h

  pub line_fault : (e : LineFault) (r : ReadFault) → IsLineFault e (with_line so_far (words line)) → r ≡ read_fault number e → (bytes : List ℕ) → IsReadFault r (reading_from number so_far (parts 10 (text ++ bytes)))
  line_fault e r h at bytes = rw (at, steps bytes) (is_fault_after e number (with_line so_far (words line)) _ h)

-- ---- The first line

-- a fault stays, whatever comes after it
pub fault_then : {A B : Type 0} (e : ReadFault) (x : Result A TraceFault) (f : A → Result B TraceFault) → IsReadFault e x → IsReadFault e (x >>= f)
fault_then read.NoMemory x f h = tt
fault_then (read.Trace fault) x f h = ap (λ y. y >>= f) h

module _ (text line rest : List ℕ) (cut : parts 10 text ≡ line ∷ parts 10 rest) where
  pub begins : reading_lines (parts 10 text) ≡ (fault_at 1 (needs cause.Header (form_of line)) >>= λ form. reading_from 2 (empty form) (parts 10 rest))
  begins = ap reading_lines cut ∙ first_step line rest

  pub begins_ok : (parser : TraceValue) → fault_at 1 (needs cause.Header (form_of line)) ≡ Ok parser.form → parser ≡ empty parser.form → reading_lines (parts 10 text) ≡ reading_from 2 parser (parts 10 rest)
  begins_ok parser h e =
      begins
      ∙ (ap (λ x. x >>= λ form. reading_from 2 (empty form) (parts 10 rest)) h
      ∙ ap (λ d. reading_from 2 d (parts 10 rest)) (sym e))

  pub begins_err : (e : ReadFault) → IsReadFault e (fault_at 1 (needs cause.Header (form_of line))) → IsReadFault e (reading_lines (parts 10 text))
  begins_err e h = rw begins (fault_then e _ _ h)

-- the same with bytes that follow
module _ (text line rest : List ℕ) (cut : IsCut 10 text line rest) where
  pub first_line : (parser : TraceValue) → fault_at 1 (needs cause.Header (form_of line)) ≡ Ok parser.form → parser ≡ empty parser.form → (bytes : List ℕ) → reading_lines (parts 10 (text ++ bytes)) ≡ reading_from 2 parser (parts 10 (rest ++ bytes))
  first_line parser h e bytes = begins_ok (text ++ bytes) line (rest ++ bytes) (cut_on 10 text line rest bytes cut) parser h e

  pub first_fault : (e : ReadFault) → IsReadFault e (fault_at 1 (needs cause.Header (form_of line))) → (bytes : List ℕ) → IsReadFault e (reading_lines (parts 10 (text ++ bytes)))
  first_fault e h bytes = begins_err (text ++ bytes) line (rest ++ bytes) (cut_on 10 text line rest bytes cut) e h

-- what follows for each value that is returned, and for each fault
pub map_ok : {A E : Type 0} (r : Result A E) (P Q : A → Type 0) → ((x : A) → P x → Q x) → IfOk r P → IfOk r Q
map_ok (Ok x) P Q goes h = goes x h
map_ok (Err e) P Q goes h = tt

pub map_err : {A E : Type 0} (r : Result A E) (P Q : E → Type 0) → ((e : E) → P e → Q e) → IfErr r P → IfErr r Q
map_err (Ok x) P Q goes h = tt
map_err (Err e) P Q goes h = goes e h
