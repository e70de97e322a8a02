-- The parts of an input, put together.
use Rattle.std.proofs.Common.{◌≡◌, ◌<◌, ◌≤◌, ℕ, List, length, Bool, true, not, Option, None, Some, is_some, Ok, Err, refl, sym, ap, ◌∙◌, arith, nat_lt, lt-ltb}
use Rattle.std.proofs.lemmas.Bool.{cond-true, cond-false}
use Rattle.lp_definitions.specs.declared.cert.Cert.{Cert}
use Rattle.lp_text.specs.declared.check_input.CheckInput.{CheckInput}
use Rattle.lp_text.specs.declared.fault.Cause.TheVariants as cause
use Rattle.lp_text.specs.declared.fault.ReadFault.{ReadFault}
use Rattle.lp_text.specs.declared.fault.ReadFault.TheVariants as read
use Rattle.lp_text.specs.Faults.{IsReadFault}
use Rattle.lp_text.specs.Traces.{TraceValue}
use Rattle.lp_text.specs.Words.{lines}
use Rattle.lp_text.specs.Reading.{◌>>=◌, reading, reading_lines}
use Rattle.lp_text.specs.CheckReading.{cert_after, check_reading, divided}
use Rattle.lp_text.proofs.Pushes.{not_less}

-- the trace and the certificate
abbrev pub both : TraceValue → Cert → CheckInput
both trace cert = record { trace = trace; cert = cert }

read_whole : (text : List ℕ) → length text ≤ 134217728 → reading text ≡ reading_lines (lines text)
unfolding reading
read_whole text few = cond-false _ _ _ (not_less 134217728 (length text) (nat_lt 134217728 (length text)) refl few)

input_whole : (text : List ℕ) → length text ≤ 134217728 → check_reading text ≡ (reading_lines (divided (lines text)).0 >>= λ trace. cert_after (length (divided (lines text)).0) (divided (lines text)).1 >>= λ cert. Ok (both trace cert))
unfolding check_reading
input_whole text few = cond-false _ _ _ (not_less 134217728 (length text) (nat_lt 134217728 (length text)) refl few)

pub too_long : (text : List ℕ) → 134217728 < length text → check_reading text ≡ Err (record { line = 0; cause = cause.Long })
unfolding check_reading
too_long text more = cond-true _ _ _ (lt-ltb 134217728 (length text) more)

module _ (text trace : List ℕ) (line : ℕ) (cert : Option (List (List ℕ))) (few : length text ≤ 134217728) (prefix : length trace ≤ length text) (is_trace : lines trace ≡ (divided (lines text)).0) (is_line : line ≡ length (divided (lines text)).0) (is_cert : cert ≡ (divided (lines text)).1) where
  parted : check_reading text ≡ (reading trace >>= λ found. cert_after line cert >>= λ why. Ok (both found why))
  parted =
      input_whole text few
      ∙ (ap (λ x. x >>= λ found. cert_after (length (divided (lines text)).0) (divided (lines text)).1 >>= λ why. Ok (both found why)) (sym (read_whole trace (omega arith) ∙ ap reading_lines is_trace))
      ∙ (ap (λ n. reading trace >>= λ found. cert_after n (divided (lines text)).1 >>= λ why. Ok (both found why)) (sym is_line)
      ∙ ap (λ c. reading trace >>= λ found. cert_after line c >>= λ why. Ok (both found why)) (sym is_cert)))

  pub found_both : (found : TraceValue) (why : Cert) → reading trace ≡ Ok found → cert_after line cert ≡ Ok why → check_reading text ≡ Ok (both found why)
  found_both found why e h =
      parted ∙ (ap (λ x. x >>= λ found. cert_after line cert >>= λ why. Ok (both found why)) e ∙ ap (λ x. x >>= λ why. Ok (both found why)) h)

  pub trace_fault : (e : ReadFault) → IsReadFault e (reading trace) → IsReadFault e (check_reading text)
  trace_fault read.NoMemory h = tt
  trace_fault (read.Trace fault) h = parted ∙ ap (λ x. x >>= λ found. cert_after line cert >>= λ why. Ok (both found why)) h

  pub cert_fault : (e : ReadFault) (found : TraceValue) → reading trace ≡ Ok found → IsReadFault e (cert_after line cert) → IsReadFault e (check_reading text)
  cert_fault read.NoMemory found e h = tt
  cert_fault (read.Trace fault) found e h =
      parted ∙ (ap (λ x. x >>= λ found. cert_after line cert >>= λ why. Ok (both found why)) e ∙ ap (λ x. x >>= λ why. Ok (both found why)) h)

pub none_is : {A : Type 0} (o : Option A) (b : Bool) → is_some o ≡ not b → b ≡ true → o ≡ None
none_is None b e h = refl
none_is (Some x) b e h = absurd (cc (e ∙ ap not h))
