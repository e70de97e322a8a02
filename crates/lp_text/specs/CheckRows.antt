-- Worked inputs of a check: what the definitions make of short ones.
use Rattle.std.specs.Prelude.{◌≡◌, ℕ, List, [], ◌∷◌, ◌++◌, Ok, Err, codes}
use Rattle.lp_stack.specs.declared.view.Class.TheVariants as class
use Rattle.lp_definitions.specs.declared.event.Event.TheVariants.{Enable}
use Rattle.lp_definitions.specs.declared.cert.Cert.{Cert}
use Rattle.lp_definitions.specs.declared.cert.Claim.TheVariants.{Waiting, Floor}
use Rattle.lp_definitions.specs.declared.line.Line.TheVariants.{Hold, Busy, Born}
use Rattle.lp_text.specs.declared.form.TraceForm.TheVariants.{Single}
use Rattle.lp_text.specs.declared.fault.Cause.{Cause}
use Rattle.lp_text.specs.declared.fault.Cause.TheVariants as cause
use Rattle.lp_text.specs.Traces.{TraceValue}
use Rattle.lp_text.specs.CheckReading.{check_reading}
use Rattle.lp_text.specs.CheckTexts.{input_text}
use Rattle.lp_text.specs.Rows.{func, task}

-- one task and an event; the text has five lines
abbrev pub short_trace : TraceValue
short_trace = record { form = Single; symbols = codes "a" ∷ []; patches = (func 0 ∷ []) ∷ []; boots = (task 1, class.Normal) ∷ []; events = Enable ∷ [] }

abbrev pub short_text : List ℕ
short_text = codes "lptrace 1\nsym a\npatch a\nboot 1 normal\nenable\n"

-- a certificate with each kind of reason
abbrev pub each_line_cert : Cert
each_line_cert = record { claim = Floor; leg = 0; group = record { 0 = 0 }; upto = 9999999; lines = Hold (record { 0 = 2 }) (task 1) 7 8 12 ∷ Busy (record { 0 = 0 }) (task 0) 0 ∷ Born (record { 0 = 3 }) (task 1) 10 ∷ [] }

abbrev pub each_line_text : List ℕ
each_line_text = codes "lpcert 1\nfloor 0 0 9999999\nhold 2 1 7 8 12\nbusy 0 0 0\nborn 3 1 10\n"

-- this certificate is read after the short trace
abbrev pub Reads : List ℕ → Cert → Type 0
Reads text cert = check_reading (short_text ++ text) ≡ Ok (record { trace = short_trace; cert = cert })

-- the first fault is this cause, at this line, where this stands after the short trace
abbrev pub Fails : List ℕ → ℕ → Cause → Type 0
Fails text number why = check_reading (short_text ++ text) ≡ Err (record { line = number; cause = why })

-- the same of an input as a whole
abbrev pub FailsAlone : List ℕ → ℕ → Cause → Type 0
FailsAlone text number why = check_reading text ≡ Err (record { line = number; cause = why })

pub record InputsCompute : Type 0 where
  pub claim_alone : Reads (codes "lpcert 1\nwaiting 1 65535 1\n") (record { claim = Waiting; leg = 1; group = record { 0 = 65535 }; upto = 1; lines = [] })
  pub each_line : Reads each_line_text each_line_cert
  pub each_line_spelled : input_text (record { trace = short_trace; cert = each_line_cert }) ≡ short_text ++ each_line_text
  pub no_certificate : Fails (codes "") 6 cause.Cert
  pub unended_division : Fails (codes "lpcert 1") 6 cause.Unended
  pub other_division : Fails (codes "lpcert 2\n") 6 cause.Word
  pub trace_first : FailsAlone (codes "lptrace 1\nsym a\nlpcert 1\nfoo\n") 3 cause.Patch
  pub no_trace : FailsAlone (codes "lpcert 1\nwaiting 1 1 1\n") 1 cause.Header
  pub no_bytes : FailsAlone (codes "") 1 cause.Header
  pub no_claim : Fails (codes "lpcert 1\n") 7 cause.Cert
  pub unended_claim : Fails (codes "lpcert 1\nfoo") 7 cause.Unended
  pub earlier_line_first : Fails (codes "lpcert 1\nfoo\nbusy 1 1 1") 7 cause.Cert
  pub unended_reason : Fails (codes "lpcert 1\nwaiting 1 1 1\nfoo") 8 cause.Unended
  pub reason_first : Fails (codes "lpcert 1\nbusy 1 1 1\n") 7 cause.Cert
  pub claim_twice : Fails (codes "lpcert 1\nwaiting 1 1 1\nfloor 1 1 1\n") 8 cause.Cert
  pub divided_twice : Fails (codes "lpcert 1\nwaiting 1 1 1\nlpcert 1\n") 8 cause.Cert
  pub empty_line : Fails (codes "lpcert 1\nwaiting 1 1 1\n\n") 8 cause.Cert
  pub group_too_great : Fails (codes "lpcert 1\nwaiting 1 65536 1\n") 7 cause.Cert
  pub task_too_great : Fails (codes "lpcert 1\nwaiting 1 1 1\nbusy 1 70000 1\n") 8 cause.Cert
  pub eight_digits : Fails (codes "lpcert 1\nwaiting 1 1 10000000\n") 7 cause.Cert
  pub leading_zero : Fails (codes "lpcert 1\nwaiting 01 1 1\n") 7 cause.Cert
  pub one_number_more : Fails (codes "lpcert 1\nwaiting 1 1 1 1\n") 7 cause.Cert
  pub one_number_less : Fails (codes "lpcert 1\nwaiting 1 1 1\nhold 1 1 1 1\n") 8 cause.Cert
