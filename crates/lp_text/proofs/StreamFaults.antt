-- Faults of a text that a reader has.
use Rattle.std.proofs.Common.{◌≡◌, ◌<◌, ℕ, true, List, ◌++◌, length, Option, None, Some, IfSome, Result, Ok, Err, refl, sym, ap, ◌∙◌, subst, arith, nat_lt, lt-ltb}
use Rattle.std.proofs.lemmas.List.{append-nil, length-append}
use Rattle.std.specs.Prelude.{IfErr, IsErrAnd}
use Rattle.lp_text.specs.declared.fault.Cause.TheVariants as cause
use Rattle.lp_text.specs.declared.fault.TraceFault.{TraceFault}
use Rattle.lp_text.specs.declared.input.InputFault.{InputFault}
use Rattle.lp_text.specs.declared.input.InputFault.TheVariants as input
use Rattle.lp_text.specs.declared.stream_fault.StreamFault.{StreamFault}
use Rattle.lp_text.specs.declared.fault.ReadFault.{ReadFault}
use Rattle.lp_text.specs.declared.fault.ReadFault.TheVariants as read
use Rattle.lp_text.specs.Faults.{IsReadFault}
use Rattle.lp_text.specs.Input.{AtText, ReadsAll, of_read}
use Rattle.lp_text.specs.Traces.{TraceValue}
use Rattle.lp_text.specs.Reading.{reading}
use Rattle.lp_text.specs.inside.Streams.{ReadsTooMuch, IsInputFault, of_input}

pub long_reading : (text : List ℕ) → 134217728 < length text → reading text ≡ Err (record { line = 0; cause = cause.Long })
unfolding reading
long_reading text more =
    let e : nat_lt 134217728 (length text) ≡ true = lt-ltb 134217728 (length text) more in
    rw e refl

-- what was read is all that the reader had
pub all_known : (old new : Option (List ℕ)) (text : List ℕ) (P : List ℕ → Type 0) → ReadsAll old new text → P text → IfSome old P
all_known None new text P all h = tt
all_known (Some xs) None text P all h = absurd all.0
all_known (Some xs) (Some ys) text P all h =
    subst P (sym (all.0 ∙ ap (λ l. text ++ l) all.1 ∙ append-nil text)) h

-- the fault of reading a text, as a fault of the reader that had it
pub known_fault : (old new : Option (List ℕ)) (text : List ℕ) (fault : ReadFault) (e : StreamFault) (gives : Result TraceValue TraceFault) → ReadsAll old new text → reading text ≡ gives → IsReadFault fault gives → e ≡ of_read fault → AtText e (λ why. IfSome old (λ t. reading t ≡ Err why))
known_fault old new text read.NoMemory e gives all is h at =
    let P : StreamFault → Type 0 = λ x. AtText x (λ why. IfSome old (λ t. reading t ≡ Err why)) in
    subst P (sym at) tt
known_fault old new text (read.Trace fault) e gives all is h at =
    let P : StreamFault → Type 0 = λ x. AtText x (λ why. IfSome old (λ t. reading t ≡ Err why)) in
    subst P (sym at) (all_known old new text (λ t. reading t ≡ Err fault) all (is ∙ h))

-- the text of an input is read so, and is at fault where it is too long
module _ {A : Type 0} (reads : List ℕ → Result A TraceFault) (long : (text : List ℕ) → 134217728 < length text → reads text ≡ Err (record { line = 0; cause = cause.Long })) where
  -- the reader has more than it gave
  long_known : (old new : Option (List ℕ)) → ReadsTooMuch old new → IfSome old (λ text. reads text ≡ Err (record { line = 0; cause = cause.Long }))
  long_known None new much = tt
  long_known (Some xs) None much = absurd much.1
  long_known (Some xs) (Some ys) much =
      long xs (omega (arith, much.2, ap length much.1, length-append much.0 ys))

  pub input_fault : (old new : Option (List ℕ)) (fault : InputFault) (e : StreamFault) → IsInputFault old new fault → e ≡ of_input fault → AtText e (λ why. IfSome old (λ text. reads text ≡ Err why))
  input_fault old new input.Long e much is =
      let P : StreamFault → Type 0 = λ x. AtText x (λ why. IfSome old (λ text. reads text ≡ Err why)) in
      subst P (sym is) (long_known old new much)
  input_fault old new (input.Failed error) e h is =
      let P : StreamFault → Type 0 = λ x. AtText x (λ why. IfSome old (λ text. reads text ≡ Err why)) in
      subst P (sym is) tt
  input_fault old new input.NoMemory e h is =
      let P : StreamFault → Type 0 = λ x. AtText x (λ why. IfSome old (λ text. reads text ≡ Err why)) in
      subst P (sym is) tt

  -- the same, as it is returned
  pub input_fault_of : {X : Type 0} (old new : Option (List ℕ)) (fault : InputFault) (r : Result X StreamFault) → IsInputFault old new fault → IsErrAnd r (λ e. e ≡ of_input fault) → IfErr r (λ e. AtText e (λ why. IfSome old (λ text. reads text ≡ Err why)))
  input_fault_of old new fault (Ok x) h is = tt
  input_fault_of old new fault (Err e) h is = input_fault old new fault e h is
