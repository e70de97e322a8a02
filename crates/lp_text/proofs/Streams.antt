-- What is read of a reader piece by piece.
use Rattle.std.proofs.Common.{◌≡◌, ◌≤◌, ◌+◌, ℕ, false, List, ◌++◌, length, Option, IfSome, Result, Ok, Err, refl, sym, ap, ◌∙◌, subst, append_assoc, arith, nat_lt, ◌<◌}
use Rattle.std.proofs.lemmas.List.{length-append}
use Rattle.std.proofs.lemmas.Bool.Decides.{Decides-ltb}
use Rattle.std.specs.Prelude.{Bool, OnOk, true}
use Rattle.std.specs.Io.KnownBytes.{Consumes}
use Rattle.lp_text.specs.declared.fault.ReadFault.{ReadFault}
use Rattle.lp_text.specs.declared.fault.ReadFault.TheVariants as read
use Rattle.lp_text.specs.declared.input.InputFault.{InputFault}
use Rattle.lp_text.specs.declared.input.InputFault.TheVariants as input
use Rattle.lp_text.specs.declared.stream_fault.StreamFault.{StreamFault}
use Rattle.lp_text.specs.Faults.{IsReadFault}
use Rattle.lp_text.specs.Input.{AtText, ReadsAll, of_read}
use Rattle.lp_text.specs.inside.Streams.{IsFaultAfter, Stream, of_input, reading_after, reading_on}
use Rattle.lp_text.specs.Reading.{reading, reading_lines}
use Rattle.lp_text.specs.Words.{lines}
use Rattle.lp_text.proofs.Inputs.{consumes_more}
use Rattle.lp_text.proofs.StreamFaults.{all_known, input_fault, long_reading}

-- a fault after some bytes, seen from before them
pub after : (before total : ℕ) (a b c : Option (List ℕ)) (bytes : List ℕ) (fault : InputFault) → Consumes a b bytes → before + length bytes ≡ total → IsFaultAfter total b c fault → IsFaultAfter before a c fault
after before total a b c bytes input.Long h e much =
    (bytes ++ much.0, consumes_more a b c bytes much.0 h much.1, omega (arith, e, much.2, length-append bytes much.0))
after before total a b c bytes (input.Failed error) h e much = tt
after before total a b c bytes input.NoMemory h e much = tt

not_above : (n : ℕ) (b : Bool) → n ≤ 134217728 → nat_lt 134217728 n ≡ b → b ≡ false
not_above n false few e = refl
not_above n true few e = let above : 134217728 < n = (Decides-ltb 134217728 n).0 e in absurd (omega arith)

-- a text that isn't too long is read by its lines
short_reading : (text : List ℕ) → length text ≤ 134217728 → reading text ≡ reading_lines (lines text)
unfolding reading
short_reading text few =
    let e : nat_lt 134217728 (length text) ≡ false = not_above (length text) (nat_lt 134217728 (length text)) few refl in
    rw e refl

-- a reader gave this text, which came to this
module _ (a b : Option (List ℕ)) (text : List ℕ) (came : Stream) (gave : Consumes a b text) (so_far : (bytes : List ℕ) → reading_lines (lines (text ++ bytes)) ≡ reading_after came bytes) where
  -- and then the rest
  pub whole : (c : Option (List ℕ)) (more : List ℕ) → ReadsAll b c more → length text + length more ≤ 134217728 → ReadsAll a c (text ++ more) × (reading (text ++ more) ≡ reading_after came more)
  whole c more all few =
      ((consumes_more a b c text more gave all.0, all.1), short_reading (text ++ more) (omega (arith, few, length-append text more)) ∙ so_far more)

  pub trace_fault : (c : Option (List ℕ)) (more : List ℕ) (fault : ReadFault) (e : StreamFault) → ReadsAll b c more → length text + length more ≤ 134217728 → IsReadFault fault (reading_after came more) → e ≡ of_read fault → AtText e (λ why. IfSome a (λ t. reading t ≡ Err why))
  trace_fault c more read.NoMemory e all few h is =
      let P : StreamFault → Type 0 = λ x. AtText x (λ why. IfSome a (λ t. reading t ≡ Err why)) in
      subst P (sym is) tt
  trace_fault c more (read.Trace fault) e all few h is =
      let P : StreamFault → Type 0 = λ x. AtText x (λ why. IfSome a (λ t. reading t ≡ Err why)) in
      let there = whole c more all few in
      subst P (sym is) (all_known a c (text ++ more) (λ t. reading t ≡ Err fault) there.0 (there.1 ∙ h))

  -- one piece more
  pub one_more : (c : Option (List ℕ)) (piece : List ℕ) (next : Stream) → Consumes b c piece → ((bytes : List ℕ) → reading_after came (piece ++ bytes) ≡ reading_after next bytes) → Consumes a c (text ++ piece) × ((bytes : List ℕ) → reading_lines (lines ((text ++ piece) ++ bytes)) ≡ reading_after next bytes)
  one_more c piece next h goes =
      (consumes_more a b c text piece gave h, λ bytes. ap (λ t. reading_lines (lines t)) (append_assoc text piece bytes) ∙ (so_far (piece ++ bytes) ∙ goes bytes))

-- what is held has grown by a piece
pub held_on : (old : Stream) (piece now : List ℕ) → now ≡ old.held ++ piece → (bytes : List ℕ) → reading_after old (piece ++ bytes) ≡ reading_after (record old { held = now }) bytes
held_on old piece now is bytes =
    ap (λ l. reading_on old.parser old.number (lines l)) (sym (append_assoc old.held piece bytes)) ∙ ap (λ l. reading_on old.parser old.number (lines (l ++ bytes))) (sym is)

pub on_ok : {A E P Q : Type 0} (r : Result A E) → (P → Q) → OnOk r P → OnOk r Q
on_ok (Ok x) goes h = goes h
on_ok (Err e) goes h = tt

-- a fault in reading after some bytes, as a fault of a run
pub input_fault_after : (a b c : Option (List ℕ)) (bytes : List ℕ) (total : ℕ) (fault : InputFault) (e : StreamFault) → Consumes a b bytes → length bytes ≡ total → IsFaultAfter total b c fault → e ≡ of_input fault → AtText e (λ why. IfSome a (λ t. reading t ≡ Err why))
input_fault_after a b c bytes total fault e h same is at =
    input_fault reading long_reading a c fault e (after 0 total a b c bytes fault h (omega (arith, same)) is) at
