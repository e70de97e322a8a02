-- What holds of texts, traces and the inputs of a check, whoever reads or writes them.
use Rattle.std.specs.Prelude.{◌≡◌, ◌↔◌, List, ℕ, Ok}
use Rattle.lp_text.specs.declared.check_input.CheckInput.{CheckInput}
use Rattle.lp_text.specs.Traces.{TraceValue, IsTrace, text_of}
use Rattle.lp_text.specs.Reading.{reading}
use Rattle.lp_text.specs.CheckReading.{check_reading}
use Rattle.lp_text.specs.CheckTexts.{IsInput, input_text}

-- what is read of a text is the trace that the text spells, and each spelling is read
abbrev pub ReadsWhatIsSpelled : Type 0
ReadsWhatIsSpelled = (text : List ℕ) (trace : TraceValue) → (reading text ≡ Ok trace) ↔ (IsTrace trace × (text ≡ text_of trace))

-- a text spells at most one trace
abbrev pub SpellsOne : Type 0
SpellsOne = (trace other : TraceValue) → IsTrace trace → IsTrace other → text_of trace ≡ text_of other → trace ≡ other

-- what is read of the input of a check is the trace and the certificate that it spells, and each spelling is read
abbrev pub ReadsSpelledInputs : Type 0
ReadsSpelledInputs = (text : List ℕ) (input : CheckInput) → (check_reading text ≡ Ok input) ↔ (IsInput input × (text ≡ input_text input))

-- a text spells at most one trace and certificate
abbrev pub SpellsOneInput : Type 0
SpellsOneInput = (input other : CheckInput) → IsInput input → IsInput other → input_text input ≡ input_text other → input ≡ other
