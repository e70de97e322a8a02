-- The spelling of a trace and a certificate is read again as these.
use Rattle.std.proofs.Common.{◌≡◌, ◌+◌, ℕ, Bool, true, false, List, [], ◌∷◌, ◌++◌, length, map, Option, Some, Result, Ok, Err, refl, sym, ap, ◌∙◌, arith, subst, append_assoc, codes}
use Rattle.std.specs.Prelude.{nat_lt}
use Rattle.std.specs.List.{AllByRecursion, flat_map, join_with_byte}
use Rattle.std.specs.Str.{bytes_eq}
use Rattle.std.proofs.lemmas.List.{append-nil}
use Rattle.std.proofs.lemmas.Grind.{flat_map-append}
use Rattle.lp_definitions.specs.declared.cert.Cert.{Cert}
use Rattle.lp_definitions.specs.declared.line.Line.{Line}
use Rattle.lp_text.specs.CertTexts.{cert_lines, claim_words, reason_words}
use Rattle.lp_text.specs.declared.check_input.CheckInput.{CheckInput}
use Rattle.lp_text.specs.declared.fault.Cause.{Cause}
use Rattle.lp_text.specs.declared.fault.Cause.TheVariants as cause
use Rattle.lp_text.specs.declared.fault.TraceFault.{TraceFault}
use Rattle.lp_text.specs.declared.fault.ReadFault.{ReadFault}
use Rattle.lp_text.specs.declared.form.TraceForm.{TraceForm}
use Rattle.lp_text.specs.declared.form.TraceForm.TheVariants.{Single, Stacked, WithResched}
use Rattle.lp_text.specs.Faults.{Gives}
use Rattle.lp_text.specs.Words.{event_word_of, header, line_of, line_word_of, lines, parts, words}
use Rattle.lp_text.specs.Traces.{TraceValue, lines_after_header, text_of}
use Rattle.lp_text.specs.Reading.{◌>>=◌, empty, fault_at, first_word, reading_lines, with_line}
use Rattle.lp_text.specs.CheckReading.{as_cert, cert_after, cert_from, check_reading, claim_line, divided, reason_line, reasons_from}
use Rattle.lp_text.specs.CheckTexts.{IsCert, IsInput, IsReason, division, input_text}
use Rattle.lp_text.proofs.Choices.{bind_ok}
use Rattle.lp_text.proofs.Pushes.{not_less}
use Rattle.lp_text.proofs.Spelled.{is}
use Rattle.lp_text.proofs.Folds.{fold_lines}
use Rattle.lp_text.proofs.Complete.{CleanLine, all_both, all_clean, all_fold, header_cut, header_read, some_texts, texts, words_of_line}
use Rattle.lp_text.proofs.Divided.{other_line, the_line}
use Rattle.lp_text.proofs.CertLines.{first, step}
use Rattle.lp_text.proofs.CertAgain.{cert_clean, claim_line_again, reason_line_again}

-- ---- The certificate

reasons_again : (number : ℕ) (so_far reasons : List Line) → AllByRecursion IsReason reasons → AllByRecursion CleanLine (map reason_words reasons) → reasons_from number so_far (texts (map reason_words reasons)) ≡ Ok (so_far ++ reasons)
unfolding reasons_from
reasons_again number so_far [] h clean = ap (λ l. Ok l) (sym (append-nil so_far))
reasons_again number so_far (reason ∷ reasons) h clean =
    let more : List (List (List ℕ)) = map reason_words reasons in
    let ws : List (List ℕ) = reason_words reason in
    step number so_far (join_with_byte 32 ws) (texts more) (some_texts more)
    ∙ ap (λ r. fault_at number (as_cert r) >>= λ x. reasons_from (number + 1) (so_far ++ x ∷ []) (texts more)) (ap reason_line (words_of_line ws clean.0) ∙ reason_line_again reason h.0)
    ∙ reasons_again (number + 1) (so_far ++ reason ∷ []) reasons h.1 clean.1
    ∙ ap (λ l. Ok l) (append_assoc so_far (reason ∷ []) reasons)

cert_again : (number : ℕ) (cert : Cert) → IsCert cert → cert_from number (texts (cert_lines cert)) ≡ Ok cert
cert_again number cert h =
    let clean = cert_clean cert h in
    let more : List (List (List ℕ)) = map reason_words cert.lines in
    let ws : List (List ℕ) = claim_words cert in
    let rest : Cert → Result Cert TraceFault = λ c. reasons_from (number + 1) [] (texts more) >>= λ reasons. Ok (record c { lines = reasons }) in
    first number (join_with_byte 32 ws) (texts more) (some_texts more)
    ∙ ap (λ r. fault_at number (as_cert r) >>= rest) (ap claim_line (words_of_line ws clean.0) ∙ claim_line_again cert h)
    ∙ ap (λ r. r >>= λ reasons. Ok (record cert { lines = reasons })) (reasons_again (number + 1) [] cert.lines h.lines clean.1)

-- ---- The division

-- no line of a trace
refused : (t : TraceValue) → with_line t (words (codes "lpcert 1")) ≡ Err cause.Word
unfolding with_line first_word line_word_of event_word_of parts
refused t = refl

other : (t u : TraceValue) (line : List ℕ) (b : Bool) → with_line t (words line) ≡ Ok u → bytes_eq line (codes "lpcert 1") ≡ b → b ≡ false
other t u line false h e = refl
other t u line true h e =
    let wrong : ◌≡◌ {A = Result TraceValue Cause} (Err cause.Word) (Ok u) = sym (refused t) ∙ ap (λ l. with_line t (words l)) (sym (is line (codes "lpcert 1") e)) ∙ h in
    absurd (cc wrong)

divided_again : (t u : TraceValue) (ls after : List (List (List ℕ))) → AllByRecursion CleanLine ls → fold_lines t ls ≡ Ok u → divided (texts (ls ++ division ∷ after)) ≡ (texts ls, Some (texts after))
divided_again t u [] after clean h = the_line (codes "lpcert 1") (texts after) refl (some_texts after)
divided_again t u (ws ∷ ls) after clean h =
    let a = bind_ok (with_line t ws) (λ v. fold_lines v ls) u h in
    let line : List ℕ = join_with_byte 32 ws in
    let read : with_line t (words line) ≡ Ok a.0 = ap (with_line t) (words_of_line ws clean.0) ∙ a.1 in
    let further : List (List ℕ) = texts (ls ++ division ∷ after) in
    other_line line further (other t a.0 line (bytes_eq line (codes "lpcert 1")) read refl) (some_texts (ls ++ division ∷ after))
    ∙ ap (λ (d : List (List ℕ) × Option (List (List ℕ))). (line ∷ d.0, d.1)) (divided_again a.0 u ls after clean.1 a.2)

header_other : (form : TraceForm) → bytes_eq (header form) (codes "lpcert 1") ≡ false
header_other Single = refl
header_other Stacked = refl
header_other WithResched = refl

-- ---- The input

-- a trace's lines, then others
joined_text : (u : TraceValue) (after : List (List (List ℕ))) → text_of u ++ flat_map line_of after ≡ header u.form ++ 10 ∷ [] ++ flat_map line_of (lines_after_header u ++ after)
unfolding text_of
joined_text u after =
    let ls = lines_after_header u in
    append_assoc (header u.form ++ 10 ∷ []) (flat_map line_of ls) (flat_map line_of after) ∙ ap (λ b. header u.form ++ 10 ∷ [] ++ b) (sym (flat_map-append line_of ls after))

input_divided : (input : CheckInput) → IsInput input → divided (lines (input_text input)) ≡ (header input.trace.form ∷ texts (lines_after_header input.trace), Some (texts (cert_lines input.cert)))
input_divided input i =
    let u = input.trace in
    let f = u.form in
    let ls = lines_after_header u in
    let after : List (List (List ℕ)) = cert_lines input.cert in
    let clean : AllByRecursion CleanLine (ls ++ division ∷ after) = all_both CleanLine ls (division ∷ after) (all_clean u i.trace) ((omega arith, (refl, (refl, tt))), cert_clean input.cert i.cert) in
    ap divided (ap lines (append_assoc (text_of u) (line_of division) (flat_map line_of after) ∙ joined_text u (division ∷ after)) ∙ header_cut f (ls ++ division ∷ after) clean)
    ∙ other_line (header f) (texts (ls ++ division ∷ after)) (header_other f) (some_texts (ls ++ division ∷ after))
    ∙ ap (λ (d : List (List ℕ) × Option (List (List ℕ))). (header f ∷ d.0, d.1)) (divided_again (empty f) u ls after (all_clean u i.trace) (all_fold u i.trace))

pub complete_input : (input : CheckInput) → IsInput input → check_reading (input_text input) ≡ Ok input
unfolding check_reading
complete_input input i =
    let u = input.trace in
    let prefix : List (List ℕ) = header u.form ∷ texts (lines_after_header u) in
    let read : List (List ℕ) × Option (List (List ℕ)) → Result CheckInput TraceFault = λ d. reading_lines d.0 >>= λ trace. cert_after (length d.0) d.1 >>= λ cert. Ok (record { trace = trace; cert = cert }) in
    rw (not_less 134217728 (length (input_text input)) (nat_lt 134217728 (length (input_text input))) refl i.size)
    (ap read (input_divided input i)
    ∙ ap (λ r. r >>= λ trace. cert_from (length prefix + 1) (texts (cert_lines input.cert)) >>= λ cert. Ok (record { trace = trace; cert = cert })) (header_read u i.trace)
    ∙ ap (λ r. r >>= λ cert. Ok (record { trace = u; cert = cert })) (cert_again (length prefix + 1) input.cert i.cert))

-- what a reader gives is what the text spells
pub gives_input : {X : Type 0} (view : X → CheckInput) (r : Result X ReadFault) (text : List ℕ) → Gives view r (check_reading text) → (input : CheckInput) → IsInput input → text ≡ input_text input → Gives view r (Ok input)
gives_input view r text h input i e =
    let P : Result CheckInput TraceFault → Type 0 = λ x. Gives view r x in
    subst P (ap check_reading e ∙ complete_input input i) h

-- a text spells one trace and certificate
pub one_input : (input other : CheckInput) → IsInput input → IsInput other → input_text input ≡ input_text other → input ≡ other
one_input input other i j h =
    let a : ◌≡◌ {A = Result CheckInput TraceFault} (Ok input) (Ok other) = sym (complete_input input i) ∙ ap check_reading h ∙ complete_input other j in
    cc a
