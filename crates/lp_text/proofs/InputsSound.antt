-- What is read of the input of a check is a trace and a certificate, and the text is their spelling.
use Rattle.std.proofs.Common.{◌≡◌, ◌<◌, ◌≤◌, ◌+◌, ℕ, Bool, true, false, List, [], ◌∷◌, ◌++◌, length, map, Option, None, Some, Result, Ok, Err, cond, refl, sym, ap, ◌∙◌, arith, subst, append_assoc, codes}
use Rattle.std.specs.Prelude.{nat_lt, ◌==◌}
use Rattle.std.specs.List.{AllByRecursion, flat_map, join_with_byte}
use Rattle.std.specs.Str.{bytes_eq}
use Rattle.std.proofs.lemmas.Bool.{ltb-false}
use Rattle.std.proofs.lemmas.List.{append-nil, length-append}
use Rattle.lp_definitions.specs.declared.cert.Cert.{Cert}
use Rattle.lp_definitions.specs.declared.line.Line.{Line}
use Rattle.lp_text.specs.CertTexts.{cert_lines, claim_words, reason_words}
use Rattle.lp_text.specs.declared.check_input.CheckInput.{CheckInput}
use Rattle.lp_text.specs.declared.fault.Cause.{Cause}
use Rattle.lp_text.specs.declared.fault.Cause.TheVariants as cause
use Rattle.lp_text.specs.Words.{line_of, lines, words}
use Rattle.lp_text.specs.Traces.{text_of}
use Rattle.lp_text.specs.Reading.{fault_at, reading_lines}
use Rattle.lp_text.specs.CheckReading.{as_cert, cert_after, cert_from, check_reading, claim_line, divided, reason_line, reasons_from}
use Rattle.lp_text.specs.CheckTexts.{IsCert, IsInput, IsReason, division, input_text}
use Rattle.lp_text.proofs.Choices.{guard_ok, bind_ok, ok_is}
use Rattle.lp_text.proofs.Spelled.{is}
use Rattle.lp_text.proofs.Sound.{empty_list, fault_ok, is_trace, joined, lines_read, no_choice}
use Rattle.lp_text.proofs.CertSpelled.{claim_line_spelled, reason_line_spelled}

-- the bytes of lines, each by its words
abbrev bytes_of : List (List (List ℕ)) → List ℕ
bytes_of ls = flat_map line_of ls

as_cert_ok : {A : Type 0} (r : Result A Cause) (x : A) → as_cert r ≡ Ok x → r ≡ Ok x
as_cert_ok (Ok y) x h = ap (λ z. Ok z) (ok_is h)
as_cert_ok (Err why) x h = absurd (cc h)

-- the words of a line with its end
line_bytes : (line : List ℕ) (ws : List (List ℕ)) → words line ≡ ws → line ++ 10 ∷ [] ≡ line_of ws
line_bytes line ws h = ap (λ l. l ++ 10 ∷ []) (sym (joined 32 line)) ∙ ap line_of h

-- a line before others
line_before : (line : List ℕ) (ws : List (List ℕ)) (next : List ℕ) (more : List (List ℕ)) (after : List (List (List ℕ))) → words line ≡ ws → join_with_byte 10 (next ∷ more) ≡ bytes_of after → join_with_byte 10 (line ∷ next ∷ more) ≡ bytes_of (ws ∷ after)
line_before line ws next more after h k =
    sym (append_assoc line (10 ∷ []) (join_with_byte 10 (next ∷ more))) ∙ ap (λ l. l ++ join_with_byte 10 (next ∷ more)) (line_bytes line ws h) ∙ ap (λ b. line_of ws ++ b) k

-- ---- The certificate

-- what some lines add to the reasons
record Reasons (so_far : List Line) (ls : List (List ℕ)) (reasons : List Line) : Type 0 where
  more : List Line
  added : reasons ≡ so_far ++ more
  limits : AllByRecursion IsReason more
  bytes : join_with_byte 10 ls ≡ bytes_of (map reason_words more)

no_more : (so_far : List Line) (rest : List ℕ) (reasons : List Line) (b : Bool) → (length rest == 0) ≡ b → cond b (Ok so_far) (Err cause.Unended) ≡ Ok reasons → Reasons so_far (rest ∷ []) reasons
no_more so_far rest reasons true e h = record { more = []; added = sym (ok_is h) ∙ sym (append-nil so_far); limits = tt; bytes = empty_list rest true e refl }
no_more so_far rest reasons false e h = absurd (cc h)

reasons_read : (number : ℕ) (so_far : List Line) (ls : List (List ℕ)) (reasons : List Line) → 0 < length ls → reasons_from number so_far ls ≡ Ok reasons → Reasons so_far ls reasons
unfolding reasons_from
reasons_read number so_far [] reasons some h = absurd (omega arith)
reasons_read number so_far (rest ∷ []) reasons some h = no_more so_far rest reasons (length rest == 0) refl (fault_ok number _ reasons h)
reasons_read number so_far (line ∷ next ∷ more) reasons some h =
    let a = bind_ok (fault_at number (as_cert (reason_line (words line)))) _ reasons h in
    let b = reason_line_spelled (words line) a.0 (as_cert_ok (reason_line (words line)) a.0 (fault_ok number (as_cert (reason_line (words line))) a.0 a.1)) in
    let r = reasons_read (number + 1) (so_far ++ a.0 ∷ []) (next ∷ more) reasons (omega arith) a.2 in
    record {
      more = a.0 ∷ r.more;
      added = r.added ∙ append_assoc so_far (a.0 ∷ []) r.more;
      limits = (b.1, r.limits);
      bytes = line_before line (reason_words a.0) next more (map reason_words r.more) b.0 r.bytes;
    }

-- what was read is a certificate, whose lines these are
abbrev Certifies : List (List ℕ) → Cert → Type 0
Certifies ls cert = IsCert cert × (join_with_byte 10 ls ≡ bytes_of (cert_lines cert))

cert_read : (number : ℕ) (ls : List (List ℕ)) (cert : Cert) → cert_from number ls ≡ Ok cert → Certifies ls cert
unfolding cert_from
cert_read number [] cert h = absurd (cc h)
cert_read number (rest ∷ []) cert h = absurd (no_choice (length rest == 0) cause.Cert cause.Unended cert (fault_ok number _ cert h))
cert_read number (line ∷ next ∷ more) cert h =
    let a = bind_ok (fault_at number (as_cert (claim_line (words line)))) _ cert h in
    let b = bind_ok (reasons_from (number + 1) [] (next ∷ more)) _ cert a.2 in
    let claim = claim_line_spelled (words line) a.0 (as_cert_ok (claim_line (words line)) a.0 (fault_ok number (as_cert (claim_line (words line))) a.0 a.1)) in
    let r = reasons_read (number + 1) [] (next ∷ more) b.0 (omega arith) b.1 in
    let all : b.0 ≡ r.more = r.added in
    let R : List Line → Type 0 = λ ls. AllByRecursion IsReason ls in
    let P : Cert → Type 0 = λ c. Certifies (line ∷ next ∷ more) c in
    subst P (ok_is b.2) (
      record { leg = claim.leg; group = claim.group; upto = claim.upto; lines = subst R (sym all) r.limits },
      line_before line (claim_words a.0) next more (map reason_words b.0) claim.words (r.bytes ∙ ap (λ ls. bytes_of (map reason_words ls)) (sym all)),
    )

-- ---- The division

-- lines with the line `lpcert 1` between two parts of them
record Divided (ls prefix more : List (List ℕ)) : Type 0 where
  some : 0 < length prefix
  bytes : join_with_byte 10 ls ≡ join_with_byte 10 prefix ++ line_of division ++ join_with_byte 10 more

join_next : (line : List ℕ) (tail : List (List ℕ)) → 0 < length tail → join_with_byte 10 (line ∷ tail) ≡ line ++ 10 ∷ join_with_byte 10 tail
join_next line [] h = absurd (omega arith)
join_next line (next ∷ more) h = refl

-- the parts of some lines by what the first is, and what the others divide into
abbrev split : Bool → List ℕ → List (List ℕ) → List (List ℕ) × Option (List (List ℕ)) → List (List ℕ) × Option (List (List ℕ))
split b line tail further = cond b ([] ∷ [], Some tail) (line ∷ further.0, further.1)

choose : (b : Bool) (line : List ℕ) (tail : List (List ℕ)) (further : List (List ℕ) × Option (List (List ℕ))) (more : List (List ℕ)) → 0 < length tail → bytes_eq line (codes "lpcert 1") ≡ b → (further.1 ≡ Some more → Divided tail further.0 more) → (split b line tail further).1 ≡ Some more → Divided (line ∷ tail) (split b line tail further).0 more
choose true line tail further more some e rest h =
    let same : tail ≡ more = cc h in
    record {
      some = omega arith;
      bytes = join_next line tail some ∙ ap (λ l. l ++ 10 ∷ join_with_byte 10 tail) (is line (codes "lpcert 1") e) ∙ ap (λ t. codes "lpcert 1" ++ 10 ∷ join_with_byte 10 t) same;
    }
choose false line tail further more some e rest h =
    let r = rest h in
    let begin : List ℕ = join_with_byte 10 further.0 in
    record {
      some = omega arith;
      bytes =
          join_next line tail some
          ∙ ap (λ b. line ++ 10 ∷ b) r.bytes
          ∙ sym (append_assoc line (10 ∷ begin ++ line_of division) (join_with_byte 10 more))
          ∙ ap (λ b. b ++ join_with_byte 10 more) (sym (append_assoc line (10 ∷ begin) (line_of division)))
          ∙ ap (λ b. b ++ line_of division ++ join_with_byte 10 more) (sym (join_next line further.0 r.some));
    }

divided_read : (ls more : List (List ℕ)) → (divided ls).1 ≡ Some more → Divided ls (divided ls).0 more
unfolding divided
divided_read [] more h = absurd (cc h)
divided_read (rest ∷ []) more h = absurd (cc h)
divided_read (line ∷ next ∷ rest) more h =
    choose (bytes_eq line (codes "lpcert 1")) line (next ∷ rest) (divided (next ∷ rest)) more (omega arith) refl (λ k. divided_read (next ∷ rest) more k) h

-- ---- The input

after : (number : ℕ) (o : Option (List (List ℕ))) (cert : Cert) → cert_after number o ≡ Ok cert → (more : List (List ℕ)) × (o ≡ Some more) × (cert_from (number + 1) more ≡ Ok cert)
after number None cert h = absurd (cc h)
after number (Some more) cert h = (more, refl, h)

pub sound_input : (text : List ℕ) (input : CheckInput) → check_reading text ≡ Ok input → IsInput input × (text ≡ input_text input)
unfolding check_reading
sound_input text input h =
    let a = guard_ok (nat_lt 134217728 (length text)) _ _ input h in
    let parts : List (List ℕ) × Option (List (List ℕ)) = divided (lines text) in
    let t = bind_ok (reading_lines parts.0) _ input a.1 in
    let d = bind_ok (cert_after (length parts.0) parts.1) _ input t.2 in
    let e = after (length parts.0) parts.1 d.0 d.1 in
    let trace = lines_read parts.0 t.0 t.1 in
    let cert = cert_read (length parts.0 + 1) e.0 d.0 e.2 in
    let cut = divided_read (lines text) e.0 e.1 in
    let few : length text ≤ 134217728 = ltb-false 134217728 (length text) a.0 in
    let whole : text ≡ text_of t.0 ++ line_of division ++ bytes_of (cert_lines d.0) =
    sym (joined 10 text)
    ∙ cut.bytes
    ∙ ap (λ b. b ++ line_of division ++ join_with_byte 10 e.0) trace.2
    ∙ ap (λ b. text_of t.0 ++ line_of division ++ b) cert.1
    in
    let long : length text ≡ length (text_of t.0) + length (line_of division) + length (bytes_of (cert_lines d.0)) =
    ap length whole ∙ length-append (text_of t.0 ++ line_of division) (bytes_of (cert_lines d.0)) ∙ ap (λ n. n + length (bytes_of (cert_lines d.0))) (length-append (text_of t.0) (line_of division))
    in
    let P : CheckInput → Type 0 = λ i. IsInput i × (text ≡ input_text i) in
    subst P (ok_is d.2) (
      record { trace = is_trace t.0 trace.0 trace.1 (omega arith); cert = cert.0; size = omega (arith, few, ap length whole) },
      whole,
    )
