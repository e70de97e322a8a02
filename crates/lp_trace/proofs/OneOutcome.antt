-- Equal reports are of the same form, name and outcome.
use Rattle.std.proofs.Common.{◌≡◌, ◌≢◌, ◌<◌, ℕ, zero, suc, true, false, Bool, List, [], ◌∷◌, ◌++◌, length, map, get_or, drop, Option, None, Some, decimal, codes, refl, sym, ap, ◌∙◌, arith, append_assoc}
use Rattle.std.specs.Prelude.{nat_eq, nat_lt}
use Rattle.std.specs.List.{All, AllByRecursion, flat_map, join_with_byte, list_all}
use Rattle.std.proofs.lemmas.Bool.{and_parts, ltb-true}
use Rattle.lp_stack.specs.declared.number.Level.{Level}
use Rattle.lp_definitions.specs.Events.{refusal_number}
use Rattle.lp_definitions.specs.declared.reply.What.{What}
use Rattle.lp_definitions.specs.declared.reply.What.TheVariants.{Ran, Done, Switched, Refused}
use Rattle.lp_definitions.specs.declared.reply.Reply.{Reply}
use Rattle.lp_definitions.specs.declared.cert.Claim.{Claim}
use Rattle.lp_definitions.specs.declared.cert.Claim.TheVariants.{Waiting, Floor}
use Rattle.lp_definitions.specs.declared.cert.Cert.{Cert}
use Rattle.lp_definitions.specs.Ends.{LegEnd}
use Rattle.lp_definitions.specs.declared.line.Line.{Line}
use Rattle.lp_definitions.specs.declared.line.Line.TheVariants.{Hold, Busy, Born}
use Rattle.lp_text.specs.declared.form.TraceForm.{TraceForm}
use Rattle.lp_text.specs.declared.form.TraceForm.TheVariants.{Single, Stacked, WithResched}
use Rattle.lp_definitions.specs.Outcome.{Outcome}
use Rattle.lp_text.specs.Words.{line_of}
use Rattle.lp_text.specs.CertTexts.{claim_word, cert_lines, reason_words, end_words}
use Rattle.lp_trace.specs.Report.{complete_words, leg_lines, level_word, report, report_header, report_lines, reply_line, reply_lines, target_words, what_words, leg_line}
use Rattle.lp_trace.specs.Laws.{FitsReport}
use Rattle.lp_text.proofs.Complete.{Clean, CleanLine, all_both}
use Rattle.lp_trace.proofs.Decimals.{decimal_clean, either_way}
use Rattle.lp_trace.proofs.ReportTexts.{cut_tells, texts_tell}
use Rattle.lp_trace.proofs.ReportTells.{lines_tell, outcome_lines}

-- ---- No word has a space or a line end

abbrev AreClean : List (List ℕ) → Type 0
AreClean words = AllByRecursion (λ w. Clean w) words

level_clean : (form : TraceForm) (level : ℕ) → Clean (level_word form (record { 0 = level }))
level_clean Single level = either_way (λ word. Clean word) (nat_eq level 0) (codes "old") (codes "new") refl refl
level_clean Stacked level = decimal_clean level
level_clean WithResched level = decimal_clean level

complete_clean : (completed : Bool) → AreClean (complete_words completed)
complete_clean true = (refl, tt)
complete_clean false = tt

numbers_clean : (numbers : List ℕ) → AreClean (map decimal numbers)
numbers_clean [] = tt
numbers_clean (n ∷ numbers) = (decimal_clean n, numbers_clean numbers)

what_clean : (form : TraceForm) (what : What) → AreClean (what_words form what)
what_clean form (Ran level) = (refl, (level_clean form level.0, tt))
what_clean form Done = (refl, tt)
what_clean form (Switched groups) = (refl, numbers_clean groups)
what_clean form (Refused why) = (refl, (decimal_clean (refusal_number why), tt))

reply_clean : (form : TraceForm) (n : ℕ) (reply : Reply) → CleanLine (reply_line form n reply)
reply_clean form n reply = (omega arith, (decimal_clean n, all_both (λ w. Clean w) (what_words form reply.what) (complete_words reply.completed) (what_clean form reply.what) (complete_clean reply.completed)))

replies_clean : (form : TraceForm) (n : ℕ) (replies : List Reply) → AllByRecursion CleanLine (reply_lines form n replies)
unfolding reply_lines
replies_clean form n [] = tt
replies_clean form n (reply ∷ replies) = (reply_clean form n reply, replies_clean form (suc n) replies)

reason_clean : (line : Line) → CleanLine (reason_words line)
reason_clean (Hold group task serial from to) = (omega arith, (refl, numbers_clean (group.0 ∷ task.0 ∷ serial ∷ from ∷ to ∷ [])))
reason_clean (Busy group task at) = (omega arith, (refl, numbers_clean (group.0 ∷ task.0 ∷ at ∷ [])))
reason_clean (Born group parent at) = (omega arith, (refl, numbers_clean (group.0 ∷ parent.0 ∷ at ∷ [])))

reasons_clean : (lines : List Line) → AllByRecursion CleanLine (map reason_words lines)
reasons_clean [] = tt
reasons_clean (line ∷ lines) = (reason_clean line, reasons_clean lines)

claim_clean : (claim : Claim) → Clean (claim_word claim)
claim_clean Waiting = refl
claim_clean Floor = refl

certs_clean : (certs : List Cert) → AllByRecursion CleanLine (flat_map cert_lines certs)
certs_clean [] = tt
certs_clean (cert ∷ certs) =
    ((omega arith, (claim_clean cert.claim, numbers_clean (cert.leg ∷ cert.group.0 ∷ cert.upto ∷ []))), all_both CleanLine (map reason_words cert.lines) (flat_map cert_lines certs) (reasons_clean cert.lines) (certs_clean certs))

target_clean : (form : TraceForm) (level : Level) → AreClean (target_words form level)
target_clean Single level = (level_clean Single level.0, tt)
target_clean Stacked level = (refl, (level_clean Stacked level.0, tt))
target_clean WithResched level = (refl, (level_clean WithResched level.0, tt))

end_clean : (completed : Option ℕ) (n : ℕ) → AreClean (end_words completed n)
end_clean (Some event) n = (refl, (decimal_clean event, tt))
end_clean None n = (refl, (decimal_clean n, tt))

leg_clean : (form : TraceForm) (leg : LegEnd) → CleanLine (leg_line form leg)
leg_clean form leg =
    (omega arith, (refl, (decimal_clean leg.opened, all_both (λ w. Clean w) (target_words form leg.target) (end_words leg.completed (length leg.certs)) (target_clean form leg.target) (end_clean leg.completed (length leg.certs)))))

legs_clean : (form : TraceForm) (legs : List LegEnd) → AllByRecursion CleanLine (flat_map (leg_lines form) legs)
legs_clean form [] = tt
legs_clean form (leg ∷ legs) =
    (leg_clean form leg, all_both CleanLine (flat_map cert_lines leg.certs) (flat_map (leg_lines form) legs) (certs_clean leg.certs) (legs_clean form legs))

lines_clean : (form : TraceForm) (found : Outcome) → AllByRecursion CleanLine (outcome_lines form found)
lines_clean form found =
    all_both CleanLine (reply_lines form 1 found.replies ++ flat_map (leg_lines form) found.legs) _
    (all_both CleanLine (reply_lines form 1 found.replies) (flat_map (leg_lines form) found.legs) (replies_clean form 1 found.replies) (legs_clean form found.legs))
    ((omega arith, (refl, (decimal_clean found.stays, (refl, (decimal_clean found.mixed, tt))))), tt)

-- ---- The first two lines

abbrev model_line : List ℕ → List ℕ
model_line name = join_with_byte 32 (codes "model" ∷ name ∷ [])

report_cut : (form : TraceForm) (name : List ℕ) (found : Outcome) → report form name found ≡ report_header form ++ 10 ∷ (model_line name ++ 10 ∷ flat_map line_of (outcome_lines form found))
unfolding report report_lines
report_cut form name found =
    append_assoc (report_header form) (10 ∷ []) (flat_map line_of (report_lines form name found))
    ∙ ap (λ l. report_header form ++ 10 ∷ l) (append_assoc (model_line name) (10 ∷ []) (flat_map line_of (outcome_lines form found)))

abbrev NoLineEnd : List ℕ → Type 0
NoLineEnd bytes = All (λ byte. byte ≢ 10) bytes

no_line_end : (c : ℕ) (bytes : List ℕ) → c ≢ 10 → NoLineEnd bytes → NoLineEnd (c ∷ bytes)
no_line_end c bytes p q zero d below = p
no_line_end c bytes p q (suc k) d below = q k d (omega arith)

after_no_end : (a b : List ℕ) → list_all (nat_lt 10) a ≡ true → NoLineEnd b → NoLineEnd (a ++ b)
after_no_end [] b h q = q
after_no_end (c ∷ a) b h q =
    let test = and_parts (nat_lt 10 c) (list_all (nat_lt 10) a) h in
    let above : 10 < c = ltb-true 10 c test.0 in
    no_line_end c (a ++ b) (λ e. omega arith) (after_no_end a b test.1 q)

header_whole : (form : TraceForm) → NoLineEnd (report_header form)
header_whole Single = after_no_end (codes "lpreport 1") [] refl (λ k d below. absurd (omega arith))
header_whole Stacked = after_no_end (codes "lpreport 2") [] refl (λ k d below. absurd (omega arith))
header_whole WithResched = after_no_end (codes "lpreport 3") [] refl (λ k d below. absurd (omega arith))

model_whole : (name : List ℕ) → NoLineEnd name → NoLineEnd (model_line name)
model_whole name h = after_no_end (codes "model ") name refl h

module _ (form : TraceForm) (name other_name : List ℕ) (found other : Outcome) (n : NoLineEnd name) (m : NoLineEnd other_name) (p : FitsReport form found) (q : FitsReport form other) where
  same_form : report form name found ≡ report form other_name other → (name ≡ other_name) × (found ≡ other)
  same_form e =
      let after = (cut_tells (report_header form) (report_header form) _ _ (header_whole form) (header_whole form) (sym (report_cut form name found) ∙ e ∙ report_cut form other_name other)).1 in
      let both = cut_tells (model_line name) (model_line other_name) _ _ (model_whole name n) (model_whole other_name m) after in
      (ap (drop 6) both.0, lines_tell form found other p q (texts_tell (outcome_lines form found) (outcome_lines form other) (lines_clean form found) (lines_clean form other) both.1))

other_forms : (form other_form : TraceForm) (name other_name : List ℕ) (found other : Outcome) → report form name found ≡ report other_form other_name other → report_header form ≡ report_header other_form
other_forms form other_form name other_name found other e =
    (cut_tells (report_header form) (report_header other_form) _ _ (header_whole form) (header_whole other_form) (sym (report_cut form name found) ∙ e ∙ report_cut other_form other_name other)).0

pub one_outcome : (form other_form : TraceForm) (name other_name : List ℕ) (found other : Outcome) → NoLineEnd name → NoLineEnd other_name → FitsReport form found → FitsReport other_form other → report form name found ≡ report other_form other_name other → (form ≡ other_form) × (name ≡ other_name) × (found ≡ other)
one_outcome Single Single name other_name found other n m p q e =
    let same = same_form Single name other_name found other n m p q e in
    (refl, same.0, same.1)
one_outcome Stacked Stacked name other_name found other n m p q e =
    let same = same_form Stacked name other_name found other n m p q e in
    (refl, same.0, same.1)
one_outcome WithResched WithResched name other_name found other n m p q e =
    let same = same_form WithResched name other_name found other n m p q e in
    (refl, same.0, same.1)
one_outcome Single Stacked name other_name found other n m p q e =
    absurd (omega (arith, ap (λ l. get_or l 9 0) (other_forms Single Stacked name other_name found other e)))
one_outcome Stacked Single name other_name found other n m p q e =
    absurd (omega (arith, ap (λ l. get_or l 9 0) (other_forms Stacked Single name other_name found other e)))
one_outcome Single WithResched name other_name found other n m p q e =
    absurd (omega (arith, ap (λ l. get_or l 9 0) (other_forms Single WithResched name other_name found other e)))
one_outcome WithResched Single name other_name found other n m p q e =
    absurd (omega (arith, ap (λ l. get_or l 9 0) (other_forms WithResched Single name other_name found other e)))
one_outcome Stacked WithResched name other_name found other n m p q e =
    absurd (omega (arith, ap (λ l. get_or l 9 0) (other_forms Stacked WithResched name other_name found other e)))
one_outcome WithResched Stacked name other_name found other n m p q e =
    absurd (omega (arith, ap (λ l. get_or l 9 0) (other_forms WithResched Stacked name other_name found other e)))
