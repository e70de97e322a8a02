-- Equal reports are of equal outcomes.
use Rattle.std.proofs.Common.{◌≡◌, ℕ, suc, List, [], ◌∷◌, ◌++◌, length, map, get_or, decimal, refl, sym, ap, ◌∙◌, arith, append_assoc}
use Rattle.std.specs.List.{All, flat_map}
use Rattle.lp_stack.specs.declared.number.GroupId.{GroupId}
use Rattle.lp_stack.specs.declared.number.TaskId.{TaskId}
use Rattle.lp_definitions.specs.declared.reply.Reply.{Reply}
use Rattle.lp_definitions.specs.declared.cert.Claim.{Claim}
use Rattle.lp_definitions.specs.declared.cert.Claim.TheVariants.{Waiting, Floor}
use Rattle.lp_definitions.specs.declared.cert.Cert.{Cert}
use Rattle.lp_definitions.specs.Ends.{LegEnd}
use Rattle.lp_definitions.specs.declared.line.Line.{Line}
use Rattle.lp_definitions.specs.declared.line.Line.TheVariants.{Hold, Busy, Born}
use Rattle.lp_text.specs.declared.form.TraceForm.{TraceForm}
use Rattle.lp_definitions.specs.Outcome.{Outcome}
use Rattle.lp_text.specs.CertTexts.{claim_word, cert_lines, reason_words}
use Rattle.lp_trace.specs.Report.{reply_line, reply_lines, leg_lines, stays_line}
use Rattle.lp_trace.specs.Laws.{IsWholeLeg, FitsReport, IsWholeWhat, IsWholeCert, IsWholeReason}
use Rattle.lp_trace.proofs.Decimals.{decimal_tells}
use Rattle.lp_trace.proofs.Sections.{Above, blocks, flat_map_blocks, map_blocks, many}
use Rattle.lp_trace.proofs.ReportWords.{decimal_rank, leg_words_tell, line_rank, what_tells}

-- ---- The lines of a certificate

-- the third byte of the first word, by which the three words differ
abbrev third : List (List ℕ) → ℕ
third [] = 0
third (word ∷ words) = get_or word 2 0

same_group : (a b : GroupId) → a.0 ≡ b.0 → a ≡ b
same_group a b e = λ i. record { 0 = e i }

same_task : (a b : TaskId) → a.0 ≡ b.0 → a ≡ b
same_task a b e = λ i. record { 0 = e i }

reason_tells : (line other : Line) → IsWholeReason line → IsWholeReason other → reason_words line ≡ reason_words other → line ≡ other
reason_tells (Hold group task serial from to) (Hold group2 task2 serial2 from2 to2) p q e =
    let g = same_group group group2 (decimal_tells group.0 group2.0 p.0 q.0 (cc e)) in
    let t = same_task task task2 (decimal_tells task.0 task2.0 p.1 q.1 (cc e)) in
    let s = decimal_tells serial serial2 p.2 q.2 (cc e) in
    let f = decimal_tells from from2 p.3 q.3 (cc e) in
    let l = decimal_tells to to2 p.4 q.4 (cc e) in
    λ i. Hold (g i) (t i) (s i) (f i) (l i)
reason_tells (Busy group task at) (Busy group2 task2 at2) p q e =
    let g = same_group group group2 (decimal_tells group.0 group2.0 p.0 q.0 (cc e)) in
    let t = same_task task task2 (decimal_tells task.0 task2.0 p.1 q.1 (cc e)) in
    let a = decimal_tells at at2 p.2 q.2 (cc e) in
    λ i. Busy (g i) (t i) (a i)
reason_tells (Born group parent at) (Born group2 parent2 at2) p q e =
    let g = same_group group group2 (decimal_tells group.0 group2.0 p.0 q.0 (cc e)) in
    let t = same_task parent parent2 (decimal_tells parent.0 parent2.0 p.1 q.1 (cc e)) in
    let a = decimal_tells at at2 p.2 q.2 (cc e) in
    λ i. Born (g i) (t i) (a i)
reason_tells (Hold group task serial from to) (Busy group2 task2 at2) p q e = absurd (omega (arith, ap third e))
reason_tells (Hold group task serial from to) (Born group2 parent2 at2) p q e = absurd (omega (arith, ap third e))
reason_tells (Busy group task at) (Hold group2 task2 serial2 from2 to2) p q e = absurd (omega (arith, ap third e))
reason_tells (Busy group task at) (Born group2 parent2 at2) p q e = absurd (omega (arith, ap third e))
reason_tells (Born group parent at) (Hold group2 task2 serial2 from2 to2) p q e = absurd (omega (arith, ap third e))
reason_tells (Born group parent at) (Busy group2 task2 at2) p q e = absurd (omega (arith, ap third e))

reason_opens : (line : Line) → line_rank (reason_words line) ≡ 2
reason_opens (Hold group task serial from to) = refl
reason_opens (Busy group task at) = refl
reason_opens (Born group parent at) = refl

reasons_tell : (lines others : List Line) (r s : List (List (List ℕ))) → All IsWholeReason lines → All IsWholeReason others → Above line_rank 2 r → Above line_rank 2 s → map reason_words lines ++ r ≡ map reason_words others ++ s → (lines ≡ others) × (r ≡ s)
reasons_tell lines others r s p q hr hs e =
    many line_rank 1 (λ _ line. reason_words line ∷ []) IsWholeReason (λ n line. reason_opens line) (λ n line other x y l o _ _ h. (reason_tells line other l o (cc h), cc h)) 0 lines others r s p q hr hs (ap (λ l. l ++ r) (sym (map_blocks reason_words 0 lines)) ∙ e ∙ ap (λ l. l ++ s) (map_blocks reason_words 0 others))

-- ---- The certificates of a leg

claim_tells : (claim other : Claim) → claim_word claim ≡ claim_word other → claim ≡ other
claim_tells Waiting Waiting e = refl
claim_tells Waiting Floor e = absurd (omega (arith, ap (λ w. get_or w 0 0) e))
claim_tells Floor Waiting e = absurd (omega (arith, ap (λ w. get_or w 0 0) e))
claim_tells Floor Floor e = refl

claim_opens : (claim : Claim) (words : List (List ℕ)) → line_rank (claim_word claim ∷ words) ≡ 3
claim_opens Waiting words = refl
claim_opens Floor words = refl

cert_tells : (cert other : Cert) (r s : List (List (List ℕ))) → IsWholeCert cert → IsWholeCert other → Above line_rank 2 r → Above line_rank 2 s → cert_lines cert ++ r ≡ cert_lines other ++ s → (cert ≡ other) × (r ≡ s)
cert_tells cert other r s p q hr hs e =
    let claim = claim_tells cert.claim other.claim (cc e) in
    let leg = decimal_tells cert.leg other.leg p.leg q.leg (cc e) in
    let group = same_group cert.group other.group (decimal_tells cert.group.0 other.group.0 p.group q.group (cc e)) in
    let upto = decimal_tells cert.upto other.upto p.upto q.upto (cc e) in
    let lines = reasons_tell cert.lines other.lines r s p.lines q.lines hr hs (cc e) in
    (λ i. record { claim = claim i; leg = leg i; group = group i; upto = upto i; lines = lines.0 i }, lines.1)

certs_tell : (certs others : List Cert) (r s : List (List (List ℕ))) → All IsWholeCert certs → All IsWholeCert others → Above line_rank 3 r → Above line_rank 3 s → flat_map cert_lines certs ++ r ≡ flat_map cert_lines others ++ s → (certs ≡ others) × (r ≡ s)
certs_tell certs others r s p q hr hs e =
    many line_rank 2 (λ _ cert. cert_lines cert) IsWholeCert (λ n cert. claim_opens cert.claim (map decimal (cert.leg ∷ cert.group.0 ∷ cert.upto ∷ []))) (λ n. cert_tells) 0 certs others r s p q hr hs (ap (λ l. l ++ r) (sym (flat_map_blocks cert_lines 0 certs)) ∙ e ∙ ap (λ l. l ++ s) (flat_map_blocks cert_lines 0 others))

-- ---- The replies and the legs

module _ (form : TraceForm) where
  leg_tells : (leg other : LegEnd) (r s : List (List (List ℕ))) → IsWholeLeg form leg → IsWholeLeg form other → Above line_rank 3 r → Above line_rank 3 s → leg_lines form leg ++ r ≡ leg_lines form other ++ s → (leg ≡ other) × (r ≡ s)
  leg_tells leg other r s p q hr hs e =
      let opened = decimal_tells leg.opened other.opened p.opened q.opened (cc e) in
      let words = leg_words_tell form leg.target other.target leg.completed other.completed (length leg.certs) (length other.certs) p.target q.target p.completed q.completed (cc e) in
      let certs = certs_tell leg.certs other.certs r s p.certs q.certs hr hs (cc e) in
      (λ i. record { opened = opened i; target = words.0 i; completed = words.1 i; certs = certs.0 i }, certs.1)

  legs_tell : (legs others : List LegEnd) (r s : List (List (List ℕ))) → All (IsWholeLeg form) legs → All (IsWholeLeg form) others → Above line_rank 4 r → Above line_rank 4 s → flat_map (leg_lines form) legs ++ r ≡ flat_map (leg_lines form) others ++ s → (legs ≡ others) × (r ≡ s)
  legs_tell legs others r s p q hr hs e =
      many line_rank 3 (λ _ leg. leg_lines form leg) (IsWholeLeg form) (λ n leg. refl) (λ n. leg_tells) 0 legs others r s p q hr hs (ap (λ l. l ++ r) (sym (flat_map_blocks (leg_lines form) 0 legs)) ∙ e ∙ ap (λ l. l ++ s) (flat_map_blocks (leg_lines form) 0 others))

  reply_tells : (n : ℕ) (reply other : Reply) → IsWholeWhat form reply.what → IsWholeWhat form other.what → reply_line form n reply ≡ reply_line form n other → reply ≡ other
  reply_tells n reply other p q e =
      let same = what_tells form reply.what other.what reply.completed other.completed p q (cc e) in
      λ i. record { what = same.0 i; completed = same.1 i }

  reply_blocks : (n : ℕ) (replies : List Reply) → reply_lines form n replies ≡ blocks (λ number reply. reply_line form number reply ∷ []) n replies
  unfolding reply_lines
  reply_blocks n [] = refl
  reply_blocks n (reply ∷ replies) = ap (λ l. reply_line form n reply ∷ l) (reply_blocks (suc n) replies)

  replies_tell : (n : ℕ) (replies others : List Reply) (r s : List (List (List ℕ))) → All (λ reply. IsWholeWhat form reply.what) replies → All (λ reply. IsWholeWhat form reply.what) others → Above line_rank 1 r → Above line_rank 1 s → reply_lines form n replies ++ r ≡ reply_lines form n others ++ s → (replies ≡ others) × (r ≡ s)
  replies_tell n replies others r s p q hr hs e =
      many line_rank 0 (λ number reply. reply_line form number reply ∷ []) (λ reply. IsWholeWhat form reply.what) (λ number reply. decimal_rank number) (λ number reply other x y l o _ _ h. (reply_tells number reply other l o (cc h), cc h)) n replies others r s p q hr hs (ap (λ l. l ++ r) (sym (reply_blocks n replies)) ∙ e ∙ ap (λ l. l ++ s) (reply_blocks n others))

  -- the lines after the model's name
  abbrev pub outcome_lines : Outcome → List (List (List ℕ))
  outcome_lines found = reply_lines form 1 found.replies ++ flat_map (leg_lines form) found.legs ++ stays_line found ∷ []

  legs_above : (legs : List LegEnd) (found : Outcome) → Above line_rank 1 (flat_map (leg_lines form) legs ++ stays_line found ∷ [])
  legs_above [] found = omega arith
  legs_above (leg ∷ legs) found = omega arith

  pub lines_tell : (found other : Outcome) → FitsReport form found → FitsReport form other → outcome_lines found ≡ outcome_lines other → found ≡ other
  lines_tell found other p q e =
      let a : List (List (List ℕ)) = flat_map (leg_lines form) found.legs in
      let b : List (List (List ℕ)) = flat_map (leg_lines form) other.legs in
      let replies = replies_tell 1 found.replies other.replies (a ++ stays_line found ∷ []) (b ++ stays_line other ∷ []) p.replies q.replies (legs_above found.legs found) (legs_above other.legs other) (sym (append_assoc (reply_lines form 1 found.replies) a (stays_line found ∷ [])) ∙ e ∙ append_assoc (reply_lines form 1 other.replies) b (stays_line other ∷ [])) in
      let legs = legs_tell found.legs other.legs (stays_line found ∷ []) (stays_line other ∷ []) p.legs q.legs (omega arith) (omega arith) replies.1 in
      let last : stays_line found ≡ stays_line other = cc legs.1 in
      let stays = decimal_tells found.stays other.stays p.stays q.stays (cc last) in
      let mixed = decimal_tells found.mixed other.mixed p.mixed q.mixed (cc last) in
      λ i. record { replies = replies.0 i; legs = legs.0 i; stays = stays i; mixed = mixed i }
