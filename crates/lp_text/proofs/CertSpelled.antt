-- What is read from the words of a certificate is what they spell.
use Rattle.std.proofs.Common.{◌≡◌, ◌<◌, ◌≤◌, ℕ, Bool, true, false, List, [], ◌∷◌, map, Some, Result, Ok, Err, cond, refl, ap, ◌∙◌, arith, subst, codes}
use Rattle.std.specs.Prelude.{nat_le, decimal}
use Rattle.std.specs.Str.{bytes_eq}
use Rattle.std.proofs.lemmas.Bool.{leb-true}
use Rattle.lp_definitions.specs.declared.cert.Claim.{Claim}
use Rattle.lp_definitions.specs.declared.cert.Claim.TheVariants.{Waiting, Floor}
use Rattle.lp_definitions.specs.declared.cert.Cert.{Cert}
use Rattle.lp_definitions.specs.declared.line.Line.{Line}
use Rattle.lp_text.specs.CertTexts.{claim_word, claim_words, reason_words}
use Rattle.lp_text.specs.declared.fault.Cause.TheVariants as cause
use Rattle.lp_text.specs.Reading.{needs, next_word, last_word, next_number}
use Rattle.lp_text.specs.CheckReading.{claim_of, event_number_of, next_event, last_event, next_member, claim_line, hold_line, busy_line, born_line, reason_line}
use Rattle.lp_text.specs.CheckTexts.{IsEventNumber, IsMember, IsReason}
use Rattle.lp_text.proofs.Choices.{pass_ok, bind_ok, ok_is}
use Rattle.lp_text.proofs.Spelled.{is, last_word_spelled, needs_ok, next_number_spelled, next_word_spelled, nothing, numeral_spelled, pick}

-- ---- Words

event_number_spelled : (word : List ℕ) (n : ℕ) → event_number_of word ≡ Some n → (word ≡ decimal n) × IsEventNumber n
unfolding event_number_of
event_number_spelled word n h = numeral_spelled 7 word n (omega arith) h

next_event_spelled : (given : List (List ℕ)) (x : ℕ × List (List ℕ)) → next_event given ≡ Ok x → (given ≡ decimal x.0 ∷ x.1) × IsEventNumber x.0
unfolding next_event
next_event_spelled given x h =
    let a = bind_ok (next_word given) _ x h in
    let b = bind_ok (needs cause.Cert (event_number_of a.0.0)) _ x a.2 in
    let n = event_number_spelled a.0.0 b.0 (needs_ok cause.Cert (event_number_of a.0.0) b.0 b.1) in
    let small : b.0 < 10000000 = n.1 in
    (next_word_spelled given a.0 a.1 ∙ ap (λ w. w ∷ a.0.1) n.0 ∙ ap (λ y. decimal y.0 ∷ y.1) (ok_is b.2), omega (arith, small, ap (λ y. y.0) (ok_is b.2)))

last_event_spelled : (given : List (List ℕ)) (n : ℕ) → last_event given ≡ Ok n → (given ≡ decimal n ∷ []) × IsEventNumber n
unfolding last_event
last_event_spelled given n h =
    let a = bind_ok (last_word given) _ n h in
    let b = event_number_spelled a.0 n (needs_ok cause.Cert (event_number_of a.0) n a.2) in
    (last_word_spelled given a.0 a.1 ∙ ap (λ w. w ∷ []) b.0, b.1)

next_member_spelled : (given : List (List ℕ)) (x : ℕ × List (List ℕ)) → next_member given ≡ Ok x → (given ≡ decimal x.0 ∷ x.1) × IsMember x.0
unfolding next_member
next_member_spelled given x h =
    let a = bind_ok (next_number given) _ x h in
    let b = pass_ok (nat_le a.0.0 65535) cause.Cert (Ok a.0) x a.2 in
    let small : a.0.0 ≤ 65535 = leb-true a.0.0 65535 b.0 in
    (next_number_spelled given a.0 a.1 ∙ ap (λ y. decimal y.0 ∷ y.1) (ok_is b.1), omega (arith, small, ap (λ y. y.0) (ok_is b.1)))

claim_spelled : (word : List ℕ) (c : Claim) → claim_of word ≡ Some c → word ≡ claim_word c
claim_spelled word c =
    let P : Claim → Type 0 = λ d. word ≡ claim_word d in
    pick P (bytes_eq word (claim_word Waiting)) Waiting c _ (is word (claim_word Waiting))
    (pick P (bytes_eq word (claim_word Floor)) Floor c _ (is word (claim_word Floor)) (nothing P c))

-- ---- Lines

-- a line spells a claim with no reason yet
pub record SpellsClaim (given : List (List ℕ)) (cert : Cert) : Type 0 where
  pub words : given ≡ claim_words cert
  pub leg : IsEventNumber cert.leg
  pub group : IsMember cert.group.0
  pub upto : IsEventNumber cert.upto
  pub lines : cert.lines ≡ []

pub claim_line_spelled : (given : List (List ℕ)) (cert : Cert) → claim_line given ≡ Ok cert → SpellsClaim given cert
unfolding claim_line
claim_line_spelled given cert h =
    let a = bind_ok (next_word given) _ cert h in
    let b = bind_ok (needs cause.Cert (claim_of a.0.0)) _ cert a.2 in
    let d = bind_ok (next_event a.0.1) _ cert b.2 in
    let e = bind_ok (next_member d.0.1) _ cert d.2 in
    let f = bind_ok (last_event e.0.1) _ cert e.2 in
    let claim : a.0.0 ≡ claim_word b.0 = claim_spelled a.0.0 b.0 (needs_ok cause.Cert (claim_of a.0.0) b.0 b.1) in
    let leg = next_event_spelled a.0.1 d.0 d.1 in
    let group = next_member_spelled d.0.1 e.0 e.1 in
    let upto = last_event_spelled e.0.1 f.0 f.1 in
    let P : Cert → Type 0 = λ c. SpellsClaim given c in
    subst P (ok_is f.2) (record {
      words = next_word_spelled given a.0 a.1 ∙ ap (λ w. w ∷ a.0.1) claim ∙ ap (λ r. claim_word b.0 ∷ r) (leg.0 ∙ ap (λ r. decimal d.0.0 ∷ r) (group.0 ∙ ap (λ r. decimal e.0.0 ∷ r) upto.0));
      leg = leg.1;
      group = group.1;
      upto = upto.1;
      lines = refl;
    })

-- the words after a first word spell a line of a certificate
abbrev SpellsReason : List ℕ → List (List ℕ) → Line → Type 0
SpellsReason word given line = (word ∷ given ≡ reason_words line) × IsReason line

hold_spelled : (given : List (List ℕ)) (line : Line) → hold_line given ≡ Ok line → SpellsReason (codes "hold") given line
unfolding hold_line
hold_spelled given line h =
    let a = bind_ok (next_member given) _ line h in
    let b = bind_ok (next_member a.0.1) _ line a.2 in
    let d = bind_ok (next_event b.0.1) _ line b.2 in
    let e = bind_ok (next_event d.0.1) _ line d.2 in
    let f = bind_ok (last_event e.0.1) _ line e.2 in
    let group = next_member_spelled given a.0 a.1 in
    let task = next_member_spelled a.0.1 b.0 b.1 in
    let serial = next_event_spelled b.0.1 d.0 d.1 in
    let from = next_event_spelled d.0.1 e.0 e.1 in
    let to = last_event_spelled e.0.1 f.0 f.1 in
    let words : given ≡ map decimal (a.0.0 ∷ b.0.0 ∷ d.0.0 ∷ e.0.0 ∷ f.0 ∷ []) =
    group.0 ∙ ap (λ r. decimal a.0.0 ∷ r) (task.0 ∙ ap (λ r. decimal b.0.0 ∷ r) (serial.0 ∙ ap (λ r. decimal d.0.0 ∷ r) (from.0 ∙ ap (λ r. decimal e.0.0 ∷ r) to.0)))
    in
    let P : Line → Type 0 = λ l. SpellsReason (codes "hold") given l in
    subst P (ok_is f.2) (ap (λ r. codes "hold" ∷ r) words, (group.1, task.1, serial.1, from.1, to.1))

busy_spelled : (given : List (List ℕ)) (line : Line) → busy_line given ≡ Ok line → SpellsReason (codes "busy") given line
unfolding busy_line
busy_spelled given line h =
    let a = bind_ok (next_member given) _ line h in
    let b = bind_ok (next_member a.0.1) _ line a.2 in
    let d = bind_ok (last_event b.0.1) _ line b.2 in
    let group = next_member_spelled given a.0 a.1 in
    let task = next_member_spelled a.0.1 b.0 b.1 in
    let at = last_event_spelled b.0.1 d.0 d.1 in
    let words : given ≡ map decimal (a.0.0 ∷ b.0.0 ∷ d.0 ∷ []) = group.0 ∙ ap (λ r. decimal a.0.0 ∷ r) (task.0 ∙ ap (λ r. decimal b.0.0 ∷ r) at.0) in
    let P : Line → Type 0 = λ l. SpellsReason (codes "busy") given l in
    subst P (ok_is d.2) (ap (λ r. codes "busy" ∷ r) words, (group.1, task.1, at.1))

born_spelled : (given : List (List ℕ)) (line : Line) → born_line given ≡ Ok line → SpellsReason (codes "born") given line
unfolding born_line
born_spelled given line h =
    let a = bind_ok (next_member given) _ line h in
    let b = bind_ok (next_member a.0.1) _ line a.2 in
    let d = bind_ok (last_event b.0.1) _ line b.2 in
    let group = next_member_spelled given a.0 a.1 in
    let parent = next_member_spelled a.0.1 b.0 b.1 in
    let at = last_event_spelled b.0.1 d.0 d.1 in
    let words : given ≡ map decimal (a.0.0 ∷ b.0.0 ∷ d.0 ∷ []) = group.0 ∙ ap (λ r. decimal a.0.0 ∷ r) (parent.0 ∙ ap (λ r. decimal b.0.0 ∷ r) at.0) in
    let P : Line → Type 0 = λ l. SpellsReason (codes "born") given l in
    subst P (ok_is d.2) (ap (λ r. codes "born" ∷ r) words, (group.1, parent.1, at.1))

-- one of two ways gave a value
either_way : {A E P : Type 0} (b : Bool) (x y : Result A E) (z : A) → (b ≡ true → x ≡ Ok z → P) → (y ≡ Ok z → P) → cond b x y ≡ Ok z → P
either_way true x y z f g h = f refl h
either_way false x y z f g h = g h

at_word : (word text : List ℕ) (given : List (List ℕ)) (line : Line) → bytes_eq word text ≡ true → SpellsReason text given line → SpellsReason word given line
at_word word text given line same h = (ap (λ w. w ∷ given) (is word text same) ∙ h.0, h.1)

reason_spelled : (word : List ℕ) (given : List (List ℕ)) (line : Line) → cond (bytes_eq word (codes "hold")) (hold_line given) (cond (bytes_eq word (codes "busy")) (busy_line given) (cond (bytes_eq word (codes "born")) (born_line given) (Err cause.Cert))) ≡ Ok line → SpellsReason word given line
reason_spelled word given line =
    let P : Type 0 = SpellsReason word given line in
    either_way {P = P} (bytes_eq word (codes "hold")) (hold_line given) _ line (λ same h. at_word word (codes "hold") given line same (hold_spelled given line h))
    (either_way {P = P} (bytes_eq word (codes "busy")) (busy_line given) _ line (λ same h. at_word word (codes "busy") given line same (busy_spelled given line h))
    (either_way {P = P} (bytes_eq word (codes "born")) (born_line given) _ line (λ same h. at_word word (codes "born") given line same (born_spelled given line h)) (λ h. absurd (cc h))))

pub reason_line_spelled : (given : List (List ℕ)) (line : Line) → reason_line given ≡ Ok line → (given ≡ reason_words line) × IsReason line
unfolding reason_line
reason_line_spelled given line h =
    let a = bind_ok (next_word given) _ line h in
    let b = reason_spelled a.0.0 a.0.1 line a.2 in
    (next_word_spelled given a.0 a.1 ∙ b.0, b.1)
