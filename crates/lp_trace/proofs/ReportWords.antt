-- The words of a report's lines: none has a space or a line end, and equal words are of equal values.
use Rattle.std.proofs.Common.{◌≡◌, ◌<◌, ◌≤◌, ℕ, zero, suc, Bool, true, false, List, [], ◌∷◌, ◌++◌, length, map, get_or, Option, None, Some, decimal, codes, refl, sym, ap, ◌∙◌, arith}
use Rattle.std.specs.Prelude.{nat_eq, nat_le, nat_lt, ◌==◌, ◌||◌, if◌then◌else◌}
use Rattle.std.specs.Char.{is_ascii_digit}
use Rattle.std.specs.List.{All, list_all}
use Rattle.std.proofs.lemmas.Bool.{and_parts, leb-true}
use Rattle.std.proofs.lemmas.Bool.Decides.{Decides-ltb}
use Rattle.lp_stack.specs.declared.number.Level.{Level}
use Rattle.lp_definitions.specs.Events.{refusal_number}
use Rattle.lp_definitions.specs.declared.refusal.Refusal.{Refusal}
use Rattle.lp_definitions.specs.declared.refusal.Refusal.TheVariants.{UnknownTask, UnknownSymbol, TaskRange, TaskUsed, WrongClass, WrongMode, StackFull, StackEmpty, StackNotEmpty, InTransition, NotInTransition, AlreadyThere}
use Rattle.lp_definitions.specs.declared.reply.What.{What}
use Rattle.lp_definitions.specs.declared.reply.What.TheVariants.{Ran, Done, Switched, Refused}
use Rattle.lp_text.specs.declared.form.TraceForm.{TraceForm}
use Rattle.lp_text.specs.declared.form.TraceForm.TheVariants.{Single, Stacked, WithResched}
use Rattle.lp_text.specs.CertTexts.{end_words}
use Rattle.lp_trace.specs.Report.{level_word, what_words, complete_words, target_words}
use Rattle.lp_trace.specs.Laws.{IsWhole, IsWholeLevel, IsWholeWhat, IsWholeEvent}
use Rattle.lp_text.proofs.Pushes.{not_same}
use Rattle.lp_trace.proofs.Decimals.{decimal_digits, decimal_tells}
use Rattle.lp_trace.proofs.Sections.{Above, map_blocks, many}

-- ---- The first byte of a line, and the rank of lines and words that it gives

abbrev pub letter : List ℕ → ℕ
letter [] = 0
letter (c ∷ cs) = c

abbrev of_letter : ℕ → ℕ
of_letter c = if nat_lt c 58 then 1 else if c == 104 || c == 98 then 2 else if c == 119 || c == 102 then 3 else if c == 108 then 4 else 5

-- a number 1; `hold`, `busy` and `born` 2; `waiting` and `floor` 3; `leg` 4; and others 5
abbrev pub word_rank : List ℕ → ℕ
word_rank word = of_letter (letter word)

abbrev pub line_rank : List (List ℕ) → ℕ
line_rank [] = 5
line_rank (word ∷ words) = word_rank word

digits_rank : (word : List ℕ) → list_all is_ascii_digit word ≡ true → word_rank word ≡ 1
digits_rank [] h = refl
digits_rank (c ∷ cs) h =
    let a = and_parts (is_ascii_digit c) (list_all is_ascii_digit cs) h in
    let high : c ≤ 57 = leb-true c 57 (and_parts (nat_le 48 c) (nat_le c 57) a.0).1 in
    let below : nat_lt c 58 ≡ true = (Decides-ltb c 58).1 (omega arith) in
    rw below refl

pub decimal_rank : (n : ℕ) → word_rank (decimal n) ≡ 1
decimal_rank n = digits_rank (decimal n) (decimal_digits n)

-- ---- Levels

same_level : (a b : Level) → a.0 ≡ b.0 → a ≡ b
same_level a b e = λ i. record { 0 = e i }

new_word : (n : ℕ) → 1 ≤ n → level_word Single (record { 0 = n }) ≡ codes "new"
new_word n h = rw (not_same n 0 (nat_eq n 0) refl (λ e. omega arith)) refl

old_or_new : (m n : ℕ) → m ≤ 1 → n ≤ 1 → level_word Single (record { 0 = m }) ≡ level_word Single (record { 0 = n }) → m ≡ n
old_or_new zero zero p q e = refl
old_or_new zero (suc n) p q e = absurd (omega (arith, ap letter (e ∙ new_word (suc n) (omega arith))))
old_or_new (suc m) zero p q e = absurd (omega (arith, ap letter (sym e ∙ new_word (suc m) (omega arith))))
old_or_new (suc m) (suc n) p q e = omega arith

pub level_tells : (form : TraceForm) (a b : Level) → IsWholeLevel form a → IsWholeLevel form b → level_word form a ≡ level_word form b → a ≡ b
level_tells Single a b p q e = same_level a b (old_or_new a.0 b.0 p q e)
level_tells Stacked a b p q e = same_level a b (decimal_tells a.0 b.0 p q e)
level_tells WithResched a b p q e = same_level a b (decimal_tells a.0 b.0 p q e)

-- ---- What an event did

pub complete_tells : (a b : Bool) → complete_words a ≡ complete_words b → a ≡ b
complete_tells true true e = refl
complete_tells true false e = absurd (omega (arith, ap length e))
complete_tells false true e = absurd (omega (arith, ap length e))
complete_tells false false e = refl

complete_above : (completed : Bool) → Above word_rank 1 (complete_words completed)
complete_above true = omega arith
complete_above false = tt

groups_tell : (groups others : List ℕ) (a b : Bool) → All IsWhole groups → All IsWhole others → map decimal groups ++ complete_words a ≡ map decimal others ++ complete_words b → (groups ≡ others) × (a ≡ b)
groups_tell groups others a b p q e =
    let both = many word_rank 0 (λ _ group. decimal group ∷ []) IsWhole (λ n group. decimal_rank group) (λ n group other r s g o _ _ h. (decimal_tells group other g o (cc h), cc h)) 0 groups others (complete_words a) (complete_words b) p q (complete_above a) (complete_above b) (ap (λ l. l ++ complete_words a) (sym (map_blocks decimal 0 groups)) ∙ e ∙ ap (λ l. l ++ complete_words b) (map_blocks decimal 0 others)) in
    (both.0, complete_tells a b both.1)

abbrev refusal_of : ℕ → Refusal
refusal_of n =
    if n == 1 then UnknownTask
    else if n == 2 then UnknownSymbol
    else if n == 3 then TaskRange
    else if n == 4 then TaskUsed
    else if n == 5 then WrongClass
    else if n == 6 then WrongMode
    else if n == 7 then StackFull
    else if n == 8 then StackEmpty
    else if n == 9 then StackNotEmpty
    else if n == 10 then InTransition
    else if n == 11 then NotInTransition
    else AlreadyThere

refusal_again : (why : Refusal) → (refusal_of (refusal_number why) ≡ why) × (refusal_number why < 13)
refusal_again UnknownTask = (refl, omega arith)
refusal_again UnknownSymbol = (refl, omega arith)
refusal_again TaskRange = (refl, omega arith)
refusal_again TaskUsed = (refl, omega arith)
refusal_again WrongClass = (refl, omega arith)
refusal_again WrongMode = (refl, omega arith)
refusal_again StackFull = (refl, omega arith)
refusal_again StackEmpty = (refl, omega arith)
refusal_again StackNotEmpty = (refl, omega arith)
refusal_again InTransition = (refl, omega arith)
refusal_again NotInTransition = (refl, omega arith)
refusal_again AlreadyThere = (refl, omega arith)

refusal_tells : (why other : Refusal) → decimal (refusal_number why) ≡ decimal (refusal_number other) → why ≡ other
refusal_tells why other e =
    let a = refusal_again why in
    let b = refusal_again other in
    let same : refusal_number why ≡ refusal_number other = decimal_tells (refusal_number why) (refusal_number other) (omega (arith, a.1)) (omega (arith, b.1)) e in
    sym a.0 ∙ ap refusal_of same ∙ b.0

-- the second byte of the first word, by which the four words differ
abbrev second : List (List ℕ) → ℕ
second [] = 0
second (word ∷ words) = get_or word 1 0

pub what_tells : (form : TraceForm) (what other : What) (a b : Bool) → IsWholeWhat form what → IsWholeWhat form other → what_words form what ++ complete_words a ≡ what_words form other ++ complete_words b → (what ≡ other) × (a ≡ b)
what_tells form (Ran level) (Ran other) a b p q e =
    (ap (λ l. Ran l) (level_tells form level other p q (cc e)), complete_tells a b (cc e))
what_tells form Done Done a b p q e = (refl, complete_tells a b (cc e))
what_tells form (Switched groups) (Switched others) a b p q e =
    let same = groups_tell groups others a b p q (cc e) in
    (ap (λ l. Switched l) same.0, same.1)
what_tells form (Refused why) (Refused other) a b p q e =
    (ap (λ w. Refused w) (refusal_tells why other (cc e)), complete_tells a b (cc e))
what_tells form (Ran level) Done a b p q e = absurd (omega (arith, ap second e))
what_tells form (Ran level) (Switched others) a b p q e = absurd (omega (arith, ap second e))
what_tells form (Ran level) (Refused other) a b p q e = absurd (omega (arith, ap second e))
what_tells form Done (Ran level) a b p q e = absurd (omega (arith, ap second e))
what_tells form Done (Switched others) a b p q e = absurd (omega (arith, ap second e))
what_tells form Done (Refused other) a b p q e = absurd (omega (arith, ap second e))
what_tells form (Switched groups) (Ran level) a b p q e = absurd (omega (arith, ap second e))
what_tells form (Switched groups) Done a b p q e = absurd (omega (arith, ap second e))
what_tells form (Switched groups) (Refused other) a b p q e = absurd (omega (arith, ap second e))
what_tells form (Refused why) (Ran level) a b p q e = absurd (omega (arith, ap second e))
what_tells form (Refused why) Done a b p q e = absurd (omega (arith, ap second e))
what_tells form (Refused why) (Switched others) a b p q e = absurd (omega (arith, ap second e))

-- ---- The end of a leg

end_tells : (completed other : Option ℕ) (m n : ℕ) → IsWholeEvent completed → IsWholeEvent other → end_words completed m ≡ end_words other n → completed ≡ other
end_tells (Some event) (Some other) m n p q e = ap (λ x. Some x) (decimal_tells event other p q (cc e))
end_tells (Some event) None m n p q e = absurd (omega (arith, ap line_rank e))
end_tells None (Some other) m n p q e = absurd (omega (arith, ap line_rank e))
end_tells None None m n p q e = refl

pub leg_words_tell : (form : TraceForm) (a b : Level) (completed other : Option ℕ) (m n : ℕ) → IsWholeLevel form a → IsWholeLevel form b → IsWholeEvent completed → IsWholeEvent other → target_words form a ++ end_words completed m ≡ target_words form b ++ end_words other n → (a ≡ b) × (completed ≡ other)
leg_words_tell Single a b completed other m n p q c d e =
    (level_tells Single a b p q (cc e), end_tells completed other m n c d (cc e))
leg_words_tell Stacked a b completed other m n p q c d e =
    (level_tells Stacked a b p q (cc e), end_tells completed other m n c d (cc e))
leg_words_tell WithResched a b completed other m n p q c d e =
    (level_tells WithResched a b p q (cc e), end_tells completed other m n c d (cc e))
