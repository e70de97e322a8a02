-- Words, their summary and the word over it. A test names the words of a row that aren't 0: the bits of the
-- summary name those of the words, and the bits of the word over it those of the summary.
use Rattle.std.proofs.Common.{◌≡◌, ◌≢◌, ℕ, ◌+◌, ◌*◌, ◌/◌, ◌%◌, ◌^◌, ◌≤◌, ◌<◌, Bool, true, false, not, ◌==◌, if◌then◌else◌, ◌⊎◌, inl, inr, List, bit_or, length, get_or, set, refl, sym, ◌∙◌, arith, get_or-set_same, get_or-set_other}
use Rattle.std.proofs.lemmas.Bool.{cases_lt, cases_eq, ne_eqb, eq-eqb, eqb-true, not-false, not-true, false≢true}
use Rattle.std.proofs.lemmas.List.{get_or_past, length-set}
use Rattle.lp_numbers.specs.Numbers.{IsLeastFrom}
use Rattle.lp_numbers.specs.inside.Words.{word_has, row_has, IsThreeLevel}
use Rattle.lp_numbers.proofs.Bits.{word_has-zero, word_has-neither, word_has-either_none, word-zero}
use Rattle.lp_numbers.proofs.Rows.{row_has-at, row_has-zero}

-- a word that isn't named is 0
pub zero-unnamed : (named : ℕ → Bool) (row : List ℕ) → ((i : ℕ) → named i ≡ not (get_or row i 0 == 0)) → (i : ℕ) → named i ≡ false → get_or row i 0 ≡ 0
zero-unnamed named row right i none = eqb-true (get_or row i 0) 0 (not-false (get_or row i 0 == 0) (sym (right i) ∙ none))

-- a word that isn't named has no bit
pub none-unnamed : (named : ℕ → Bool) (row : List ℕ) → ((i : ℕ) → named i ≡ not (get_or row i 0 == 0)) → (k : ℕ) → named (k / 64) ≡ false → row_has row k ≡ false
none-unnamed named row right k none = row_has-zero row k (zero-unnamed named row right (k / 64) none)

-- a word that is named isn't 0
pub some-named : (named : ℕ → Bool) (row : List ℕ) → ((i : ℕ) → named i ≡ not (get_or row i 0 == 0)) → (i : ℕ) → named i ≡ true → 0 < get_or row i 0
some-named named row right i some =
    let differs = not-true (get_or row i 0 == 0) (sym (right i) ∙ some) in
    let ne : get_or row i 0 ≢ 0 = λ e. false≢true (sym differs ∙ eq-eqb (get_or row i 0) 0 e) in
    omega arith

-- the rest of a word that has no bit from a place on
rest-of_word : (row : List ℕ) (from k : ℕ) → ((bit : ℕ) → from % 64 ≤ bit → word_has (get_or row (from / 64) 0) bit ≡ false) → from ≤ k → k / 64 ≡ from / 64 → row_has row k ≡ false
rest-of_word row from k none h e = rw e (none (k % 64) (omega arith))

-- the bits between a place, whose word has none from there on, and a later word
between : (named : ℕ → Bool) (row : List ℕ) → ((i : ℕ) → named i ≡ not (get_or row i 0 == 0)) → (from place : ℕ) → ((bit : ℕ) → from % 64 ≤ bit → word_has (get_or row (from / 64) 0) bit ≡ false) → ((i : ℕ) → from / 64 + 1 ≤ i → i < place → named i ≡ false) → (k : ℕ) → from ≤ k → k / 64 < place → row_has row k ≡ false
between named row right from place none empty k h l = elim (cases_lt (from / 64) (k / 64)) [
  | inl m ↦ none-unnamed named row right k (empty (k / 64) (omega arith) l)
  | inr m ↦ rest-of_word row from k none h (omega arith)
]

-- no bit in the first word, and no later word
pub next-none : (named : ℕ → Bool) (row : List ℕ) → ((i : ℕ) → named i ≡ not (get_or row i 0 == 0)) → (from : ℕ) → ((bit : ℕ) → from % 64 ≤ bit → word_has (get_or row (from / 64) 0) bit ≡ false) → ((i : ℕ) → from / 64 + 1 ≤ i → named i ≡ false) → (k : ℕ) → from ≤ k → row_has row k ≡ false
next-none named row right from none empty k h = between named row right from (k / 64 + 1) none (λ i l _. empty i l) k h (omega arith)

-- the lowest bit of a later word
pub next-later : (named : ℕ → Bool) (row : List ℕ) → ((i : ℕ) → named i ≡ not (get_or row i 0 == 0)) → (from place bit : ℕ) → ((bit : ℕ) → from % 64 ≤ bit → word_has (get_or row (from / 64) 0) bit ≡ false) → IsLeastFrom named (from / 64 + 1) place → bit < 64 → IsLeastFrom (word_has (get_or row place 0)) 0 bit → IsLeastFrom (row_has row) from (place * 64 + bit)
next-later named row right from place bit none later within lowest = record {
  within = omega (arith, later.within);
  passes = row_has-at row place bit within ∙ lowest.passes;
  least = λ k h l. elim (cases_lt (k / 64) place) [
    | inl m ↦ between named row right from place none later.least k h m
    | inr m ↦
        let e : k / 64 ≡ place = omega arith in
        rw e (lowest.least (k % 64) (omega arith) (omega arith))
  ];
}

-- ---- Above a place, in its word or a later one

-- no bit above the place in its word
none-above : (row : List ℕ) (place bit : ℕ) → ((bit : ℕ) → place % 64 + 1 ≤ bit → word_has (get_or row (place / 64) 0) bit ≡ false) → place + 1 ≤ bit → bit / 64 ≡ place / 64 → row_has row bit ≡ false
none-above row place bit none h e = rw e (none (bit % 64) (omega arith))

between-above : (named : ℕ → Bool) (row : List ℕ) → ((i : ℕ) → named i ≡ not (get_or row i 0 == 0)) → (place later : ℕ) → ((bit : ℕ) → place % 64 + 1 ≤ bit → word_has (get_or row (place / 64) 0) bit ≡ false) → ((i : ℕ) → place / 64 + 1 ≤ i → i < later → named i ≡ false) → (k : ℕ) → place + 1 ≤ k → k / 64 < later → row_has row k ≡ false
between-above named row right place later none empty k h l = elim (cases_lt (place / 64) (k / 64)) [
  | inl m ↦ none-unnamed named row right k (empty (k / 64) (omega arith) l)
  | inr m ↦ none-above row place k none h (omega arith)
]

-- the lowest bit above the place in its word
pub above-in_word : (row : List ℕ) (place bit : ℕ) → bit < 64 → IsLeastFrom (word_has (get_or row (place / 64) 0)) (place % 64 + 1) bit → IsLeastFrom (row_has row) (place + 1) (place / 64 * 64 + bit)
above-in_word row place bit within next = record {
  within = omega (arith, next.within);
  passes = row_has-at row (place / 64) bit within ∙ next.passes;
  least = λ k h l.
      let e : k / 64 ≡ place / 64 = omega (arith, next.within) in
      rw e (next.least (k % 64) (omega arith) (omega arith));
}

-- no bit above the place in its word, and no later word
pub above-none : (named : ℕ → Bool) (row : List ℕ) → ((i : ℕ) → named i ≡ not (get_or row i 0 == 0)) → (place : ℕ) → ((bit : ℕ) → place % 64 + 1 ≤ bit → word_has (get_or row (place / 64) 0) bit ≡ false) → ((i : ℕ) → place / 64 + 1 ≤ i → named i ≡ false) → (k : ℕ) → place + 1 ≤ k → row_has row k ≡ false
above-none named row right place none empty k h = between-above named row right place (k / 64 + 1) none (λ i l _. empty i l) k h (omega arith)

-- the lowest bit of a later word
pub above-later : (named : ℕ → Bool) (row : List ℕ) → ((i : ℕ) → named i ≡ not (get_or row i 0 == 0)) → (place later bit : ℕ) → ((bit : ℕ) → place % 64 + 1 ≤ bit → word_has (get_or row (place / 64) 0) bit ≡ false) → IsLeastFrom named (place / 64 + 1) later → bit < 64 → IsLeastFrom (word_has (get_or row later 0)) 0 bit → IsLeastFrom (row_has row) (place + 1) (later * 64 + bit)
above-later named row right place later bit none next within lowest = record {
  within = omega (arith, next.within);
  passes = row_has-at row later bit within ∙ lowest.passes;
  least = λ k h l. elim (cases_lt (k / 64) later) [
    | inl m ↦ between-above named row right place later none next.least k h m
    | inr m ↦
        let e : k / 64 ≡ later = omega arith in
        rw e (lowest.least (k % 64) (omega arith) (omega arith))
  ];
}

-- ---- Changes of the words

-- a word that changes, with what names it
named-put : (named named_after : ℕ → Bool) (row after : List ℕ) (at : ℕ) (is_named : Bool) → ((i : ℕ) → named i ≡ not (get_or row i 0 == 0)) → ((i : ℕ) → named_after i ≡ (if i == at then is_named else named i)) → is_named ≡ not (get_or after at 0 == 0) → ((i : ℕ) → i ≢ at → get_or after i 0 ≡ get_or row i 0) → (i : ℕ) → named_after i ≡ not (get_or after i 0 == 0)
named-put named named_after row after at is_named right bits here others i = bits i ∙ by (cases_eq i at)
  where
    by : (i ≡ at) ⊎ (i ≢ at) → (if i == at then is_named else named i) ≡ not (get_or after i 0 == 0)
    by (inl e) = rw (e, eq-eqb at at refl) here
    by (inr n) = rw (ne_eqb i at n, others i n) (right i)

-- a bit that is put
pub three_level-put : (words words_after summary summary_after : List ℕ) (top top_after at : ℕ) → IsThreeLevel words summary top → length words_after ≡ length words → length summary_after ≡ length summary → ((i : ℕ) → i ≢ at / 64 → get_or words_after i 0 ≡ get_or words i 0) → ((k : ℕ) → row_has summary_after k ≡ (if k == at / 64 then not (get_or words_after (at / 64) 0 == 0) else row_has summary k)) → ((i : ℕ) → i ≢ at / 64 / 64 → get_or summary_after i 0 ≡ get_or summary i 0) → ((k : ℕ) → word_has top_after k ≡ (if k == at / 64 / 64 then not (get_or summary_after (at / 64 / 64) 0 == 0) else word_has top k)) → IsThreeLevel words_after summary_after top_after
three_level-put words words_after summary summary_after top top_after at levels count summaries words_others summary_bits summary_others top_bits = record {
  count = count ∙ levels.count;
  summaries = summaries ∙ levels.summaries;
  right = named-put (row_has summary) (row_has summary_after) words words_after (at / 64) (not (get_or words_after (at / 64) 0 == 0)) levels.right summary_bits refl words_others;
  high = named-put (word_has top) (word_has top_after) summary summary_after (at / 64 / 64) (not (get_or summary_after (at / 64 / 64) 0 == 0)) levels.high top_bits refl summary_others;
}

-- the words that one word of the summary names are made 0, and then that word
pub three_level-cleared : (words words_after summary : List ℕ) (top top_after place : ℕ) → IsThreeLevel words summary top → length words_after ≡ length words → word_has top place ≡ true → ((i : ℕ) → i / 64 ≡ place → get_or words_after i 0 ≡ 0) → ((i : ℕ) → i / 64 ≢ place → get_or words_after i 0 ≡ get_or words i 0) → ((k : ℕ) → word_has top_after k ≡ (if k == place then false else word_has top k)) → IsThreeLevel words_after (set summary place 0) top_after
three_level-cleared words words_after summary top top_after place levels count some blank others bits = record {
  count = count ∙ levels.count;
  summaries = rw length-set levels.summaries;
  right = λ i. by i (cases_eq (i / 64) place);
  high = named-put (word_has top) (word_has top_after) summary (set summary place 0) place false levels.high bits (rw here refl) (λ i n. get_or-set_other summary place i 0 0 n);
}
  where
    inside : place < length summary
    inside = elim (cases_lt place (length summary)) [
      | inl l ↦ l
      | inr m ↦
          let past = get_or_past summary place 0 m in
          let more = some-named (word_has top) summary levels.high place some in
          absurd (omega arith)
    ]

    here : get_or (set summary place 0) place 0 ≡ 0
    here = get_or-set_same summary place 0 0 inside

    by : (i : ℕ) → (i / 64 ≡ place) ⊎ (i / 64 ≢ place) → row_has (set summary place 0) i ≡ not (get_or words_after i 0 == 0)
    by i (inl e) = row_has-zero (set summary place 0) i (rw e here) ∙ rw (blank i e) refl
    by i (inr n) = rw (get_or-set_other summary place (i / 64) 0 0 n, others i n) (levels.right i)

-- what a word without bits names
pub named-end : (words : List ℕ) (rest i : ℕ) → rest ≡ 0 → word_has rest (i % 64) ≡ not (get_or words i 0 == 0) → get_or words i 0 ≡ 0
named-end words rest i e right = eqb-true (get_or words i 0) 0 (not-false (get_or words i 0 == 0) (sym right ∙ rw e (word_has-zero (i % 64))))

-- where the word over the summary is 0, each word is
pub three_level-end : (words summary : List ℕ) (top : ℕ) → IsThreeLevel words summary top → top ≡ 0 → (i : ℕ) → get_or words i 0 ≡ 0
three_level-end words summary top levels e i = zero-unnamed (row_has summary) words levels.right i (none-unnamed (word_has top) summary levels.high i (rw e (word_has-zero (i / 64))))

-- words that name no word that isn't 0
blank-none : (row : List ℕ) → ((i : ℕ) → get_or row i 0 < 2 ^ 64) → ((k : ℕ) → row_has row k ≡ false) → (i : ℕ) → get_or row i 0 ≡ 0
blank-none row fits none i = word-zero (get_or row i 0) (fits i) (λ bit h. sym (row_has-at row i bit h) ∙ none (i * 64 + bit))

-- where no word has a bit, the word over the summary is 0
pub three_level-none : (words summary : List ℕ) (top : ℕ) → IsThreeLevel words summary top → ((i : ℕ) → get_or words i 0 < 2 ^ 64) → ((i : ℕ) → get_or summary i 0 < 2 ^ 64) → top < 2 ^ 64 → ((k : ℕ) → row_has words k ≡ false) → top ≡ 0
three_level-none words summary top levels words_fit summary_fits top_fits none =
    let blank = blank-none words words_fit none in
    let blank_summary = blank-none summary summary_fits (λ i. levels.right i ∙ rw (blank i) refl) in
    word-zero top top_fits (λ i _. levels.high i ∙ rw (blank_summary i) refl)

-- ---- Two sets

-- there are 16 words in the summary
pub top-few : (words summary : List ℕ) (top place : ℕ) → IsThreeLevel words summary top → 16 ≤ place → word_has top place ≡ false
top-few words summary top place levels h = levels.high place ∙ rw (get_or_past summary place 0 (omega (arith, levels.summaries))) refl

pub tops-few : (words summary : List ℕ) (top : ℕ) (others summary_others : List ℕ) (top_others place : ℕ) → IsThreeLevel words summary top → IsThreeLevel others summary_others top_others → 16 ≤ place → word_has (bit_or top top_others) place ≡ false
tops-few words summary top others summary_others top_others place levels levels_others h = word_has-either_none top top_others place (top-few words summary top place levels h) (top-few others summary_others top_others place levels_others h)

-- a word that the word over the summary doesn't name is 0
pub zero-unnamed_above : (words summary : List ℕ) (top i : ℕ) → IsThreeLevel words summary top → word_has top (i / 64) ≡ false → get_or words i 0 ≡ 0
zero-unnamed_above words summary top i levels none = zero-unnamed (row_has summary) words levels.right i (none-unnamed (word_has top) summary levels.high i none)

-- words that neither of them names are equal
pub same-unnamed : (words summary : List ℕ) (top : ℕ) (others summary_others : List ℕ) (top_others i : ℕ) → IsThreeLevel words summary top → IsThreeLevel others summary_others top_others → word_has (bit_or top top_others) (i / 64) ≡ false → get_or words i 0 ≡ get_or others i 0
same-unnamed words summary top others summary_others top_others i levels levels_others none =
    let neither = word_has-neither top top_others (i / 64) none in
    zero-unnamed_above words summary top i levels neither.0 ∙ sym (zero-unnamed_above others summary_others top_others i levels_others neither.1)
