-- Lines of a certificate that are read by their first four bytes at once.
use Rattle.std.proofs.Common.{◌≡◌, ◌<◌, ◌+◌, ℕ, List, [], ◌∷◌, ◌++◌, length, map, Some, Ok, refl, ap, ◌∙◌, arith, append_assoc}
use Rattle.std.specs.Prelude.{decimal}
use Rattle.std.specs.List.{join_with_byte}
use Rattle.std.proofs.lemmas.List.{length-append}
use Rattle.lp_definitions.specs.declared.line.Line.{Line}
use Rattle.lp_text.specs.CertTexts.{reason_words}
use Rattle.lp_text.specs.CheckReading.{as_cert, reason_line, reasons_from}
use Rattle.lp_text.specs.Words.{line_of, lines, words}
use Rattle.lp_text.specs.inside.QuickLines.{BeginsWithReason}
use Rattle.lp_text.proofs.CertAgain.{reason_clean, reason_line_again}
use Rattle.lp_text.proofs.CertLines.{line_ok}
use Rattle.lp_text.proofs.Complete.{joined_no_end, line_cut, words_of_line}

-- numbers, each after a space, and the line's end
abbrev pub numbers_on : List ℕ → List ℕ → List ℕ
numbers_on [] more = 10 ∷ more
numbers_on (n ∷ rest) more = 32 ∷ (decimal n ++ numbers_on rest more)

pub number_on : (n : ℕ) (numbers text left more : List ℕ) → text ≡ 32 ∷ (decimal n ++ left) → left ≡ numbers_on numbers more → text ≡ numbers_on (n ∷ numbers) more
number_on n numbers text left more first rest = first ∙ ap (λ l. 32 ∷ (decimal n ++ l)) rest

regroup : (word joined more : List ℕ) → ((word ++ 32 ∷ joined) ++ 10 ∷ []) ++ more ≡ word ++ 32 ∷ ((joined ++ 10 ∷ []) ++ more)
regroup word joined more = simp append_assoc

pub line_on : (word : List ℕ) (numbers more : List ℕ) → line_of (word ∷ map decimal numbers) ++ more ≡ word ++ numbers_on numbers more
line_on word [] more = append_assoc word (10 ∷ []) more
line_on word (n ∷ rest) more =
    regroup word (join_with_byte 32 (decimal n ∷ map decimal rest)) more ∙ ap (λ l. word ++ 32 ∷ l) (line_on (decimal n) rest more)

-- ---- A line that is taken

module _ (text rest : List ℕ) (reason : Line) (begins : BeginsWithReason text reason rest) where
  whole : text ≡ join_with_byte 32 (reason_words reason) ++ 10 ∷ rest
  whole = begins.1 ∙ append_assoc (join_with_byte 32 (reason_words reason)) (10 ∷ []) rest

  pub shorter : length rest < length text
  shorter = omega (arith, ap length whole, length-append (join_with_byte 32 (reason_words reason)) (10 ∷ rest))

  pub reason_taken : (number : ℕ) (so_far : List Line) → reasons_from number so_far (lines text) ≡ reasons_from (number + 1) (so_far ++ reason ∷ []) (lines rest)
  reason_taken number so_far =
      let clean = reason_clean reason begins.0 in
      let line : List ℕ = join_with_byte 32 (reason_words reason) in
      let cut : lines text ≡ line ∷ lines rest = ap lines whole ∙ line_cut line rest (joined_no_end (reason_words reason) clean.1) in
      let reads : as_cert (reason_line (words line)) ≡ Ok reason = ap (λ ws. as_cert (reason_line ws)) (words_of_line (reason_words reason) clean) ∙ ap as_cert (reason_line_again reason begins.0) in
      line_ok (reasons_from number so_far (lines text)) number so_far text line (Some rest) refl cut rest reason refl reads
