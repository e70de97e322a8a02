-- Numbers and names as the last words of lines: neither has a space in it.
use Rattle.std.proofs.Common.{◌≡◌, ◌<◌, ℕ, suc, Bool, true, false, List, [], ◌∷◌, ◌++◌, length, None, Result, Ok, Err, refl, sym, ap, ◌∙◌, arith}
use Rattle.std.specs.Prelude.{◌==◌, ◌&&◌, ◌||◌, not, nat_le, slice_index, if◌then◌else◌}
use Rattle.std.specs.Char.{is_ascii_digit}
use Rattle.std.specs.List.{join_with_byte, list_all}
use Rattle.std.proofs.lemmas.List.Folds.{list_all-append}
use Rattle.std.proofs.lemmas.Bool.Decides.{Decides-eqb}
use Rattle.std.proofs.lemmas.List.Splits.{join_with_byte-slice_split, length-slice_split}
use Rattle.lp_symbols.specs.Names.{is_name}
use Rattle.lp_text.specs.declared.fault.Cause.{Cause}
use Rattle.lp_text.specs.declared.fault.Cause.TheVariants as cause
use Rattle.lp_text.specs.Words.{number_of, parts, words}
use Rattle.lp_text.specs.Reading.{◌>>=◌, last_number, last_word, needs}
use Rattle.lp_text.proofs.Complete.{symbol_clean, words_again}

-- a word that isn't empty
abbrev by_length : Bool → List ℕ → Result (List ℕ) Cause
by_length none word = if none then Err cause.Shape else Ok word

nonzero : (n : ℕ) (b : Bool) → (suc n == 0) ≡ b → b ≡ false
nonzero n false e = refl
nonzero n true e = let zero : suc n ≡ 0 = (Decides-eqb (suc n) 0).0 e in absurd (omega arith)

some_bytes : (c : ℕ) (word : List ℕ) → (length (c ∷ word) == 0) ≡ false
some_bytes c word = nonzero (length word) (suc (length word) == 0) refl

-- ---- Numbers

no_digits : (a b c : Bool) → c ≡ false → (a && c && b) ≡ false
no_digits true b c h = rw h refl
no_digits false b c h = refl

-- a word with a space in it is no number
spaced : (word rest : List ℕ) → number_of (word ++ 32 ∷ rest) ≡ None
unfolding number_of
spaced word rest =
    let digits : list_all is_ascii_digit (word ++ 32 ∷ rest) ≡ false = list_all-append is_ascii_digit word (32 ∷ rest) ∙ ends (list_all is_ascii_digit word) in
    rw (no_digits (nat_le 1 (length (word ++ 32 ∷ rest)) && nat_le (length (word ++ 32 ∷ rest)) 5) (length (word ++ 32 ∷ rest) == 1 || not (slice_index (word ++ 32 ∷ rest) 0 == 48)) (list_all is_ascii_digit (word ++ 32 ∷ rest)) digits) refl
  where
    ends : (b : Bool) → (b && false) ≡ false
    ends true = refl
    ends false = refl

by_parts : (ps : List (List ℕ)) (line : List ℕ) → 0 < length ps → join_with_byte 32 ps ≡ line → last_number ps ≡ needs cause.Shape (number_of line)
unfolding last_number last_word number_of
by_parts [] line h e = absurd (omega arith)
by_parts ([] ∷ []) line h e = ap (λ l. needs cause.Shape (number_of l)) e
by_parts ((c ∷ word) ∷ []) line h e =
    ap (λ b. by_length b (c ∷ word) >>= λ l. needs cause.Shape (number_of l)) (some_bytes c word)
    ∙ ap (λ l. needs cause.Shape (number_of l)) e
by_parts (word ∷ next ∷ more) line h e = sym (ap (needs cause.Shape) (ap number_of (sym e) ∙ spaced word (join_with_byte 32 (next ∷ more))))

-- the last word is a number where all that is left is
pub number_alone : (line : List ℕ) → last_number (parts 32 line) ≡ needs cause.Shape (number_of line)
unfolding parts
number_alone line =
    by_parts (parts 32 line) line (omega (arith, length-slice_split (λ b. b == 32) line)) (join_with_byte-slice_split 32 line)

-- ---- Names

there : (name : List ℕ) → is_name name ≡ true → last_word (name ∷ []) ≡ Ok name
unfolding last_word
there [] h = absurd (cc)
there (c ∷ name) h = ap (λ b. by_length b (c ∷ name)) (some_bytes c name)

-- a name is one word
pub name_alone : (name : List ℕ) → is_name name ≡ true → last_word (words name) ≡ Ok name
name_alone name h = ap last_word (words_again name [] (symbol_clean name h, tt)) ∙ there name h

-- one step after the other
pub then_then : {A B C E : Type 0} (x : Result A E) (f : A → Result B E) (g : B → Result C E) → ((x >>= f) >>= g) ≡ (x >>= λ y. f y >>= g)
then_then (Ok x) f g = refl
then_then (Err e) f g = refl
