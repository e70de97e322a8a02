-- Numbers in decimal: which bytes they have, and that they tell the number.
use Rattle.std.proofs.Common.{◌≡◌, ◌<◌, ◌≤◌, ◌+◌, ◌/◌, ◌%◌, ◌^◌, ℕ, zero, suc, Bool, true, false, cond, List, [], ◌∷◌, decimal, refl, sym, ap, ◌∙◌, arith}
use Rattle.std.specs.Prelude.{nat_le, nat_lt, ◌==◌}
use Rattle.std.specs.Char.{is_ascii_digit}
use Rattle.std.specs.Fmt.{digit_glyph, digits, digits_onto}
use Rattle.std.specs.List.{list_all}
use Rattle.std.specs.Str.Parse.{digits_value}
use Rattle.std.proofs.lemmas.Bool.{and_parts, leb-true}
use Rattle.std.proofs.lemmas.Bool.Decides.{Decides-ltb}
use Rattle.std.proofs.lemmas.Fmt.{decimal_is_IsNumeral_wide}
use Rattle.lp_text.proofs.Again.{at_most, both}
use Rattle.lp_text.proofs.Complete.{Clean}

-- equal numerals are of equal numbers
pub decimal_tells : (m n : ℕ) → m < 10 ^ 64 → n < 10 ^ 64 → decimal m ≡ decimal n → m ≡ n
decimal_tells m n p q e =
    sym (decimal_is_IsNumeral_wide m p).1 ∙ ap (digits_value 10) e ∙ (decimal_is_IsNumeral_wide n q).1

pub either_way : {A : Type 0} (P : A → Type 0) (b : Bool) (x y : A) → P x → P y → P (cond b x y)
either_way P true x y p q = p
either_way P false x y p q = q

glyph_digit : (d : ℕ) → d < 10 → is_ascii_digit (digit_glyph false d) ≡ true
glyph_digit d h =
    let small : nat_lt d 10 ≡ true = (Decides-ltb d 10).1 h in
    rw small (both (nat_le 48 (48 + d)) (nat_le (48 + d) 57) (at_most 48 (48 + d) (omega arith)) (at_most (48 + d) 57 (omega arith)))

onto_digits : (k n : ℕ) (after : List ℕ) → list_all is_ascii_digit after ≡ true → list_all is_ascii_digit (digits_onto k 10 false n after) ≡ true
onto_digits zero n after h = h
onto_digits (suc k) n after h =
    let last : list_all is_ascii_digit (digit_glyph false (n % 10) ∷ after) ≡ true = both (is_ascii_digit (digit_glyph false (n % 10))) (list_all is_ascii_digit after) (glyph_digit (n % 10) (omega arith)) h in
    either_way (λ ds. list_all is_ascii_digit ds ≡ true) (n / 10 == 0) (digit_glyph false (n % 10) ∷ after) (digits_onto k 10 false (n / 10) (digit_glyph false (n % 10) ∷ after)) last (onto_digits k (n / 10) (digit_glyph false (n % 10) ∷ after) last)

-- a numeral has digits alone, also where it is cut
pub decimal_digits : (n : ℕ) → list_all is_ascii_digit (decimal n) ≡ true
unfolding digits
decimal_digits n = onto_digits 64 n [] refl

digits_clean : (word : List ℕ) → list_all is_ascii_digit word ≡ true → Clean word
digits_clean [] h = refl
digits_clean (c ∷ cs) h =
    let a = and_parts (is_ascii_digit c) (list_all is_ascii_digit cs) h in
    let low : 48 ≤ c = leb-true 48 c (and_parts (nat_le 48 c) (nat_le c 57) a.0).0 in
    both (nat_lt 32 c) (list_all (nat_lt 32) cs) ((Decides-ltb 32 c).1 (omega arith)) (digits_clean cs a.1)

pub decimal_clean : (n : ℕ) → Clean (decimal n)
decimal_clean n = digits_clean (decimal n) (decimal_digits n)
