-- Equal texts have equal lines, and equal lines equal words.
use Rattle.std.proofs.Common.{◌≡◌, ◌≢◌, ℕ, suc, List, [], ◌∷◌, ◌++◌, length, refl, sym, ap, ◌∙◌, arith}
use Rattle.std.specs.List.{All, AllByRecursion, flat_map, join_with_byte}
use Rattle.lp_text.specs.Words.{line_of, parts, words}
use Rattle.lp_text.proofs.Complete.{CleanLine, lines_again, some_texts, texts, words_of_line}

lines_tell : (ls ms : List (List (List ℕ))) → AllByRecursion CleanLine ls → AllByRecursion CleanLine ms → texts ls ≡ texts ms → ls ≡ ms
lines_tell [] [] c d h = refl
lines_tell [] (m ∷ ms) c d h = absurd (omega (arith, ap length h, some_texts ms))
lines_tell (l ∷ ls) [] c d h = absurd (omega (arith, ap length h, some_texts ls))
lines_tell (l ∷ ls) (m ∷ ms) c d h =
    let first : join_with_byte 32 l ≡ join_with_byte 32 m = cc h in
    let more : texts ls ≡ texts ms = cc h in
    let line : l ≡ m = sym (words_of_line l c.0) ∙ ap words first ∙ words_of_line m d.0 in
    let rest : ls ≡ ms = lines_tell ls ms c.1 d.1 more in
    λ i. line i ∷ rest i

pub texts_tell : (ls ms : List (List (List ℕ))) → AllByRecursion CleanLine ls → AllByRecursion CleanLine ms → flat_map line_of ls ≡ flat_map line_of ms → ls ≡ ms
texts_tell ls ms c d h = lines_tell ls ms c d (sym (lines_again ls c) ∙ ap (parts 10) h ∙ lines_again ms d)

-- what stands before the first line end, and what after it
pub cut_tells : (a b x y : List ℕ) → All (λ byte. byte ≢ 10) a → All (λ byte. byte ≢ 10) b → a ++ 10 ∷ x ≡ b ++ 10 ∷ y → (a ≡ b) × (x ≡ y)
cut_tells [] [] x y p q h = (refl, cc h)
cut_tells [] (c ∷ b) x y p q h = absurd (q 0 0 (omega arith) (cc h))
cut_tells (c ∷ a) [] x y p q h = absurd (p 0 0 (omega arith) (cc h))
cut_tells (c ∷ a) (e ∷ b) x y p q h =
    let first : c ≡ e = cc h in
    let rest = cut_tells a b x y (λ k d below. p (suc k) d (omega arith)) (λ k d below. q (suc k) d (omega arith)) (cc h) in
    (λ i. first i ∷ rest.0 i, rest.1)
