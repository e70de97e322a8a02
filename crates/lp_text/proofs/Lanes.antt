-- The first place of a byte among the 32 bytes in front, by the marks of all its places there.
use Rattle.std.proofs.Common.{◌≡◌, ◌≤◌, ◌<◌, ◌%◌, ◌^◌, ℕ, Bool, true, false, List, cond, eqb, not, map, get_or, length, replicate, sym, ap, subst, ◌∙◌, arith, w8, w64}
use Rattle.std.specs.Simd.Lanes.{chunk, mask_l, top, zip2}
use Rattle.std.specs.Int.{bit_at, trailing_zeros}
use Rattle.std.specs.List.{prefix_len}
use Rattle.std.proofs.lemmas.Bool.{false≢true}
use Rattle.std.proofs.lemmas.Simd.{bit_mask_l, bitmask_splat, length-chunk, mask_l-lt, run_in_chunk_fails, run_in_chunk_stops, trailing_mask_l}
use Rattle.std.proofs.lemmas.List.{get_or_past, length-map}
use Rattle.std.proofs.lemmas.Nat.Bits.{bit_at-trailing_zeros}
use Rattle.memchr.specs.Find.{NoneBefore, Passes, is_byte}

-- a place is the first of a byte
abbrev pub IsFirstPlace : ℕ → List ℕ → ℕ → Type 0
IsFirstPlace byte text place = NoneBefore (Passes (is_byte byte) text) 0 (length text) place × Passes (is_byte byte) text place

after_some : (byte : ℕ) (text : List ℕ) (place : ℕ) → 32 ≤ length text → place < 32 → place ≡ prefix_len (λ x. not (is_byte byte x)) (chunk 0 32 text) → IsFirstPlace byte text place
after_some byte text place enough small is =
    let fails = run_in_chunk_fails (is_byte byte) text 0 32 place 0 enough is in
    let stops = run_in_chunk_stops (is_byte byte) text 0 32 place 0 enough is small in (
      record {
        low = omega arith;
        high = omega arith;
        before = λ k low high here. false≢true (sym (fails k low (omega arith)) ∙ here);
      },
      subst (λ k. is_byte byte (get_or text k 0) ≡ true) (omega arith) stops,
    )

-- a bit that is set stands for one of the tests
within : (ms : List Bool) (place : ℕ) → bit_at (mask_l ms) place ≡ 1 → place < length ms
within ms place set =
    let past : length ms ≤ place → 0 ≡ 1 = λ far. ap (λ b. cond b 1 0) (sym (get_or_past ms place false far)) ∙ (sym (bit_mask_l ms place) ∙ set) in
    grind (arith, past)

of_marks : (byte : ℕ) (text : List ℕ) (marks : ℕ) → 32 ≤ length text → marks ≡ mask_l (map (is_byte byte) (chunk 0 32 text)) → ¬ (marks ≡ 0) → IsFirstPlace byte text (trailing_zeros w64 marks)
of_marks byte text marks enough are some =
    let long : length (chunk 0 32 text) ≡ 32 = length-chunk 0 32 text enough in
    let tests : length (map (is_byte byte) (chunk 0 32 text)) ≡ 32 = length-map (chunk 0 32 text) (is_byte byte) ∙ long in
    let below : mask_l (map (is_byte byte) (chunk 0 32 text)) < 2 ^ 32 = subst (λ n. mask_l (map (is_byte byte) (chunk 0 32 text)) < 2 ^ n) tests (mask_l-lt (map (is_byte byte) (chunk 0 32 text))) in
    let lowest : trailing_zeros w64 marks ≡ prefix_len (λ x. not (is_byte byte x)) (chunk 0 32 text) = ap (trailing_zeros w64) are ∙ trailing_mask_l (is_byte byte) 64 (chunk 0 32 text) (omega arith) (omega arith) in
    let bits = bit_at-trailing_zeros w64 marks (omega arith) (omega arith) in
    let small : trailing_zeros w64 marks < length (map (is_byte byte) (chunk 0 32 text)) = within (map (is_byte byte) (chunk 0 32 text)) (trailing_zeros w64 marks) (ap (λ m. bit_at m (trailing_zeros w64 marks)) (sym are) ∙ bits.1) in
    after_some byte text (trailing_zeros w64 marks) enough (omega arith) lowest

pub first_marked : (byte : ℕ) (text : List ℕ) → 32 ≤ length text → ¬ (mask_l (map (top 7) (zip2 (λ a b. cond (eqb a b) 255 0) (chunk 0 32 text) (replicate 32 byte))) % 2 ^ 64 ≡ 0) → IsFirstPlace byte text (trailing_zeros w64 (mask_l (map (top 7) (zip2 (λ a b. cond (eqb a b) 255 0) (chunk 0 32 text) (replicate 32 byte))) % 2 ^ 64))
first_marked byte text enough some =
    of_marks byte text (mask_l (map (top 7) (zip2 (λ a b. cond (eqb a b) 255 0) (chunk 0 32 text) (replicate 32 byte))) % 2 ^ 64) enough (bitmask_splat w8 eqb (chunk 0 32 text) 32 byte (length-chunk 0 32 text enough) (omega arith)) some
