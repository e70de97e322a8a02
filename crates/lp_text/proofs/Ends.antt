-- Texts by their ends.
use Rattle.std.proofs.Common.{◌≡◌, ◌≤◌, ◌-◌, ℕ, List, ◌++◌, take, drop, sym, ap, ◌∙◌, arith}
use Rattle.std.proofs.lemmas.List.{drop-drop, take-append-drop}

-- what is after the first n bytes is after the first k, of which there are fewer
after : (n k : ℕ) (a : List ℕ) → k ≤ n → drop n a ≡ drop (n - k) (drop k a)
after n k a low = ap (λ m. drop m a) (omega arith) ∙ sym (drop-drop (n - k) k a)

-- texts that have the same first n bytes, and the same bytes after the first k, of which there are fewer
pub same_by_ends : (n k : ℕ) (a b : List ℕ) → k ≤ n → take n a ≡ take n b → drop k a ≡ drop k b → a ≡ b
same_by_ends n k a b low front back =
    let rest : drop n a ≡ drop n b = after n k a low ∙ (ap (drop (n - k)) back ∙ sym (after n k b low)) in
    sym (take-append-drop n a) ∙ (ap (λ t. t ++ drop n a) front ∙ (ap (λ t. take n b ++ t) rest ∙ take-append-drop n b))
