-- Links of which some aren't written yet.
use Rattle.std.proofs.Common.{◌≡◌, ℕ, zero, suc, ◌+◌, ◌-◌, ◌<◌, ◌≤◌, List, [], ◌∷◌, ◌++◌, length, get_or, set, replicate, inl, inr, refl, sym, ap, ◌∙◌, append_assoc, arith}
use Rattle.std.proofs.lemmas.Bool.{cases_lt}
use Rattle.std.proofs.lemmas.List.{length-append, length-replicate, length-set, get_or_past, get_or_append_left, get_or-append_right, set-append_left}
use Rattle.lp_numbers.specs.inside.Links.{all_links}

pub all_links-count : (links : List ℕ) → length links ≤ 65536 → length (all_links links) ≡ 65536
unfolding all_links
all_links-count links few = length-append links (replicate (65536 - length links) 0) ∙ ap (λ n. length links + n) (length-replicate (65536 - length links) 0) ∙ omega arith

zero-replicate : (n i : ℕ) → get_or {A = ℕ} (replicate n 0) i 0 ≡ 0
zero-replicate zero i = refl
zero-replicate (suc n) zero = refl
zero-replicate (suc n) (suc i) = zero-replicate n i

-- past the links that are written each is 0
pub all_links-past : (links : List ℕ) (i : ℕ) → length links ≤ i → get_or (all_links links) i 0 ≡ 0
unfolding all_links
all_links-past links i h = get_or-append_right links (replicate (65536 - length links) 0) (length links) i 0 refl h ∙ zero-replicate (65536 - length links) (i - length links)

-- a link is that which is written, or 0
pub all_links-at : (links : List ℕ) (i : ℕ) → get_or (all_links links) i 0 ≡ get_or links i 0
unfolding all_links
all_links-at links i = elim (cases_lt i (length links)) [
  | inl h ↦ get_or_append_left links (replicate (65536 - length links) 0) 0 i h
  | inr h ↦ all_links-past links i h ∙ sym (get_or_past links i 0 h)
]

-- a written link is changed
pub all_links-set : (links : List ℕ) (i link : ℕ) → i < length links → all_links (set links i link) ≡ set (all_links links) i link
unfolding all_links
all_links-set links i link h = rw length-set (sym (set-append_left links (replicate (65536 - length links) 0) i link h))

-- one more link is written
pub all_links-more : (links : List ℕ) → length links < 65536 → all_links (links ++ 0 ∷ []) ≡ all_links links
unfolding all_links
all_links-more links h =
    let one : 65536 - length links ≡ suc (65536 - length (links ++ 0 ∷ [])) = omega (arith, length-append links (0 ∷ [])) in
    append_assoc links (0 ∷ []) (replicate (65536 - length (links ++ 0 ∷ [])) 0) ∙ ap (λ n. links ++ replicate n 0) (sym one)

pub ruleset link_tables = (all_links-count, all_links-at, all_links-past)
