-- Lines with the oldest in front.
use Rattle.std.proofs.Common.{◌≡◌, ℕ, List, [], ◌∷◌, ◌++◌, map, reverse, refl, sym, ap, ◌∙◌}
use Rattle.std.proofs.lemmas.List.{map-append, reverse-append, reverse-reverse}
use Rattle.lp_stack.specs.declared.number.GroupId.{GroupId}
use Rattle.lp_stack.specs.declared.number.TaskId.{TaskId}
use Rattle.lp_definitions.specs.declared.line.Line.TheVariants as line
use Rattle.lp_cert.specs.Heads.{busy_lines}

reverse_map : {A B : Type 0} (f : A → B) (xs : List A) → reverse (map f xs) ≡ map f (reverse xs)
reverse_map f [] = refl
reverse_map f (x ∷ xs) =
    reverse-append (f x ∷ []) (map f xs)
    ∙ (ap (λ ys. ys ++ f x ∷ []) (reverse_map f xs)
    ∙ (sym (map-append f (reverse xs) (x ∷ [])) ∙ sym (ap (map f) (reverse-append (x ∷ []) xs))))

-- a busy member's lines in the order of the scans
pub oldest_busy : (g : GroupId) (t : TaskId) (xs : List ℕ) → reverse (busy_lines g t xs) ≡ map (λ at. line.Busy g t at) xs
oldest_busy g t xs = reverse_map (λ at. line.Busy g t at) (reverse xs) ∙ ap (map (λ at. line.Busy g t at)) (reverse-reverse xs)
