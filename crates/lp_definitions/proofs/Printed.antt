-- Groups printed one after another.
use Rattle.std.proofs.Common.{◌≡◌, ◌+◌, ◌<◌, ◌≤◌, ℕ, List, [], ◌∷◌, ◌++◌, length, map, take, refl, sym, ap, ◌∙◌}
use Rattle.std.specs.Prelude.{decimal, slice_index_or}
use Rattle.std.specs.List.{flat_map}
use Rattle.std.proofs.lemmas.List.{flat_map_more, take_all, take_more}
use Rattle.std.proofs.lemmas.List.Folds.{flat_map-map}
use Rattle.lp_stack.specs.declared.number.GroupId.{GroupId}
use Rattle.lp_definitions.specs.Events.{group_numbers}
use Rattle.lp_definitions.specs.Printed.{groups_text, spaced}

-- a group after a space
abbrev pub after_space : GroupId → List ℕ
after_space group = spaced group.0

pub one_more : (groups : List GroupId) (i : ℕ) (d : GroupId) → i < length groups → flat_map after_space (take i groups) ++ after_space (slice_index_or groups i d) ≡ flat_map after_space (take (i + 1) groups)
one_more groups i d lt = flat_map_more after_space [] (take i groups) (slice_index_or groups i d) ∙ ap (flat_map after_space) (sym (take_more groups i d lt))

pub all_groups : (numbers : List ℕ) (first : GroupId) (rest : List GroupId) (i : ℕ) → numbers ≡ group_numbers (first ∷ rest) → length rest ≤ i → decimal first.0 ++ flat_map after_space (take i rest) ≡ groups_text numbers
all_groups numbers first rest i e le =
    ap (λ groups. decimal first.0 ++ flat_map after_space groups) (take_all i rest le)
    ∙ (ap (λ text. decimal first.0 ++ text) (sym (flat_map-map spaced (λ (group : GroupId). group.0) rest)) ∙ ap groups_text (sym e))
