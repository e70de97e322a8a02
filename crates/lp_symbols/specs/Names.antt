-- What a name is, and which names can be added to a list of them.
use Rattle.std.specs.Prelude.{ℕ, ◌≤◌, Bool, ◌&&◌, List, length, nat_le, if◌then◌else◌, Option, None, Some, ◌==◌, not, IsTrue}
use Rattle.std.specs.Char.{is_ascii_graphic}
use Rattle.std.specs.List.{All, list_all, list_any}
use Rattle.std.specs.Str.{bytes_eq}
use Rattle.lp_symbols.specs.declared.symbols.SymFault.{SymFault}
use Rattle.lp_symbols.specs.declared.symbols.SymFault.TheVariants.{BadName, Doubled, TooMany}

-- 1 to 512 bytes, each a graphic ASCII character, that is from 33 to 126
abbrev pub is_name : List ℕ → Bool
is_name bytes = not (length bytes == 0) && nat_le (length bytes) 512 && list_all is_ascii_graphic bytes

-- at most 4,096, each of them a name
pub record AreNames (names : List (List ℕ)) : Type 0 where
  pub few : length names ≤ 4096
  pub proper : All (λ name. IsTrue (is_name name)) names

-- why a name can't be added to these, in this order; None where it can, if memory suffices
abbrev pub refusal_of : List (List ℕ) → List ℕ → Option SymFault
refusal_of names name =
    if not (is_name name) then Some BadName
    else if list_any (bytes_eq name) names then Some Doubled
    else if length names == 4096 then Some TooMany
    else None
