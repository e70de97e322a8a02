-- What is left of a text or line that was cut: nothing after its last part.
use Rattle.std.specs.Prelude.{◌≡◌, ℕ, List, [], ◌∷◌, ◌++◌, Option, None, Some}
use Rattle.lp_text.specs.Words.{parts}

abbrev pub parts_left : ℕ → Option (List ℕ) → List (List ℕ)
parts_left at None = []
parts_left at (Some bytes) = parts at bytes

abbrev pub words_left : Option (List ℕ) → List (List ℕ)
words_left left = parts_left 32 left

-- a text was cut after its first part, whatever follows there
pub record IsCut (at : ℕ) (text first rest : List ℕ) : Type 0 where
  pub whole : text ≡ first ++ at ∷ rest
  pub again : (tail : List ℕ) → parts at (first ++ at ∷ tail) ≡ first ∷ parts at tail
