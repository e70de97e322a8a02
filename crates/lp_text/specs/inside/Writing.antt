-- What was written of a text, part by part.
use Rattle.std.specs.Prelude.{◌≡◌, ℕ, List, [], ◌∷◌, ◌++◌, Option, Result, MatchResult}
use Rattle.std.specs.Io.KnownBytes.{Appends}
use Rattle.lp_text.specs.Counts.{Counts, next}
use Rattle.lp_text.specs.Writing.{AppendsPrefix}

-- the words of a line after its first, each after a space, and the line's end
abbrev pub line_rest : List (List ℕ) → List ℕ
line_rest [] = 10 ∷ []
line_rest (word ∷ words) = (32 ∷ [] ++ word) ++ line_rest words

-- what is seen of a writer: the bytes that it holds, where they are known, and how often it failed
pub record Seen : Type 0 where
  pub held : Option (List ℕ)
  pub failures : ℕ

abbrev pub seen_of : {W : Type 0} → (W → Option (List ℕ)) → Counts W → Seen
seen_of contents writer = record { held = contents writer.stream; failures = writer.failures }

-- a writer took these bytes, and didn't fail
abbrev pub Takes : Seen → Seen → List ℕ → Type 0
Takes old new bytes = Appends old.held new.held bytes × (new.failures ≡ old.failures)

-- it took a prefix of these bytes, and then failed, once
abbrev pub TakesPrefix : Seen → Seen → List ℕ → Type 0
TakesPrefix old new bytes = AppendsPrefix old.held new.held bytes × (new.failures ≡ next old.failures)

-- all of the bytes were written, or the writer failed
abbrev pub Wrote : {E : Type 0} → Seen → Seen → Result (Unit {0}) E → List ℕ → Type 0
Wrote old new result bytes = MatchResult result (λ _. Takes old new bytes) (λ _. TakesPrefix old new bytes)

-- of a text, all but this rest was written
abbrev pub Left : Seen → Seen → List ℕ → List ℕ → Type 0
Left old new text rest = (done : List ℕ) × (text ≡ done ++ rest) × Takes old new done

-- bytes were put after those that were held: what isn't held after it was written, or a prefix of them all before a fault
abbrev pub Puts : {E : Type 0} → Seen → Seen → List ℕ → List ℕ → Result (Unit {0}) E → List ℕ → Type 0
Puts old new before after result bytes =
    MatchResult result (λ _. Left old new (before ++ bytes) after) (λ _. TakesPrefix old new (before ++ bytes))
