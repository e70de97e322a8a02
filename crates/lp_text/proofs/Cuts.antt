-- Where a text is cut.
use Rattle.std.proofs.Common.{◌≡◌, ◌<◌, ◌≤◌, ◌+◌, ◌-◌, ℕ, Bool, true, false, List, [], ◌∷◌, ◌++◌, length, take, drop, get_or, Err, add-one, arith, sym, ap, ◌∙◌, refl}
use Rattle.std.specs.Prelude.{◌==◌, slice_index}
use Rattle.std.specs.List.{All, slice_split}
use Rattle.std.proofs.lemmas.List.Splits.{slice_split_none, slice_split_at, length-slice_split}
use Rattle.std.proofs.lemmas.List.{take-append-drop, take_all, length-take-le, length-drop, get_or-take}
use Rattle.std.proofs.lemmas.Bool.Decides.{Decides-eqb}
use Rattle.std.proofs.lemmas.Grind.{get_or_default_zero}
use Rattle.std.proofs.Math.Seq.{drop-cons}
use Rattle.lp_text.specs.declared.fault.Cause.TheVariants as cause
use Rattle.lp_text.specs.inside.Cut.{IsCut}
use Rattle.lp_text.specs.Words.{parts}
use Rattle.lp_definitions.specs.declared.event.Event.{Event}
use Rattle.lp_text.specs.Reading.{last_word, no_word}

-- no byte is this one, up to an index
abbrev pub Free : ℕ → List ℕ → ℕ → Type 0
Free at bytes end = (k : ℕ) → 0 ≤ k → k < end → ¬ ((slice_index bytes k == at) ≡ true)

free : (b : Bool) → ¬ (b ≡ true) → b ≡ false
free true h = absurd (h refl)
free false h = refl

pub parts-none : (at : ℕ) (bytes : List ℕ) → Free at bytes (length bytes) → parts at bytes ≡ bytes ∷ []
unfolding parts
parts-none at bytes h =
    slice_split_none (λ b. b == at) bytes (λ k d below. rw (get_or_default_zero bytes k d below) (free (slice_index bytes k == at) (h k (omega arith) below)))

-- a list at a place
opened : (bytes : List ℕ) (end : ℕ) → end < length bytes → take end bytes ++ get_or bytes end 0 ∷ drop (end + 1) bytes ≡ bytes
opened bytes end below = rw (add-one, ← drop-cons bytes end 0) (take-append-drop end bytes)

pub parts-some : (at : ℕ) (bytes : List ℕ) (end : ℕ) → end < length bytes → Free at bytes end → (slice_index bytes end == at) ≡ true → parts at bytes ≡ take end bytes ∷ parts at (take (length bytes - (end + 1)) (drop (end + 1) bytes))
unfolding parts
parts-some at bytes end below h here =
    let test : ℕ → Bool = λ b. b == at in
    let prefix : length (take end bytes) ≡ end = length-take-le end bytes (omega arith) in
    let none : All (λ x. test x ≡ false) (take end bytes) =
    λ k d under.
    let lower : k < end = omega arith in
    rw (get_or-take end bytes k d lower, get_or_default_zero bytes k d (omega arith)) (free (slice_index bytes k == at) (h k (omega arith) lower))
    in
    let rest : take (length bytes - (end + 1)) (drop (end + 1) bytes) ≡ drop (end + 1) bytes = take_all _ _ (omega (arith, length-drop (end + 1) bytes)) in
    ap (slice_split test) (sym (opened bytes end below)) ∙ slice_split_at test (take end bytes) (get_or bytes end 0) (drop (end + 1) bytes) none here ∙ ap (λ r. take end bytes ∷ slice_split test r) (sym rest)

pub is_cut : (at : ℕ) (bytes : List ℕ) (end : ℕ) → end < length bytes → Free at bytes end → (slice_index bytes end == at) ≡ true → IsCut at bytes (take end bytes) (take (length bytes - (end + 1)) (drop (end + 1) bytes))
unfolding parts
is_cut at bytes end below h here =
    let test : ℕ → Bool = λ b. b == at in
    let prefix : length (take end bytes) ≡ end = length-take-le end bytes (omega arith) in
    let none : All (λ x. test x ≡ false) (take end bytes) =
    λ k d under.
    let lower : k < end = omega arith in
    rw (get_or-take end bytes k d lower, get_or_default_zero bytes k d (omega arith)) (free (slice_index bytes k == at) (h k (omega arith) lower))
    in
    let rest : take (length bytes - (end + 1)) (drop (end + 1) bytes) ≡ drop (end + 1) bytes = take_all _ _ (omega (arith, length-drop (end + 1) bytes)) in
    let byte : get_or bytes end 0 ≡ at = (Decides-eqb (get_or bytes end 0) at).0 here in
    let same : (at == at) ≡ true = (Decides-eqb at at).1 refl in
    record {
      whole = sym (opened bytes end below) ∙ (ap (λ b. take end bytes ++ b ∷ drop (end + 1) bytes) byte ∙ ap (λ r. take end bytes ++ at ∷ r) (sym rest));
      again = λ tail. slice_split_at test (take end bytes) at tail none same;
    }

one_more : (word : List ℕ) (parts : List (List ℕ)) → 0 < length parts → last_word (word ∷ parts) ≡ Err cause.Shape
unfolding last_word
one_more word [] h = absurd (omega arith)
one_more word (part ∷ parts) h = refl

pub parts-some_there : (at : ℕ) (bytes : List ℕ) → 0 < length (parts at bytes)
unfolding parts
parts-some_there at bytes = omega (arith, length-slice_split (λ b. b == at) bytes)

pub last_word_more : (word line : List ℕ) → last_word (word ∷ parts 32 line) ≡ Err cause.Shape
last_word_more word line = one_more word (parts 32 line) (parts-some_there 32 line)

one_word : (event : Event) (parts : List (List ℕ)) → 0 < length parts → no_word event parts ≡ Err cause.Shape
unfolding no_word
one_word event [] h = absurd (omega arith)
one_word event (part ∷ parts) h = refl

pub no_word_more : (event : Event) (line : List ℕ) → no_word event (parts 32 line) ≡ Err cause.Shape
no_word_more event line = one_word event (parts 32 line) (parts-some_there 32 line)
