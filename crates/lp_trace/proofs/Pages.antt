-- Bytes that are held before they are written.
use Rattle.std.proofs.Common.{◌≡◌, ◌<◌, ◌≤◌, ◌+◌, ℕ, List, [], ◌∷◌, ◌++◌, length, drop, Option, None, Some, Result, Ok, Err, Bor, map, get_or, add-one, subst, refl, sym, ap, ◌∙◌, append_assoc}
use Rattle.std.specs.Prelude.{IsErr}
use Rattle.std.specs.Io.KnownBytes.{Appends}
use Rattle.std.specs.List.{concat}
use Rattle.std.proofs.lemmas.List.{append-nil}
use Rattle.std.proofs.Math.ListN.{drop_of_length-le}
use Rattle.std.proofs.Math.Seq.{drop-cons}
use Rattle.lp_text.specs.inside.Writing.{Left, Puts, Seen, Takes, TakesPrefix, Wrote, line_rest}
use Rattle.lp_text.proofs.Writing.{takes_more, prefix_more, left_prefix, left_last, rest_at}

appends_none : (a : Option (List ℕ)) → Appends a a []
appends_none None = tt
appends_none (Some x) = sym (append-nil x)

pub takes_none : (a : Seen) → Takes a a []
takes_none a = (appends_none a.held, refl)

-- a call gave up
pub puts_err : {E : Type 0} (a b : Seen) (h k text : List ℕ) (r : Result (Unit {0}) E) → IsErr r → TakesPrefix a b (h ++ text) → Puts a b h k r text
puts_err a b h k text (Ok x) is prefix = absurd (cc is)
puts_err a b h k text (Err e) is prefix = prefix

-- the first of two pieces was not put to its end
pub held_prefix : (a b : Seen) (h x y text : List ℕ) → text ≡ x ++ y → TakesPrefix a b (h ++ x) → TakesPrefix a b (h ++ text)
held_prefix a b h x y text e prefix = prefix_more a b (h ++ x) y (h ++ text) (ap (λ l. h ++ l) e ∙ sym (append_assoc h x y)) prefix

-- nothing was put yet
pub held_start : (a : Seen) (text : List ℕ) → Left a a text text
held_start a text = ([], refl, takes_none a)

-- a piece was held, and nothing was written
pub only_held : (a : Seen) (h k piece : List ℕ) → k ≡ h ++ piece → Left a a (h ++ piece) k
only_held a h k piece e = let P : List ℕ → Type 0 = λ l. Left a a (h ++ piece) l in subst P (sym e) (held_start a (h ++ piece))

module _ (a b c : Seen) (text h piece now next : List ℕ) where
  pub held_err : now ≡ piece ++ next → Left a b text (h ++ now) → TakesPrefix b c (h ++ piece) → TakesPrefix a c text
  held_err e left prefix =
      left_prefix a b c text (h ++ piece) (h ++ now) next (ap (λ l. h ++ l) e ∙ sym (append_assoc h piece next)) left prefix

  pub held_next : (k : List ℕ) → now ≡ piece ++ next → Left a b text (h ++ now) → Left b c (h ++ piece) k → Left a c text (k ++ next)
  held_next k e left more = (
    left.0 ++ more.0,
    left.1
        ∙ ap (λ l. left.0 ++ l) (ap (λ l. h ++ l) e ∙ sym (append_assoc h piece next) ∙ ap (λ l. l ++ next) more.1 ∙ append_assoc more.0 k next)
        ∙ sym (append_assoc left.0 more.0 (k ++ next)),
    takes_more a b c left.0 more.0 left.2 more.2,
  )

-- a piece was held
pub held_taken : (a b : Seen) (text h k piece now next : List ℕ) → k ≡ h ++ piece → now ≡ piece ++ next → Left a b text (h ++ now) → Left a b text (k ++ next)
held_taken a b text h k piece now next taken e left = (
  left.0,
  left.1 ∙ ap (λ l. left.0 ++ l) (ap (λ l. h ++ l) e ∙ sym (append_assoc h piece next) ∙ ap (λ l. l ++ next) (sym taken)),
  left.2,
)

-- the last piece
pub held_last : {E : Type 0} (a b c : Seen) (text h k now last : List ℕ) (r : Result (Unit {0}) E) → now ≡ last → Left a b (h ++ text) (k ++ now) → (m : List ℕ) → Puts b c k m r last → Puts a c h m r text
held_last a b c text h k now last (Ok x) e left m puts =
    let P : List ℕ → Type 0 = λ l. Left a c (h ++ text) l in
    subst P (append-nil m) (held_next a b c (h ++ text) k last now [] m (e ∙ sym (append-nil last)) left puts)
held_last a b c text h k now last (Err x) e left m puts =
    held_err a b c (h ++ text) k last now [] (e ∙ sym (append-nil last)) left puts

-- nothing is left to put
pub held_end : (a b : Seen) (text k now : List ℕ) → now ≡ [] → Left a b text (k ++ now) → Left a b text k
held_end a b text k now e left =
    let P : List ℕ → Type 0 = λ l. Left a b text l in
    subst P (ap (λ l. k ++ l) e ∙ append-nil k) left

-- what was held was written, and then these bytes went to the writer
pub written_past : {E : Type 0} (a b c : Seen) (h k bytes : List ℕ) (r : Result (Unit {0}) E) → k ≡ [] → Takes a b h → Wrote b c r bytes → Puts a c h k r bytes
written_past a b c h k bytes (Ok x) e held more =
    let P : List ℕ → Type 0 = λ l. Left a c (h ++ bytes) l in
    subst P (sym e) (h ++ bytes, sym (append-nil (h ++ bytes)), takes_more a b c h bytes held more)
written_past a b c h k bytes (Err x) e held more = left_last a b c (h ++ bytes) bytes bytes (Err x) refl (h, refl, held) more

-- ---- Pieces

pub pieces_at : (pieces : List (Bor (List ℕ))) (i : ℕ) (d : Bor (List ℕ)) → i < length pieces → concat (map (λ piece. piece.now) (drop i pieces)) ≡ (get_or pieces i d).now ++ concat (map (λ piece. piece.now) (drop (i + 1) pieces))
pieces_at pieces i d below = rw (drop-cons pieces i d, add-one) refl

pub pieces_end : (pieces : List (Bor (List ℕ))) (i : ℕ) → length pieces ≤ i → concat (map (λ piece. piece.now) (drop i pieces)) ≡ []
pieces_end pieces i h = rw (drop_of_length-le pieces h) refl

-- a word after its space
pub spaced : (word : List ℕ) → 32 ∷ [] ++ word ≡ concat ((32 ∷ []) ∷ word ∷ [])
spaced word = ap (λ l. 32 ∷ l) (sym (append-nil word))

-- the word at a place, after its space, and the words after it
pub words_at : (words : List (Bor (List ℕ))) (i : ℕ) (d : Bor (List ℕ)) → i < length words → line_rest (map (λ word. word.now) (drop i words)) ≡ concat ((32 ∷ []) ∷ (get_or words i d).now ∷ []) ++ line_rest (map (λ word. word.now) (drop (i + 1) words))
words_at words i d below = rest_at words i d below ∙ ap (λ l. l ++ line_rest (map (λ word. word.now) (drop (i + 1) words))) (spaced (get_or words i d).now)

-- the same by another name of the text
pub puts_along : {E : Type 0} (a b : Seen) (h k text other : List ℕ) (r : Result (Unit {0}) E) → text ≡ other → Puts a b h k r text → Puts a b h k r other
puts_along a b h k text other r e puts = let P : List ℕ → Type 0 = λ l. Puts a b h k r l in subst P e puts

-- one piece after the other
pub puts_both : {E : Type 0} (a b c : Seen) (h k m x y : List ℕ) (r : Result (Unit {0}) E) → Left a b (h ++ x) k → Puts b c k m r y → Puts a c h m r (x ++ y)
puts_both a b c h k m x y r first puts =
    held_last a b c (x ++ y) h k y y r refl (held_next a a b (h ++ (x ++ y)) h x (x ++ y) y k refl (held_start a (h ++ (x ++ y))) first) m puts
