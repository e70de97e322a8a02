-- Bytes that were written one piece after another.
use Rattle.std.proofs.Common.{◌≡◌, ◌<◌, ◌≤◌, ◌+◌, ◌-◌, ℕ, zero, suc, Bool, true, false, inl, inr, List, [], ◌∷◌, ◌++◌, length, take, drop, Option, None, Some, Result, Ok, Err, Bor, map, get_or, add-one, subst, refl, sym, ap, ◌∙◌, arith, append_assoc}
use Rattle.std.specs.Prelude.{Vec, nat_le, nat_lt, ◌==◌, IsErr}
use Rattle.std.specs.Io.KnownBytes.{Appends}
use Rattle.std.specs.List.{list_any, AllByRecursion, join_with_byte, flat_map}
use Rattle.std.proofs.lemmas.Bool.Decides.{leb_tells}
use Rattle.std.proofs.lemmas.Grind.{flat_map-append}
use Rattle.lp_symbols.specs.declared.sym_id.SymId.{SymId}
use Rattle.lp_patch.specs.declared.fault.PatchFault.TheVariants as patch
use Rattle.lp_patch.specs.Patches.{first_fault, patch_refusal}
use Rattle.lp_text.specs.declared.form.TraceForm.{TraceForm}
use Rattle.lp_text.specs.Traces.{TraceValue, boot_words, event_words, lines_after_header, name, patch_lines, patch_words, sym_words, text_of, functions}
use Rattle.lp_text.proofs.Pushes.{none_if}
use Rattle.std.proofs.lemmas.List.{take-append-drop, take_all, length-drop, append-nil}
use Rattle.std.proofs.Math.ListN.{drop_of_length-le}
use Rattle.std.proofs.Math.Seq.{drop-cons}
use Rattle.lp_text.specs.Words.{line_of, header}
use Rattle.lp_text.specs.Counts.{Counts, next}
use Rattle.lp_text.specs.StreamContract.{WritesToEnd, ended, write_end}
use Rattle.lp_text.specs.declared.write.WriteFault.{WriteFault}
use Rattle.lp_text.specs.Writing.{Writes}
use Rattle.lp_text.specs.inside.Writing.{Left, Seen, Takes, TakesPrefix, Wrote, line_rest, seen_of}
use Rattle.lp_text.proofs.StreamContract.{writes_done, writes_failed}

pub appends_more : (a b c : Option (List ℕ)) (x y : List ℕ) → Appends a b x → Appends b c y → Appends a c (x ++ y)
appends_more None b c x y h k = tt
appends_more (Some xs) None c x y h k = absurd h
appends_more (Some xs) (Some ys) None x y h k = absurd k
appends_more (Some xs) (Some ys) (Some zs) x y h k = k ∙ ap (λ l. l ++ y) h ∙ append_assoc xs x y

pub takes_more : (a b c : Seen) (x y : List ℕ) → Takes a b x → Takes b c y → Takes a c (x ++ y)
takes_more a b c x y h k = (appends_more a.held b.held c.held x y h.0 k.0, k.1 ∙ h.1)

pub prefix_more : (a b : Seen) (x y text : List ℕ) → text ≡ x ++ y → TakesPrefix a b x → TakesPrefix a b text
prefix_more a b x y text e h =
    let it = h.0 in
    ((it.0, it.1 ++ y, e ∙ ap (λ l. l ++ y) it.2 ∙ append_assoc it.0 it.1 y, it.3), h.1)

pub prefix_after : (a b c : Seen) (x y text : List ℕ) → text ≡ x ++ y → Takes a b x → TakesPrefix b c y → TakesPrefix a c text
prefix_after a b c x y text e h k =
    let it = k.0 in
    ((x ++ it.0, it.1, e ∙ ap (λ l. x ++ l) it.2 ∙ sym (append_assoc x it.0 it.1), appends_more a.held b.held c.held x it.0 h.0 it.3), k.1 ∙ ap next h.1)

-- a piece of a text, between what was written before it and what comes after it
pub prefix_within : (a b c : Seen) (x y z text : List ℕ) → text ≡ x ++ (y ++ z) → Takes a b x → TakesPrefix b c y → TakesPrefix a c text
prefix_within a b c x y z text e h k = prefix_after a b c x (y ++ z) text e h (prefix_more b c y z (y ++ z) refl k)

-- a writer took some of the bytes that were left
pub took : (a b c : Option (List ℕ)) (bytes rest : List ℕ) (count : ℕ) → ((done : List ℕ) × (bytes ≡ done ++ rest) × Appends a b done) → Appends b c (take count rest) → (done : List ℕ) × (bytes ≡ done ++ take (length rest - count) (drop count rest)) × Appends a c done
took a b c bytes rest count h k =
    let whole : take (length rest - count) (drop count rest) ≡ drop count rest = take_all _ _ (omega (arith, length-drop count rest)) in (
      h.0 ++ take count rest,
      h.1 ∙ ap (λ l. h.0 ++ l) (sym (take-append-drop count rest) ∙ ap (λ l. take count rest ++ l) (sym whole)) ∙ sym (append_assoc h.0 (take count rest) (take (length rest - count) (drop count rest))),
      appends_more a b c h.0 (take count rest) h.2 k,
    )

-- a call gave up
pub writes_err : {E : Type 0} (a b : Seen) (text : List ℕ) (r : Result (Unit {0}) E) → IsErr r → TakesPrefix a b text → Wrote a b r text
writes_err a b text (Ok x) is h = absurd (cc is)
writes_err a b text (Err e) is h = h

-- the last of several calls
pub writes_after : {E : Type 0} (a b c : Seen) (x y text : List ℕ) (r : Result (Unit {0}) E) → text ≡ x ++ y → Takes a b x → Wrote b c r y → Wrote a c r text
writes_after a b c x y text (Ok z) e h k = let P : List ℕ → Type 0 = λ t. Takes a c t in subst P (sym e) (takes_more a b c x y h k)
writes_after a b c x y text (Err z) e h k = prefix_after a b c x y text e h k

-- what a call says of the bytes and of its failures, put together
module _ {W : Type 0} (contents : W → Option (List ℕ)) (a b : Counts W) (text : List ℕ) where
  pub wrote : (r : Result (Unit {0}) WriteFault) → Writes (contents a.stream) (contents b.stream) r text → WritesToEnd (ended write_end r) a b → Wrote (seen_of contents a) (seen_of contents b) r text
  wrote (Ok x) h writes = (h, writes.written refl)
  wrote (Err e) h writes = (h, writes.write_failed refl)

  -- and taken apart
  pub writes_of : (r : Result (Unit {0}) WriteFault) → Wrote (seen_of contents a) (seen_of contents b) r text → Writes (contents a.stream) (contents b.stream) r text
  writes_of (Ok x) h = h.0
  writes_of (Err e) h = h.0

  pub writes_to_end : (r : Result (Unit {0}) WriteFault) → Wrote (seen_of contents a) (seen_of contents b) r text → WritesToEnd (ended write_end r) a b
  writes_to_end (Ok x) h = writes_done a b h.1
  writes_to_end (Err e) h = writes_failed a b h.1

-- ---- Words of a line

pub line_split : (first : List ℕ) (words : List (List ℕ)) → line_of (first ∷ words) ≡ first ++ line_rest words
line_split first [] = refl
line_split first (word ∷ words) = append_assoc first (32 ∷ join_with_byte 32 (word ∷ words)) (10 ∷ []) ∙ ap (λ l. first ++ 32 ∷ l) (line_split word words)

-- the word at a place, and the words after it
pub rest_at : (words : List (Bor (List ℕ))) (i : ℕ) (d : Bor (List ℕ)) → i < length words → line_rest (map (λ word. word.now) (drop i words)) ≡ (32 ∷ [] ++ (get_or words i d).now) ++ line_rest (map (λ word. word.now) (drop (i + 1) words))
rest_at words i d below = rw (drop-cons words i d, add-one) refl

pub rest_end : (words : List (Bor (List ℕ))) (i : ℕ) → length words ≤ i → line_rest (map (λ word. word.now) (drop i words)) ≡ 10 ∷ []
rest_end words i h = rw (drop_of_length-le words h) refl

-- ---- A loop that writes one piece after another

pub left_prefix : (a b c : Seen) (text piece now next : List ℕ) → now ≡ piece ++ next → Left a b text now → TakesPrefix b c piece → TakesPrefix a c text
left_prefix a b c text piece now next e h k = prefix_within a b c h.0 piece next text (h.1 ∙ ap (λ l. h.0 ++ l) e) h.2 k

pub left_next : (a b c : Seen) (text piece now next : List ℕ) → now ≡ piece ++ next → Left a b text now → Takes b c piece → Left a c text next
left_next a b c text piece now next e h k =
    (h.0 ++ piece, h.1 ∙ ap (λ l. h.0 ++ l) e ∙ sym (append_assoc h.0 piece next), takes_more a b c h.0 piece h.2 k)

pub left_last : {E : Type 0} (a b c : Seen) (text now last : List ℕ) (r : Result (Unit {0}) E) → now ≡ last → Left a b text now → Wrote b c r last → Wrote a c r text
left_last a b c text now last r e h k = writes_after a b c h.0 last text r (h.1 ∙ ap (λ l. h.0 ++ l) e) h.2 k

pub left_none : (a b : Seen) (text now : List ℕ) → now ≡ [] → Left a b text now → Takes a b text
left_none a b text now e h =
    let P : List ℕ → Type 0 = λ t. Takes a b t in
    subst P (sym (h.1 ∙ ap (λ l. h.0 ++ l) e ∙ append-nil h.0)) h.2

-- ---- Lines of a list

module _ {X : Type 0} (f : X → List (List ℕ)) where
  pub lines_at : (xs : List X) (i : ℕ) (d : X) → i < length xs → flat_map line_of (map f (drop i xs)) ≡ line_of (f (get_or xs i d)) ++ flat_map line_of (map f (drop (i + 1) xs))
  lines_at xs i d below = rw (drop-cons xs i d, add-one) refl

  pub lines_end : (xs : List X) (i : ℕ) → length xs ≤ i → flat_map line_of (map f (drop i xs)) ≡ []
  lines_end xs i h = rw (drop_of_length-le xs h) refl

module _ {A : Type 0} (form : TraceForm) (symbols : List (List ℕ)) where
  pub patches_at : (patches : List (Vec SymId A)) (i : ℕ) (d : Vec SymId A) → i < length patches → flat_map line_of (patch_lines form symbols (i + 1) (functions (drop i patches))) ≡ flat_map line_of (map (λ func. patch_words form (i + 1) (name symbols func)) (get_or patches i d).items) ++ flat_map line_of (patch_lines form symbols (i + 1 + 1) (functions (drop (i + 1) patches)))
  unfolding patch_lines
  patches_at patches i d below = rw (drop-cons patches i d, add-one) (flat_map-append line_of _ _)

  -- the same, where the patch was borrowed
  pub patches_borrowed : (patches : List (Vec SymId A)) (i : ℕ) (d : Vec SymId A) (borrowed : List SymId) → borrowed ≡ d.items → d ≡ get_or patches i d → i < length patches → flat_map line_of (patch_lines form symbols (i + 1) (functions (drop i patches))) ≡ flat_map line_of (map (λ func. patch_words form (i + 1) (name symbols func)) borrowed) ++ flat_map line_of (patch_lines form symbols (i + 1 + 1) (functions (drop (i + 1) patches)))
  patches_borrowed patches i d borrowed e h below =
      patches_at patches i d below ∙ ap (λ p. flat_map line_of (map (λ func. patch_words form (i + 1) (name symbols func)) p) ++ flat_map line_of (patch_lines form symbols (i + 1 + 1) (functions (drop (i + 1) patches)))) (sym (e ∙ ap (λ v. v.items) h))

  pub patches_end : (patches : List (Vec SymId A)) (i n : ℕ) → length patches ≤ i → flat_map line_of (patch_lines form symbols n (functions (drop i patches))) ≡ []
  unfolding patch_lines
  patches_end patches i n h = rw (drop_of_length-le patches h) refl

-- ---- Known functions

pub at_most_false : (m n : ℕ) (b : Bool) → nat_le m n ≡ b → b ≡ false → n < m
at_most_false m n true e h = absurd (cc h)
at_most_false m n false e h = elim (leb_tells m n) as (λ _. n < m) [ inl told ↦ absurd (cc (sym e ∙ told.0)) | inr told ↦ told.1 ]

known_from : (count : ℕ) (seen ids : List SymId) (i : ℕ) (d : SymId) → first_fault count seen ids ≡ None → i < length ids → (get_or ids i d).0 < count
known_from count seen [] i d h below = absurd (omega arith)
known_from count seen (id ∷ ids) zero d h below = at_most_false count id.0 (nat_le count id.0) refl (none_if (nat_le count id.0) _ _ h).0
known_from count seen (id ∷ ids) (suc i) d h below =
    let a = none_if (nat_le count id.0) (patch.Unknown id) _ h in
    let b = none_if (list_any (λ s. s.0 == id.0) seen) (patch.Doubled id) _ a.1 in
    known_from count (seen ++ id ∷ []) ids i d b.1 (omega arith)

pub known_at : (count : ℕ) (ids : List SymId) (i : ℕ) (d : SymId) → patch_refusal count ids ≡ None → i < length ids → (get_or ids i d).0 < count
known_at count ids i d h below =
    let a = none_if (length ids == 0) patch.Empty _ h in
    let b = none_if (nat_lt 256 (length ids)) patch.TooMany _ a.1 in
    known_from count [] ids i d b.1 below

pub good_at : {A : Type 0} (P : List SymId → Type 0) (patches : List (Vec SymId A)) (i : ℕ) (d : Vec SymId A) → AllByRecursion P (functions patches) → i < length patches → P (get_or patches i d).items
good_at P [] i d h below = absurd (omega arith)
good_at P (p ∷ ps) zero d h below = h.0
good_at P (p ∷ ps) (suc i) d h below = good_at P ps i d h.1 (omega arith)

-- ---- The whole text

-- the parts of a text, each as its lines
module _ (t : TraceValue) where
  abbrev pub symbols_part : List ℕ
  symbols_part = flat_map line_of (map sym_words t.symbols)

  abbrev pub patches_part : List ℕ
  patches_part = flat_map line_of (patch_lines t.form t.symbols 1 t.patches)

  abbrev pub boots_part : List ℕ
  boots_part = flat_map line_of (map boot_words t.boots)

  abbrev pub events_part : List ℕ
  events_part = flat_map line_of (map (event_words t.symbols) t.events)

  pub text_split : text_of t ≡ line_of (header t.form ∷ []) ++ (symbols_part ++ (patches_part ++ (boots_part ++ events_part)))
  unfolding text_of lines_after_header
  text_split = simp (flat_map-append, append_assoc)

-- where a writer stands after each part
module _ (t : TraceValue) (a b c d e f : Seen) where
  pub before_symbols : Takes a b (line_of (header t.form ∷ [])) → Left a b (text_of t) (symbols_part t ++ (patches_part t ++ (boots_part t ++ events_part t)))
  before_symbols h = (line_of (header t.form ∷ []), text_split t, h)

  pub before_patches : Takes a b (line_of (header t.form ∷ [])) → Takes b c (symbols_part t) → Left a c (text_of t) (patches_part t ++ (boots_part t ++ events_part t))
  before_patches h k = left_next a b c (text_of t) (symbols_part t) _ _ refl (before_symbols h) k

  pub before_boots : Takes a b (line_of (header t.form ∷ [])) → Takes b c (symbols_part t) → Takes c d (patches_part t) → Left a d (text_of t) (boots_part t ++ events_part t)
  before_boots h k l = left_next a c d (text_of t) (patches_part t) _ _ refl (before_patches h k) l

  pub before_events : Takes a b (line_of (header t.form ∷ [])) → Takes b c (symbols_part t) → Takes c d (patches_part t) → Takes d e (boots_part t) → Left a e (text_of t) (events_part t)
  before_events h k l m = left_next a d e (text_of t) (boots_part t) _ _ refl (before_boots h k l) m
