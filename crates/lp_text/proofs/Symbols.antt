-- Names among symbols.
use Rattle.std.proofs.Common.{◌≡◌, ◌<◌, ◌≤◌, ℕ, zero, suc, Bool, true, false, not, List, [], ◌∷◌, length, None, Some, Ok, refl, sym, arith, subst, leb-true}
use Rattle.std.specs.Prelude.{position, ◌&&◌, nat_lt, nat_le, ◌==◌, Err}
use Rattle.std.specs.List.{list_all, prefix_len, IsDistinct, AllByRecursion, slice_get}
use Rattle.std.proofs.lemmas.Option.{slice_get_within}
use Rattle.std.specs.Char.{is_ascii_graphic}
use Rattle.std.specs.Str.{bytes_eq, IsUtf8, IsAscii}
use Rattle.std.proofs.lemmas.Bool.{and_parts}
use Rattle.std.proofs.lemmas.Bool.Decides.{Decides-ltb}
use Rattle.std.proofs.lemmas.Slice.Eq.{bytes_eq-Decides}
use Rattle.std.proofs.lemmas.Str.{IsUtf8-from_ascii}
use Rattle.std.proofs.lemmas.Str.Ascii.{IsAscii-cons}
use Rattle.lp_symbols.specs.Names.{is_name}
use Rattle.lp_text.specs.declared.fault.Cause.TheVariants as cause
use Rattle.lp_text.specs.Traces.{AreNames, TraceValue}
use Rattle.lp_text.specs.Reading.{add_symbol, symbol_of}

no_byte : IsAscii []
no_byte i = omega arith

pub graphic_ascii : (bytes : List ℕ) → list_all is_ascii_graphic bytes ≡ true → IsAscii bytes
graphic_ascii [] h = no_byte
graphic_ascii (b ∷ bs) h =
    let both = and_parts (is_ascii_graphic b) (list_all is_ascii_graphic bs) h in
    let range = and_parts (nat_le 33 b) (nat_le b 126) both.0 in
    let high : b ≤ 126 = leb-true b 126 range.1 in
    IsAscii-cons b bs (omega arith) (graphic_ascii bs both.1)

-- a name is one to 512 bytes, each of them from 33 to 126
pub name_graphic : (name : List ℕ) → is_name name ≡ true → list_all is_ascii_graphic name ≡ true
name_graphic name h = (and_parts (not (length name == 0) && nat_le (length name) 512) (list_all is_ascii_graphic name) h).1

pub name_utf8 : (name : List ℕ) → is_name name ≡ true → IsUtf8 name
name_utf8 name h = IsUtf8-from_ascii name (graphic_ascii name (name_graphic name h))

-- a word that no name can be is none of them
differs : (name symbol : List ℕ) → is_name symbol ≡ true → ¬ (IsUtf8 name) → (b : Bool) → bytes_eq name symbol ≡ b → b ≡ false
differs name symbol h odd false e = refl
differs name symbol h odd true e =
    let same : name ≡ symbol = (bytes_eq-Decides name symbol).0 e in
    absurd (odd (subst IsUtf8 (sym same) (name_utf8 symbol h)))

none_before : (symbols : List (List ℕ)) (name : List ℕ) → AreNames symbols → ¬ (IsUtf8 name) → prefix_len (λ x. not (bytes_eq name x)) symbols ≡ length symbols
none_before [] name h odd = refl
none_before (symbol ∷ symbols) name h odd =
    let here : bytes_eq name symbol ≡ false = differs name symbol h.0 odd (bytes_eq name symbol) refl in
    let there : prefix_len (λ x. not (bytes_eq name x)) symbols ≡ length symbols = none_before symbols name h.1 odd in
    rw here (omega arith)

not_below : (n : ℕ) (b : Bool) → nat_lt n n ≡ b → b ≡ false
not_below n false e = refl
not_below n true e = let below : n < n = (Decides-ltb n n).0 e in absurd (omega arith)

pub found : (symbols : List (List ℕ)) (name : List ℕ) → AreNames symbols → ¬ (IsUtf8 name) → position (bytes_eq name) symbols ≡ None
found symbols name h odd =
    let all : prefix_len (λ x. not (bytes_eq name x)) symbols ≡ length symbols = none_before symbols name h odd in
    rw (all, not_below (length symbols) (nat_lt (length symbols) (length symbols)) refl) refl

no_name : (name : List ℕ) → ¬ (IsUtf8 name) → (b : Bool) → is_name name ≡ b → b ≡ false
no_name name odd false e = refl
no_name name odd true e = absurd (odd (name_utf8 name e))

pub odd_symbol : (so_far : TraceValue) (name : List ℕ) → ¬ (IsUtf8 name) → add_symbol so_far name ≡ Err cause.Name
unfolding add_symbol
odd_symbol so_far name odd = rw (no_name name odd (is_name name) refl) refl

-- ---- A name at a place

injective : {X : Type 0} (a b : X) → Some a ≡ Some b → a ≡ b
injective a b e = cc

holds_at : {X : Type 0} (P : X → Type 0) (xs : List X) (i : ℕ) (x : X) → AllByRecursion P xs → slice_get xs i ≡ Some x → P x
holds_at P [] i x all get = absurd (cc)
holds_at P (y ∷ xs) zero x all get = subst P (injective y x get) all.0
holds_at P (y ∷ xs) (suc i) x all get = holds_at P xs i x all.1 get

-- no other symbol has the name
apart : (name symbol : List ℕ) → bytes_eq symbol name ≡ false → (b : Bool) → bytes_eq name symbol ≡ b → b ≡ false
apart name symbol other false e = refl
apart name symbol other true e =
    let same : name ≡ symbol = (bytes_eq-Decides name symbol).0 e in
    let back : bytes_eq symbol name ≡ true = (bytes_eq-Decides symbol name).1 (sym same) in
    cc

none_before_at : (symbols : List (List ℕ)) (name : List ℕ) (i : ℕ) → IsDistinct bytes_eq symbols → slice_get symbols i ≡ Some name → prefix_len (λ x. not (bytes_eq name x)) symbols ≡ i
unfolding IsDistinct
none_before_at [] name i distinct get = absurd (cc)
none_before_at (symbol ∷ symbols) name zero distinct get =
    let same : symbol ≡ name = injective symbol name get in
    let here : bytes_eq name symbol ≡ true = (bytes_eq-Decides name symbol).1 (sym same) in
    rw here refl
none_before_at (symbol ∷ symbols) name (suc i) distinct get =
    let other : bytes_eq symbol name ≡ false = holds_at (λ y. bytes_eq symbol y ≡ false) symbols i name distinct.0 get in
    let here : bytes_eq name symbol ≡ false = apart name symbol other (bytes_eq name symbol) refl in
    let there : prefix_len (λ x. not (bytes_eq name x)) symbols ≡ i = none_before_at symbols name i distinct.1 get in
    rw here (omega (arith, there))

-- the symbol of a name that stands at a place
pub symbol_at : (symbols : List (List ℕ)) (name : List ℕ) (i : ℕ) → IsDistinct bytes_eq symbols → slice_get symbols i ≡ Some name → symbol_of symbols name ≡ Ok (record { 0 = i })
unfolding symbol_of
symbol_at symbols name i distinct get =
    let there : prefix_len (λ x. not (bytes_eq name x)) symbols ≡ i = none_before_at symbols name i distinct get in
    let below : nat_lt i (length symbols) ≡ true = (Decides-ltb i (length symbols)).1 (slice_get_within symbols i name get) in
    rw (there, below) refl

-- what stands at a place is a name
pub name_at : (symbols : List (List ℕ)) (name : List ℕ) (i : ℕ) → AreNames symbols → slice_get symbols i ≡ Some name → is_name name ≡ true
name_at symbols name i names get = holds_at (λ n. is_name n ≡ true) symbols i name names get
