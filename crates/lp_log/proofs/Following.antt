-- A list that follows a part, as the part grows.
use Rattle.std.proofs.Common.{◌≡◌, ◌≢◌, ℕ, ◌+◌, ◌<◌, ◌≤◌, true, false, List, [], ◌∷◌, ◌++◌, length, get_or, Some, None, refl, sym, ap, ap₂, ◌∙◌, arith, length-append}
use Rattle.std.specs.List.{slice_get}
use Rattle.std.proofs.lemmas.List.{take_all, take_more, take-append-le, get_or_append_left, get_or_push}
use Rattle.std.proofs.lemmas.Option.{slice_get_past, slice_get_within, slice_get-get_or, get_or_from_slice_get}
use Rattle.lp_log.specs.Entries.{Entry}
use Rattle.lp_log.specs.declared.cursor.Cursor.{Cursor}
use Rattle.lp_log.specs.Audits.{DifferAt}
use Rattle.lp_log.specs.inside.Cursors.{Follows, cursor_at}

pub follows_none : (sent : List Entry) → Follows sent [] (cursor_at 0 false)
follows_none sent = record { alike = refl; within_sent = omega arith; within = omega arith; follows = λ e. refl; differs = λ (e : false ≡ true). cc }

-- what stands before the end of a list stays where the list grows
get_front : (xs : List Entry) (y : Entry) (k : ℕ) → k < length xs → slice_get (xs ++ y ∷ []) k ≡ slice_get xs k
get_front xs y k within =
    let longer : length (xs ++ y ∷ []) ≡ length xs + 1 = length-append xs (y ∷ []) in
    slice_get-get_or (xs ++ y ∷ []) k y (omega arith) ∙ ap (λ (e : Entry). Some e) (get_or_append_left xs (y ∷ []) y k within) ∙ sym (slice_get-get_or xs k y within)

get_last : (xs : List Entry) (y : Entry) (k : ℕ) → k ≡ length xs → slice_get (xs ++ y ∷ []) k ≡ Some y
get_last xs y k is =
    let longer : length (xs ++ y ∷ []) ≡ length xs + 1 = length-append xs (y ∷ []) in
    slice_get-get_or (xs ++ y ∷ []) k y (omega arith) ∙ ap (λ (e : Entry). Some e) (get_or_push xs y y k (sym is))

pub follows_off : (sent part : List Entry) (entry : Entry) (cursor : Cursor) → cursor.off ≡ true → Follows sent part cursor → Follows sent (part ++ entry ∷ []) cursor
follows_off sent part entry cursor off f =
    let longer : length (part ++ entry ∷ []) ≡ length part + 1 = length-append part (entry ∷ []) in
    let differs = f.differs off in
    record {
      alike = f.alike ∙ sym (take-append-le cursor.at part (entry ∷ []) f.within);
      within_sent = f.within_sent;
      within = omega (arith, f.within, longer);
      follows = λ on. cc;
      differs = λ e. (omega (arith, differs.0, longer), λ same. differs.1 (same ∙ get_front part entry cursor.at differs.0));
    }

pub follows_next : (sent part : List Entry) (entry : Entry) (cursor : Cursor) → cursor.off ≡ false → slice_get sent cursor.at ≡ Some entry → Follows sent part cursor → Follows sent (part ++ entry ∷ []) (cursor_at (cursor.at + 1) false)
follows_next sent part entry cursor on here f =
    let longer : length (part ++ entry ∷ []) ≡ length part + 1 = length-append part (entry ∷ []) in
    let whole : cursor.at ≡ length part = f.follows on in
    let within : cursor.at < length sent = slice_get_within sent cursor.at entry here in
    record {
      alike = take_more sent cursor.at entry within
          ∙ ap₂ (λ (es : List Entry) (e : Entry). es ++ e ∷ []) (f.alike ∙ take_all cursor.at part (omega arith)) (get_or_from_slice_get sent cursor.at entry entry here)
          ∙ sym (take_all (cursor.at + 1) (part ++ entry ∷ []) (omega arith));
      within_sent = omega arith;
      within = omega arith;
      follows = λ e. omega arith;
      differs = λ (e : false ≡ true). cc;
    }

pub follows_stop : (sent part : List Entry) (entry : Entry) (cursor : Cursor) → cursor.off ≡ false → slice_get sent cursor.at ≢ Some entry → Follows sent part cursor → Follows sent (part ++ entry ∷ []) (cursor_at cursor.at true)
follows_stop sent part entry cursor on here f =
    let longer : length (part ++ entry ∷ []) ≡ length part + 1 = length-append part (entry ∷ []) in
    let whole : cursor.at ≡ length part = f.follows on in
    record {
      alike = f.alike ∙ sym (take-append-le cursor.at part (entry ∷ []) f.within);
      within_sent = f.within_sent;
      within = omega arith;
      follows = λ (e : true ≡ false). cc;
      differs = λ e. (omega arith, λ alike. here (alike ∙ get_last part entry cursor.at whole));
    }

pub differs_off : (sent part : List Entry) (cursor : Cursor) → cursor.off ≡ true → Follows sent part cursor → DifferAt sent part cursor.at
differs_off sent part cursor off f = record { before = f.alike; there = (f.differs off).1 }

pub differs_short : (sent part : List Entry) (cursor : Cursor) → cursor.off ≡ false → cursor.at < length sent → Follows sent part cursor → DifferAt sent part cursor.at
differs_short sent part cursor on within f =
    let whole : cursor.at ≡ length part = f.follows on in
    let past : slice_get part cursor.at ≡ None = slice_get_past part cursor.at (omega arith) in
    record {
      before = f.alike;
      there = λ same. none_some sent cursor.at within (same ∙ past);
    }
  where
    none_some : (xs : List Entry) (k : ℕ) → k < length xs → slice_get xs k ≡ None → ⊥
    none_some [] k within e = omega arith
    none_some (x ∷ xs) k within e = let there : slice_get (x ∷ xs) k ≡ Some (get_or (x ∷ xs) k x) = slice_get-get_or (x ∷ xs) k x within in cc

pub same_whole : (sent part : List Entry) (cursor : Cursor) → cursor.off ≡ false → length sent ≤ cursor.at → Follows sent part cursor → sent ≡ part
same_whole sent part cursor on past f =
    let whole : cursor.at ≡ length part = f.follows on in
    sym (take_all cursor.at sent past) ∙ f.alike ∙ take_all cursor.at part (omega arith)
