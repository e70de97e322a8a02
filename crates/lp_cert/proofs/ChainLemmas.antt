-- Lists of reasons that share their older parts.
use Rattle.std.proofs.Common.{◌≡◌, ℕ, zero, suc, ◌+◌, ◌-◌, ◌<◌, List, [], ◌∷◌, ◌++◌, drop, length, get_or, min, refl, sym, ap, subst, ◌∙◌, arith}
use Rattle.std.proofs.Math.ListN.{get_or-append}
use Rattle.std.proofs.Math.Seq.{get_or-append_seam}
use Rattle.std.proofs.lemmas.List.{length-append, drop-drop}
use Rattle.std.proofs.lemmas.List.Sums.{fold-append}
use Rattle.std.specs.List.{fold}
use Rattle.lp_cert.specs.declared.reason.Reason.{Reason}
use Rattle.lp_cert.specs.declared.chains.Entry.{Entry}
use Rattle.lp_cert.specs.inside.Chains.{with_entry, lists_of, reason_count, IsEmptyAt, IsEntryAt, IsLineCount, IsTail, IsLinked, AreLinked}

-- an entry adds one list
with_entry-length : (lists : List (List Reason)) (entry : Entry) → length (with_entry lists entry) ≡ suc (length lists)
with_entry-length lists entry = length-append lists ((entry.reason ∷ get_or lists entry.older.0 []) ∷ []) ∙ omega arith

fold-length : (lists : List (List Reason)) (entries : List Entry) → length (fold with_entry lists entries) ≡ length lists + length entries
fold-length lists [] = omega arith
fold-length lists (entry ∷ entries) =
    let e = with_entry-length lists entry in
    let h = fold-length (with_entry lists entry) entries in
    omega arith

pub lists_of-length : (entries : List Entry) → length (lists_of entries) ≡ suc (length entries)
unfolding lists_of
lists_of-length entries = fold-length ([] ∷ []) entries ∙ omega arith

-- the lists that are there stay
fold-keeps : (lists : List (List Reason)) (entries : List Entry) (k : ℕ) → k < length lists → get_or (fold with_entry lists entries) k [] ≡ get_or lists k []
fold-keeps lists [] k h = refl
fold-keeps lists (entry ∷ entries) k h =
    let e = with_entry-length lists entry in
    let further : k < length (with_entry lists entry) = omega arith in
    fold-keeps (with_entry lists entry) entries k further
    ∙ get_or-append lists ((entry.reason ∷ get_or lists entry.older.0 []) ∷ []) [] k h

-- ---- Entries, among all lists

-- what an entry is linked to stays
still_linked : (lists all : List (List Reason)) (before : ℕ) (entry : Entry) → ((k : ℕ) → k < before → get_or all k [] ≡ get_or lists k []) → IsLinked lists before entry → IsLinked all before entry
still_linked lists all before entry same is =
    let older = same entry.older.0 is.older in
    let jump = same entry.jump.0 is.jump in
    record {
      older = is.older;
      count = is.count ∙ ap (λ rs. suc (length rs)) (sym older);
      few = is.few;
      lines = subst (λ list. IsLineCount (entry.reason ∷ list) entry.lines) (sym older) is.lines;
      jump = is.jump;
      tail = subst (λ list. IsTail (get_or all entry.jump.0 []) list) (sym older) (subst (λ tail. IsTail tail (get_or lists entry.older.0 [])) (sym jump) is.tail);
    }

fold-linked : (lists : List (List Reason)) (entries : List Entry) (i : ℕ) (entry : Entry)
    → AreLinked lists entries → i < length entries → entry ≡ get_or entries i entry
    → IsLinked (fold with_entry lists entries) (length lists + i) entry
fold-linked lists [] i entry linked h is = absurd (omega arith)
fold-linked lists (first ∷ entries) zero entry linked h is =
    let all = fold with_entry lists (first ∷ entries) in
    let place : length lists ≡ length lists + 0 = omega arith in
    let here : IsLinked all (length lists) first = still_linked lists all (length lists) first (fold-keeps lists (first ∷ entries)) linked.0 in
    subst (λ n. IsLinked all n entry) place (subst (λ (x : Entry). IsLinked all (length lists) x) (sym is) here)
fold-linked lists (first ∷ entries) (suc i) entry linked h is =
    let e = with_entry-length lists first in
    let place : length (with_entry lists first) + i ≡ length lists + suc i = omega arith in
    subst (λ n. IsLinked (fold with_entry (with_entry lists first) entries) n entry) place
    (fold-linked (with_entry lists first) entries i entry linked.1 (omega arith) is)

-- the list of an entry
fold-at : (lists : List (List Reason)) (entries : List Entry) (i : ℕ) (entry : Entry)
    → AreLinked lists entries → i < length entries → entry ≡ get_or entries i entry
    → get_or (fold with_entry lists entries) (length lists + i) [] ≡ entry.reason ∷ get_or (fold with_entry lists entries) entry.older.0 []
fold-at lists [] i entry linked h is = absurd (omega arith)
fold-at lists (first ∷ entries) zero entry linked h is =
    let all = fold with_entry (with_entry lists first) entries in
    let e = with_entry-length lists first in
    let there : length lists < length (with_entry lists first) = omega arith in
    let place : length lists + 0 ≡ length lists = omega arith in
    let this : get_or all (length lists + 0) [] ≡ first.reason ∷ get_or lists first.older.0 [] =
    ap (λ k. get_or all k []) place
    ∙ fold-keeps (with_entry lists first) entries (length lists) there
    ∙ get_or-append_seam lists (first.reason ∷ get_or lists first.older.0 []) [] [] in
    let that : get_or all first.older.0 [] ≡ get_or lists first.older.0 [] = fold-keeps lists (first ∷ entries) first.older.0 linked.0.older in
    this ∙ ap (λ rest. first.reason ∷ rest) (sym that) ∙ ap (λ (x : Entry). x.reason ∷ get_or all x.older.0 []) (sym is)
fold-at lists (first ∷ entries) (suc i) entry linked h is =
    let e = with_entry-length lists first in
    let place : length lists + suc i ≡ length (with_entry lists first) + i = omega arith in
    ap (λ k. get_or (fold with_entry (with_entry lists first) entries) k []) place
    ∙ fold-at (with_entry lists first) entries i entry linked.1 (omega arith) is

-- ---- One more entry

fold-push : (lists : List (List Reason)) (entries : List Entry) (entry : Entry)
    → AreLinked lists entries → IsLinked (fold with_entry lists entries) (length lists + length entries) entry → AreLinked lists (entries ++ entry ∷ [])
fold-push lists [] entry linked last =
    let place : length lists + 0 ≡ length lists = omega arith in
    (subst (λ n. IsLinked lists n entry) place last, tt)
fold-push lists (first ∷ entries) entry linked last =
    let e = with_entry-length lists first in
    let place : length lists + length (first ∷ entries) ≡ length (with_entry lists first) + length entries = omega arith in (
      linked.0,
      fold-push (with_entry lists first) entries entry linked.1 (subst (λ n. IsLinked (fold with_entry (with_entry lists first) entries) n entry) place last),
    )

pub AreLinked-push : (entries : List Entry) (entry : Entry)
    → AreLinked ([] ∷ []) entries → IsLinked (lists_of entries) (length (lists_of entries)) entry → AreLinked ([] ∷ []) (entries ++ entry ∷ [])
unfolding lists_of
AreLinked-push entries entry linked last =
    let place : length (lists_of entries) ≡ 1 + length entries = lists_of-length entries ∙ omega arith in
    fold-push ([] ∷ []) entries entry linked (subst (λ n. IsLinked (lists_of entries) n entry) place last)

pub lists_of-push : (entries : List Entry) (entry : Entry) → lists_of (entries ++ entry ∷ []) ≡ with_entry (lists_of entries) entry
unfolding lists_of
lists_of-push entries entry = fold-append with_entry ([] ∷ []) entries (entry ∷ [])

-- the empty list comes first
pub empty_first : (entries : List Entry) → get_or (lists_of entries) 0 [] ≡ []
unfolding lists_of
empty_first entries = fold-keeps ([] ∷ []) entries 0 (omega arith)

-- ---- Along a list

-- the entry of a list that isn't empty
pub place_below : (entries : List Entry) (at : ℕ) → at < length (lists_of entries) → 0 < at → at - 1 < length entries
place_below entries at known h = omega (arith, lists_of-length entries)

-- the empty list has none
pub empty_at : (entries : List Entry) (at : ℕ) → at ≡ 0 → IsEmptyAt (lists_of entries) at
empty_at entries at none = record { first = none; empty = ap (λ k. get_or (lists_of entries) k []) none ∙ empty_first entries }

-- a list is its newest reason and an earlier list, and its entry is linked to those before it
pub entry_at : (entries : List Entry) (at : ℕ) (entry : Entry) → AreLinked ([] ∷ []) entries → at < length (lists_of entries) → 0 < at → entry ≡ get_or entries (at - 1) entry
    → IsEntryAt (lists_of entries) at entry
unfolding lists_of
entry_at entries at entry linked known some is =
    let e : 1 + (at - 1) ≡ at = omega arith in
    let below = place_below entries at known some in
    record {
      list = ap (λ k. get_or (lists_of entries) k []) (sym e) ∙ fold-at ([] ∷ []) entries (at - 1) entry linked below is;
      linked = subst (λ n. IsLinked (lists_of entries) n entry) e (fold-linked ([] ∷ []) entries (at - 1) entry linked below is);
    }

-- no reason has no line
pub no_lines : (list : List Reason) → list ≡ [] → IsLineCount list 0
no_lines list empty = subst (λ list. IsLineCount list 0) (sym empty) (record { no_more = omega arith; all = λ _. refl })

-- the lines of one more reason are counted
pub one_more_counted : (list : List Reason) (reason : Reason) (lines more all : ℕ) → IsLineCount list lines → more ≡ reason_count reason
    → all ≡ min (min (lines + more) 18446744073709551615) 4294967295 → IsLineCount (reason ∷ list) all
one_more_counted list reason lines more all is own sum = record {
  no_more = omega (arith, is.no_more);
  all = λ few. omega (arith, is.all (omega arith));
}

-- ---- Lists without some of their newest reasons

pub tail_itself : (list : List Reason) → IsTail list list
tail_itself list = let none : 0 ≡ length list - length list = omega arith in record { shorter = omega arith; rest = ap (λ n. drop n list) none }

pub tail_of_tail : (far near list : List Reason) → IsTail far near → IsTail near list → IsTail far list
tail_of_tail far near list first second =
    let more : length list - length near + (length near - length far) ≡ length list - length far = omega (arith, first.shorter, second.shorter) in
    record {
      shorter = omega (arith, first.shorter, second.shorter);
      rest =
          first.rest
          ∙ (ap (drop (length near - length far)) second.rest
          ∙ (drop-drop (length near - length far) (length list - length near) list ∙ ap (λ n. drop n list) more));
    }

pub one_less : (list older : List Reason) (reason : Reason) → list ≡ reason ∷ older → IsTail older list
one_less list older reason is =
    let longer : length list ≡ suc (length older) = ap length is in
    let one : 1 ≡ length list - length older = omega arith in
    record { shorter = omega arith; rest = ap (drop 1) (sym is) ∙ ap (λ n. drop n list) one }

-- without its newest reason, if there is one
pub tail_of_drop : (list older : List Reason) → older ≡ drop 1 list → IsTail older list
tail_of_drop [] older is = subst (λ tail. IsTail tail []) (sym is) (tail_itself [])
tail_of_drop (reason ∷ list) older is = one_less (reason ∷ list) older reason (ap (λ rest. reason ∷ rest) (sym is))

-- and further back
pub tail_before : (older near list : List Reason) → older ≡ drop 1 near → IsTail near list → IsTail older list
tail_before older near list is tail = tail_of_tail older near list (tail_of_drop near older is) tail
