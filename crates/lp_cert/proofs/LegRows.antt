-- Ends of legs as they are kept: what is added leaves the others as they are.
use Rattle.std.proofs.Common.{◌≡◌, ℕ, zero, suc, ◌+◌, ◌-◌, ◌≤◌, false, List, [], ◌∷◌, ◌++◌, length, map, drop, take, slice_get, Option, Some, None, All, refl, sym, ap, ap₂, ◌∙◌, arith}
use Rattle.std.proofs.lemmas.Bool.{false≢true}
use Rattle.std.proofs.lemmas.List.{drop-append-le, drop_all, get_or_append_left, length-drop, take-append-le, take_all}
use Rattle.std.proofs.lemmas.List.Elements.{All-head, All-tail}
use Rattle.lp_stack.specs.declared.number.GroupId.{GroupId}
use Rattle.lp_definitions.specs.Ends.{LegEnd}
use Rattle.lp_definitions.specs.declared.cert.Cert.{Cert}
use Rattle.lp_definitions.specs.declared.cert.Claim.TheVariants as claim
use Rattle.lp_definitions.specs.Certificates.{group_id}
use Rattle.lp_numbers.specs.Numbers.{has}
use Rattle.lp_tasks.specs.Passing.{passing}
use Rattle.lp_cert.specs.declared.open_leg.OpenLeg.{OpenLeg}
use Rattle.lp_cert.specs.Invariant.{open_end}
use Rattle.lp_cert.specs.Waiters.{WaitingGroups}
use Rattle.lp_cert.specs.inside.Waiters.{AreBare}
use Rattle.lp_cert.proofs.Bare.{all_bare}
use Rattle.lp_cert.specs.declared.leg_rows.LegRow.{LegRow}
use Rattle.lp_cert.specs.declared.leg_rows.RowKind.{RowKind}
use Rattle.lp_cert.specs.declared.leg_rows.RowKind.TheVariants.{Waiting, Complete, Other}
use Rattle.lp_cert.specs.inside.LegRows.{IsFitting, IsFittingAs, bare_end, is_other, kind_of, row_after, row_end, row_end_as}

-- ---- A part of a list

part_stays : (gs ms : List GroupId) (start count : ℕ) → start + count ≤ length gs → take count (drop start (gs ++ ms)) ≡ take count (drop start gs)
part_stays gs ms start count within =
    let long : count ≤ length (drop start gs) = omega (arith, within, length-drop start gs) in
    ap (take count) (drop-append-le start gs ms (omega (arith, within))) ∙ take-append-le count (drop start gs) ms long

part_own : (gs ms : List GroupId) (start count : ℕ) → start ≡ length gs → count ≡ length ms → take count (drop start (gs ++ ms)) ≡ ms
part_own gs ms start count begins many =
    ap (take count) (drop-append-le start gs ms (omega (arith, begins)) ∙ ap (λ (l : List GroupId). l ++ ms) (drop_all start gs (omega (arith, begins))))
    ∙ take_all count ms (omega (arith, many))

-- ---- More groups, or more ends that are kept whole

same_with_groups : (k : RowKind) (gs ms : List GroupId) (os : List LegEnd) (row : LegRow) → IsFittingAs k (length gs) (length os) row → row_end_as k (gs ++ ms) os row ≡ row_end_as k gs os row
same_with_groups Waiting gs ms os row fits = ap (bare_end row) (part_stays gs ms row.start row.count fits)
same_with_groups Complete gs ms os row fits = ap (bare_end row) (part_stays gs ms row.start row.count fits)
same_with_groups Other gs ms os row fits = refl

same_with_ends : (k : RowKind) (gs : List GroupId) (os ns : List LegEnd) (row : LegRow) → IsFittingAs k (length gs) (length os) row → row_end_as k gs (os ++ ns) row ≡ row_end_as k gs os row
same_with_ends Waiting gs os ns row fits = refl
same_with_ends Complete gs os ns row fits = refl
same_with_ends Other gs os ns row fits = get_or_append_left os ns (bare_end row []) row.start fits

all_same : (f g : LegRow → LegEnd) (P : LegRow → Type 0) → ((row : LegRow) → P row → f row ≡ g row) → (rows : List LegRow) → All P rows → map f rows ≡ map g rows
all_same f g P same [] all = refl
all_same f g P same (row ∷ rows) all = ap₂ (λ (e : LegEnd) (es : List LegEnd). e ∷ es) (same row (All-head P row rows all)) (all_same f g P same rows (All-tail P row rows all))

-- ---- One end more

-- what is told by a row of its own kind
own_as : (k : RowKind) (gs ms : List GroupId) (os : List LegEnd) (row : LegRow) → is_other k ≡ false → row.start ≡ length gs → row.count ≡ length ms → row_end_as k (gs ++ ms) os row ≡ bare_end row ms
own_as Waiting gs ms os row own begins many = ap (bare_end row) (part_own gs ms row.start row.count begins many)
own_as Complete gs ms os row own begins many = ap (bare_end row) (part_own gs ms row.start row.count begins many)
own_as Other gs ms os row own begins many = absurd (false≢true (sym own))

module _ (gs ms : List GroupId) (os : List LegEnd) (rows : List LegRow) (all : All (IsFitting (length gs) (length os)) rows) where
  -- groups that no row tells of change nothing
  pub groups_added : (l : List GroupId) (ends : List LegEnd) → l ≡ gs ++ ms → map (row_end gs os) rows ≡ ends → map (row_end l os) rows ≡ ends
  groups_added l ends is were =
      ap (λ (l : List GroupId). map (row_end l os) rows) is
      ∙ (all_same (row_end (gs ++ ms) os) (row_end gs os) (IsFitting (length gs) (length os)) (λ r fits. same_with_groups r.kind gs ms os r fits) rows all
      ∙ were)

module _ (gs ms : List GroupId) (os : List LegEnd) (row : LegRow) (own : is_other row.kind ≡ false) (begins : row.start ≡ length gs) (many : row.count ≡ length ms) where
  pub own_end : (l : List GroupId) → l ≡ gs ++ ms → row_end l os row ≡ bare_end row ms
  own_end l is = ap (λ (l : List GroupId). row_end l os row) is ∙ own_as row.kind gs ms os row own begins many

module _ (gs : List GroupId) (os : List LegEnd) (end : LegEnd) where
  -- nor does an end that no row tells of
  pub end_added : (rows : List LegRow) → All (IsFitting (length gs) (length os)) rows → map (row_end gs (os ++ end ∷ [])) rows ≡ map (row_end gs os) rows
  end_added rows all = all_same (row_end gs (os ++ end ∷ [])) (row_end gs os) (IsFitting (length gs) (length os)) (λ r fits. same_with_ends r.kind gs os (end ∷ []) r fits) rows all

-- ---- The row of a leg

pub own_row : (noted : ℕ) (leg : OpenLeg) (start count : ℕ) → is_other (row_after noted leg start count).kind ≡ false
own_row noted leg start count = by leg.completed
  where
    by : (o : Option ℕ) → is_other (kind_of o) ≡ false
    by None = refl
    by (Some at) = refl

-- it tells the end of the leg
pub row_tells : (noted : ℕ) (leg : OpenLeg) (start count : ℕ) (w : WaitingGroups) → AreBare w → bare_end (row_after noted leg start count) (map group_id (passing 0 65536 (has w.groups))) ≡ open_end noted w leg
row_tells noted leg start count w bare = by leg.completed
  where
    groups : List ℕ
    groups = passing 0 65536 (has w.groups)

    by : (o : Option ℕ) → bare_end (row_after noted (record leg { completed = o }) start count) (map group_id groups) ≡ open_end noted w (record leg { completed = o })
    by None =
        ap (λ (certs : List Cert). record { opened = leg.opened; target = leg.target; completed = None; certs = certs })
        (all_bare claim.Waiting leg.opened noted w.reasons groups bare)
    by (Some at) =
        ap (λ (certs : List Cert). record { opened = leg.opened; target = leg.target; completed = Some at; certs = certs })
        (all_bare claim.Floor leg.opened (at - 1) w.reasons groups bare)

-- ---- One after the other

pub next_end : (ends : List LegEnd) (k : ℕ) (end : LegEnd) → slice_get ends k ≡ Some end → drop k ends ≡ end ∷ drop (suc k) ends
next_end [] k end is = absurd (cc)
next_end (e ∷ es) zero end is = ap (λ (x : LegEnd). x ∷ es) (some_same is)
  where
    some_same : Some e ≡ Some end → e ≡ end
    some_same is = cc
next_end (e ∷ es) (suc k) end is = next_end es k end is

pub none_left : (ends : List LegEnd) (count passed : ℕ) → count ≡ length ends → (count ≤ passed → drop passed ends ≡ []) × (drop passed ends ≡ [] → count ≤ passed)
none_left ends count passed all = (λ over. drop_all passed ends (omega (arith, over, all)), λ none. omega (arith, all, length-drop passed ends, ap length none))
