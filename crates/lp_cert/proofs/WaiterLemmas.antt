-- The groups that wait, as the verdicts of a scan are noted one by one.
use Rattle.std.proofs.Common.{◌≡◌, ◌≢◌, ℕ, ◌+◌, ◌<◌, ◌≤◌, Bool, true, false, List, [], ◌∷◌, ◌++◌, length, map, set, get_or, not, ◌&&◌, Option, Some, None, if◌then◌else◌, nat_eq, refl, sym, ap, ap₂, subst, ◌∙◌, arith}
use Rattle.std.specs.List.{AllByRecursion}
use Rattle.std.specs.Option.{option_map}
use Rattle.std.proofs.lemmas.Bool.{false≢true, cond-true, cond-false, eqb-true, eqb-false}
use Rattle.std.proofs.lemmas.List.{get_or-set_same, get_or-set_other, length-append, length-set, map-append}
use Rattle.lp_stack.specs.declared.number.GroupId.{GroupId}
use Rattle.lp_numbers.specs.Numbers.{Numbers, has, IsEmpty}
use Rattle.lp_model.specs.declared.check.Blame.{Blame}
use Rattle.lp_model.specs.declared.verdict.Verdict.{Verdict}
use Rattle.lp_definitions.specs.Tasks.{on_live, first_of}
use Rattle.lp_definitions.specs.Leg.{LegTask, State}
use Rattle.lp_machine.specs.Table.{Table, slot, fate_at, leg_tasks}
use Rattle.lp_definitions.specs.declared.line.Line.{Line}
use Rattle.lp_cert.specs.declared.reason.Reason.{Reason}
use Rattle.lp_cert.specs.declared.head.Head.{Head}
use Rattle.lp_cert.specs.declared.ongoing.Ongoing.TheVariants.{Nothing}
use Rattle.lp_definitions.specs.Certificates.{group_id, after_refusal}
use Rattle.lp_cert.specs.Heads.{ongoing_reasons, head_lines, lines_of}
use Rattle.lp_cert.specs.inside.Heads.{FitsIn, FitsOlder, IsHead, Keeps, HasFrameAs, IsRefusedBy}
use Rattle.lp_transition.specs.Blames.{has_frame_in}
use Rattle.lp_transition.specs.Scan.{member_verdict, first_refused}
use Rattle.lp_cert.specs.Waiters.{LegReasons, head_of}
use Rattle.lp_cert.specs.inside.Waiters.{lines_in, StandsAt, IsRefusedOnce, IsJudged, AreJudged, is_left, lines_at, after_verdict, scanned_lines}
use Rattle.lp_cert.proofs.HeadLemmas.{head_further}

-- ---- Lists that stay

pub keeps_trans : (a b c : List (List Reason)) → Keeps a b → Keeps b c → Keeps a c
keeps_trans a b c ab bc = record {
  no_less = omega (arith, ab.no_less, bc.no_less);
  same = λ i h. bc.same i (omega (arith, ab.no_less)) ∙ ab.same i h;
}

pub head_kept : (old new : List (List Reason)) (scans : ℕ) (h : Head) → Keeps old new → IsHead old scans h → IsHead new scans h
head_kept old new scans h kept is =
    let e = kept.same h.older.0 is.known in
    record {
      known = omega (arith, is.known, kept.no_less);
      fits = subst (AllByRecursion (FitsIn scans)) (sym e) is.fits;
      continues = is.continues;
      fits_older = subst (FitsOlder scans h.ongoing) (sym e) is.fits_older;
    }

pub lines_kept : (old new : List (List Reason)) (scans : List ℕ) (g : GroupId) (h : Head) → Keeps old new → h.older.0 < length old → head_lines new scans g h ≡ head_lines old scans g h
lines_kept old new scans g h kept known = ap (λ rs. lines_of scans (ongoing_reasons scans g h.ongoing ++ rs)) (kept.same h.older.0 known)

some_none : {A : Type 0} (a : A) → Some a ≡ None → ⊥
some_none a e = absurd (cc)

-- ---- Whose verdict it is

is_group : Option GroupId → ℕ → Bool
is_group None group = false
is_group (Some g) group = nat_eq g.0 group

-- the group of a live task
pub grouped : (table : Table) (t : ℕ) (g : GroupId) → Some g.0 ≡ option_map (λ (x : LegTask). x.group) (slot table t) → (group : ℕ) → on_live false (λ x. nat_eq x.group group) (leg_tasks table t) ≡ nat_eq g.0 group
grouped table t g e group = by (slot table t) (get_or table.used t false) e
  where
    by : (s : Option LegTask) (used : Bool) → Some g.0 ≡ option_map (λ (x : LegTask). x.group) s → on_live false (λ x. nat_eq x.group group) (fate_at s used) ≡ nat_eq g.0 group
    by None used e = absurd (cc)
    by (Some x) used e =
        let same : g.0 ≡ x.group = cc in
        ap (λ n. nat_eq n group) (sym same)

module _ (s : State) (verdict : Verdict) (why : Blame) (group : GroupId) (mine : (g : ℕ) → on_live false (λ x. nat_eq x.group g) (s.tasks verdict.task.0) ≡ nat_eq group.0 g) (blamed_is : verdict.blame ≡ Some why) where
  member_at : (g : ℕ) (b : Bool) → nat_eq group.0 g ≡ b → member_verdict s g verdict ≡ (if b then Some (verdict.task.0, why) else None)
  member_at g b e =
      ap (λ on. if on then option_map (λ (y : Blame). (verdict.task.0, y)) verdict.blame else None) (mine g ∙ e)
      ∙ ap (λ (o : Option Blame). if b then option_map (λ (y : Blame). (verdict.task.0, y)) o else None) blamed_is

-- ---- The groups that a scan hasn't refused so far

and_false : (b : Bool) → (b && false) ≡ false
and_false true = refl
and_false false = refl

and_true : (b : Bool) → (b && true) ≡ b
and_true true = refl
and_true false = refl

module _ (waiting refused more : Numbers) (group : ℕ) (more_is : more ≡ set refused group true) where
  pub not_left : length more ≡ 65536 → group < 65536 → is_left waiting more group ≡ false
  not_left wide few =
      let h : group < length refused = omega (arith, length-set refused group true, ap length more_is) in
      let there : has more group ≡ true = ap (λ (l : Numbers). has l group) more_is ∙ get_or-set_same refused group true false h in
      ap (λ b. has waiting group && not b) there ∙ and_false (has waiting group)

  pub others_left : (other : ℕ) → other ≢ group → is_left waiting more other ≡ is_left waiting refused other
  others_left other ne = ap (λ b. has waiting other && not b) (ap (λ (l : Numbers). has l other) more_is ∙ get_or-set_other refused group other true false ne)

-- at first these are all that wait
pub all_left : (waiting refused : Numbers) → IsEmpty refused → (group : ℕ) → is_left waiting refused group ≡ has waiting group
all_left waiting refused none group = ap (λ b. has waiting group && not b) (none group) ∙ and_true (has waiting group)

-- ---- One verdict

module _ (s : State) (at : ℕ) (verdict : Verdict) (why : Blame) (group : GroupId) (frame_stands : Bool) (groups left : ℕ → Bool) (old new : LegReasons)
    (mine : (g : ℕ) → on_live false (λ x. nat_eq x.group g) (s.tasks verdict.task.0) ≡ nat_eq group.0 g)
    (blamed_is : verdict.blame ≡ Some why)
    (waits : groups group.0 ≡ true)
    (has_frame : HasFrameAs (has_frame_in s) (head_of old group.0).ongoing frame_stands)
    (after : IsRefusedBy (record { at = at; task = verdict.task; blame = why; frame_stands = frame_stands }) group old.scans (head_of old group.0) (head_of new group.0) old.lists new.lists)
    (rest : (other : ℕ) → other ≢ group.0 → head_of new other ≡ head_of old other)
    (scans : new.scans ≡ old.scans) (room : old.room ≤ new.room + 1) (scan_room : new.scan_room ≡ old.scan_room)
    (out : left group.0 ≡ false) (same_left : (other : ℕ) → other ≢ group.0 → left other ≡ groups other) where
  once : IsRefusedOnce s at group.0 (verdict.task.0, why) old new
  once = record { lines = after.lines (has_frame_in s) has_frame; stands = after.stands }

  judges-yes : (g : ℕ) (blamed : ℕ × Blame) → groups g ≡ true → member_verdict s g verdict ≡ Some blamed → (b : Bool) → nat_eq group.0 g ≡ b
      → (left g ≡ false) × IsRefusedOnce s at g blamed old new
  judges-yes g blamed there is false e = absurd (some_none blamed (sym is ∙ member_at s verdict why group mine blamed_is g false e))
  judges-yes g blamed there is true e =
      let same : group.0 ≡ g = eqb-true group.0 g e in
      let told : Some (verdict.task.0, why) ≡ Some blamed = sym (member_at s verdict why group mine blamed_is g true e) ∙ is in
      let pair : (verdict.task.0, why) ≡ blamed = cc in
      subst (λ k. (left k ≡ false) × IsRefusedOnce s at k blamed old new) same
      (subst (λ (bl : ℕ × Blame). (left group.0 ≡ false) × IsRefusedOnce s at group.0 bl old new) pair
      (out, once))

  judges-no : (g : ℕ) → (if groups g then member_verdict s g verdict else None) ≡ None → (b : Bool) → nat_eq group.0 g ≡ b
      → (left g ≡ groups g) × (head_of new g ≡ head_of old g)
  judges-no g none true e =
      let same : group.0 ≡ g = eqb-true group.0 g e in
      let there : groups g ≡ true = ap groups (sym same) ∙ waits in
      absurd (some_none {A = ℕ × Blame} (verdict.task.0, why)
      (sym (member_at s verdict why group mine blamed_is g true e)
      ∙ (sym (cond-true (groups g) (member_verdict s g verdict) None there) ∙ none)))
  judges-no g none false e =
      let ne : group.0 ≢ g = eqb-false group.0 g e in
      let other : g ≢ group.0 = λ same. ne (sym same) in (
        same_left g other,
        rest g other,
      )

  pub judges : IsJudged s at verdict groups left old new
  judges = record {
    judged = λ g blamed there is. judges-yes g blamed there is (nat_eq group.0 g) refl;
    others = λ g none. judges-no g none (nat_eq group.0 g) refl;
    kept = after.kept;
    scans = scans;
    room = room;
    scan_room = scan_room;
  }

-- one that refuses no group that is left
module _ (s : State) (at : ℕ) (verdict : Verdict) (left : ℕ → Bool) (reasons : LegReasons) where
  pub none_judged_by : ((g : ℕ) (blamed : ℕ × Blame) → left g ≡ true → member_verdict s g verdict ≡ Some blamed → ⊥) → IsJudged s at verdict left left reasons reasons
  none_judged_by none = record {
    judged = λ g blamed there is. absurd (none g blamed there is);
    others = λ g same. (refl, refl);
    kept = record { no_less = omega arith; same = λ i h. refl };
    scans = refl;
    room = omega arith;
    scan_room = refl;
  }

  -- it blames nobody
  pub blameless_judged : verdict.blame ≡ None → IsJudged s at verdict left left reasons reasons
  blameless_judged blameless = none_judged_by (λ g blamed there is. refuses (on_live false (λ x. nat_eq x.group g) (s.tasks verdict.task.0)) blamed (sym (ap (λ (o : Option Blame). if on_live false (λ x. nat_eq x.group g) (s.tasks verdict.task.0) then option_map (λ (y : Blame). (verdict.task.0, y)) o else None) blameless) ∙ is))
    where
      refuses : (b : Bool) (blamed : ℕ × Blame) → (if b then option_map (λ (y : Blame). (verdict.task.0, y)) None else None) ≡ Some blamed → ⊥
      refuses true blamed e = absurd (some_none blamed (sym e))
      refuses false blamed e = absurd (some_none blamed (sym e))

  -- its task is of a group that isn't left
  pub other_judged : (why : Blame) (group : GroupId) → ((g : ℕ) → on_live false (λ x. nat_eq x.group g) (s.tasks verdict.task.0) ≡ nat_eq group.0 g) → verdict.blame ≡ Some why → left group.0 ≡ false
      → IsJudged s at verdict left left reasons reasons
  other_judged why group mine blamed_is out = none_judged_by (λ g blamed there is. refuses g blamed there is (nat_eq group.0 g) refl)
    where
      refuses : (g : ℕ) (blamed : ℕ × Blame) → left g ≡ true → member_verdict s g verdict ≡ Some blamed → (b : Bool) → nat_eq group.0 g ≡ b → ⊥
      refuses g blamed there is true e = false≢true (sym out ∙ (ap left (eqb-true group.0 g e) ∙ there))
      refuses g blamed there is false e = some_none blamed (sym is ∙ member_at s verdict why group mine blamed_is g false e)

-- ---- All verdicts

first_of-push : {A : Type 0} (tests : List (Option A)) (test : Option A) (first : Option A) → first_of tests ≡ first → first_of (tests ++ test ∷ []) ≡ first_of (first ∷ test ∷ [])
first_of-push [] test first e = ap (λ o. first_of (o ∷ test ∷ [])) e
first_of-push (None ∷ tests) test first e = first_of-push tests test first e
first_of-push (Some a ∷ tests) test first e = ap (λ o. first_of (o ∷ test ∷ [])) e

first_some : (s : State) (g : ℕ) (vs : List Verdict) (v : Verdict) (b : ℕ × Blame) → first_refused s g vs ≡ Some b → first_refused s g (vs ++ v ∷ []) ≡ Some b
first_some s g vs v b e = ap first_of (map-append (member_verdict s g) vs (v ∷ [])) ∙ first_of-push (map (member_verdict s g) vs) (member_verdict s g v) (Some b) e

one_of : {A : Type 0} (o : Option A) → first_of (None ∷ o ∷ []) ≡ o
one_of None = refl
one_of (Some a) = refl

first_none : (s : State) (g : ℕ) (vs : List Verdict) (v : Verdict) → first_refused s g vs ≡ None → first_refused s g (vs ++ v ∷ []) ≡ member_verdict s g v
first_none s g vs v e =
    ap first_of (map-append (member_verdict s g) vs (v ∷ []))
    ∙ (first_of-push (map (member_verdict s g) vs) (member_verdict s g v) None e ∙ one_of (member_verdict s g v))

pub none_judged : (s : State) (at : ℕ) (groups : ℕ → Bool) (old : LegReasons) → AreJudged s at [] groups groups old old
none_judged s at groups old = record {
  judged = λ g blamed there is. absurd (some_none blamed (sym is));
  others = λ g e. (refl, refl);
  kept = record { no_less = omega arith; same = λ i h. refl };
  scans = refl;
  room = omega arith;
  scan_room = refl;
}

module _ (s : State) (at : ℕ) (vs : List Verdict) (v : Verdict) (groups mid left : ℕ → Bool) (old some new : LegReasons)
    (stand : (g : ℕ) → groups g ≡ true → StandsAt (length old.scans) old g)
    (so_far : AreJudged s at vs groups mid old some) (next : IsJudged s at v mid left some new) where
  kept : Keeps old.lists new.lists
  kept = keeps_trans old.lists some.lists new.lists so_far.kept next.kept

  -- a group that this verdict leaves as it is
  abbrev Passed : ℕ → Type 0
  Passed g = (left g ≡ mid g) × (head_of new g ≡ head_of some g)

  -- it was refused before
  before : (g : ℕ) (blamed : ℕ × Blame) → (mid g ≡ false) × IsRefusedOnce s at g blamed old some
      → (left g ≡ false) × IsRefusedOnce s at g blamed old new
  before g blamed b =
      let passed : Passed g = next.others g (cond-false (mid g) (member_verdict s g v) None b.0) in (
        passed.0 ∙ b.0,
        record {
          lines =
              ap (λ (h : Head). head_lines new.lists (old.scans ++ at ∷ []) (group_id g) h) passed.1
              ∙ (lines_kept some.lists new.lists (old.scans ++ at ∷ []) (group_id g) (head_of some g) next.kept b.1.stands.known ∙ b.1.lines);
          stands = subst (λ (h : Head). IsHead new.lists (length old.scans + 1) h) (sym passed.1) (head_kept some.lists new.lists (length old.scans + 1) (head_of some g) next.kept b.1.stands);
        },
      )

  -- it is refused by this verdict
  at_last : (g : ℕ) (blamed : ℕ × Blame) → groups g ≡ true → first_refused s g vs ≡ None → member_verdict s g v ≡ Some blamed
      → (left g ≡ false) × IsRefusedOnce s at g blamed old new
  at_last g blamed there none is =
      let quiet = so_far.others g (cond-true (groups g) (first_refused s g vs) None there ∙ none) in
      let last = next.judged g blamed (quiet.0 ∙ there) is in
      let same : lines_in some g ≡ lines_in old g =
      ap₂ (λ scans (h : Head). head_lines some.lists scans (group_id g) h) so_far.scans quiet.1
      ∙ lines_kept old.lists some.lists old.scans (group_id g) (head_of old g) so_far.kept (stand g there).known in (
        last.0,
        record {
          lines =
              ap (λ scans. head_lines new.lists (scans ++ at ∷ []) (group_id g) (head_of new g)) (sym so_far.scans)
              ∙ (last.1.lines ∙ ap (after_refusal (has_frame_in s) g at blamed) same);
          stands = subst (λ scans. IsHead new.lists (length scans + 1) (head_of new g)) so_far.scans last.1.stands;
        },
      )

  judged-more : (g : ℕ) (blamed : ℕ × Blame) → groups g ≡ true → first_refused s g (vs ++ v ∷ []) ≡ Some blamed → (first : Option (ℕ × Blame)) → first_refused s g vs ≡ first
      → (left g ≡ false) × IsRefusedOnce s at g blamed old new
  judged-more g blamed there is None e = at_last g blamed there e (sym (first_none s g vs v e) ∙ is)
  judged-more g blamed there is (Some b) e =
      let told : Some b ≡ Some blamed = sym (first_some s g vs v b e) ∙ is in
      let same : b ≡ blamed = cc in
      before g blamed (so_far.judged g blamed there (e ∙ ap {A = ℕ × Blame} {B = Option (ℕ × Blame)} Some same))

  others-more : (g : ℕ) (b : Bool) → groups g ≡ b → (if b then first_refused s g (vs ++ v ∷ []) else None) ≡ None → (first : Option (ℕ × Blame)) → first_refused s g vs ≡ first
      → (left g ≡ groups g) × (head_of new g ≡ head_of old g)
  others-more g true there none (Some b) e = absurd (some_none b (sym (first_some s g vs v b e) ∙ none))
  others-more g true there none None e =
      let quiet = so_far.others g (cond-true (groups g) (first_refused s g vs) None there ∙ e) in
      let passed : Passed g = next.others g (cond-true (mid g) (member_verdict s g v) None (quiet.0 ∙ there) ∙ (sym (first_none s g vs v e) ∙ none)) in
      (passed.0 ∙ quiet.0, passed.1 ∙ quiet.1)
  others-more g false there none first e =
      let quiet = so_far.others g (cond-false (groups g) (first_refused s g vs) None there) in
      let passed : Passed g = next.others g (cond-false (mid g) (member_verdict s g v) None (quiet.0 ∙ there)) in
      (passed.0 ∙ quiet.0, passed.1 ∙ quiet.1)

  pub one_judged : AreJudged s at (vs ++ v ∷ []) groups left old new
  one_judged = record {
    judged = λ g blamed there is. judged-more g blamed there is (first_refused s g vs) refl;
    others = λ g none. others-more g (groups g) refl none (first_refused s g vs) refl;
    kept = kept;
    scans = next.scans ∙ so_far.scans;
    room = omega (arith, so_far.room, next.room, length-append vs (v ∷ []));
    scan_room = next.scan_room ∙ so_far.scan_room;
  }

  -- the groups that were not refused stand as they stood
  pub still_standing : (g : ℕ) → left g ≡ true → StandsAt (length new.scans) new g
  still_standing g there = by (groups g) refl (first_refused s g (vs ++ v ∷ [])) refl
    where
      stays : (left g ≡ groups g) × (head_of new g ≡ head_of old g) → StandsAt (length new.scans) new g
      stays quiet =
          let known = stand g (sym quiet.0 ∙ there) in
          subst (λ scans. StandsAt (length scans) new g) (sym one_judged.scans)
          (subst (λ (h : Head). IsHead new.lists (length old.scans) h) (sym quiet.1) (head_kept old.lists new.lists (length old.scans) (head_of old g) kept known))

      by : (b : Bool) → groups g ≡ b → (first : Option (ℕ × Blame)) → first_refused s g (vs ++ v ∷ []) ≡ first → StandsAt (length new.scans) new g
      by false e first is = stays (one_judged.others g (cond-false (groups g) _ None e))
      by true e None is = stays (one_judged.others g (cond-true (groups g) _ None e ∙ is))
      by true e (Some b) is = absurd (false≢true (sym (one_judged.judged g b e is).0 ∙ there))

-- by any test that says the same of each group
pub judged_as : (s : State) (at : ℕ) (vs : List Verdict) (groups same left : ℕ → Bool) (old new : LegReasons) → ((g : ℕ) → same g ≡ groups g)
    → AreJudged s at vs same left old new → AreJudged s at vs groups left old new
judged_as s at vs groups same left old new is all = record {
  judged = λ g blamed there first. all.judged g blamed (is g ∙ there) first;
  others = λ g none. (let quiet = all.others g (ap (λ b. if b then first_refused s g vs else None) (is g) ∙ none) in (quiet.0 ∙ is g, quiet.1));
  kept = all.kept;
  scans = all.scans;
  room = all.room;
  scan_room = all.scan_room;
}

-- ---- After a scan

module _ (s : State) (at : ℕ) (vs : List Verdict) (groups : Numbers) (left : ℕ → Bool) (old some new : LegReasons)
    (stand : (g : ℕ) → has groups g ≡ true → StandsAt (length old.scans) old g)
    (all : AreJudged s at vs (has groups) left old some) (heads : new.heads ≡ some.heads) (lists : new.lists ≡ some.lists) (scans : new.scans ≡ some.scans ++ at ∷ []) where
  new_lines : (g : ℕ) → lines_in new g ≡ head_lines some.lists (old.scans ++ at ∷ []) (group_id g) (head_of some g)
  new_lines g =
      ap₂ (λ (hs : List Head) ls. head_lines ls new.scans (group_id g) (get_or hs g (record { ongoing = Nothing; older = record { 0 = 0 } }))) heads lists
      ∙ ap (λ xs. head_lines some.lists xs (group_id g) (head_of some g)) (scans ∙ ap (λ xs. xs ++ at ∷ []) all.scans)

  new_stands : (g : ℕ) → IsHead some.lists (length old.scans + 1) (head_of some g) → StandsAt (length new.scans) new g
  new_stands g is =
      let count : length new.scans ≡ length old.scans + 1 = ap length (scans ∙ ap (λ xs. xs ++ at ∷ []) all.scans) ∙ length-append old.scans (at ∷ []) in
      subst (λ n. StandsAt n new g) (sym count)
      (subst (λ (hs : List Head). IsHead new.lists (length old.scans + 1) (get_or hs g (record { ongoing = Nothing; older = record { 0 = 0 } }))) (sym heads)
      (subst (λ ls. IsHead ls (length old.scans + 1) (head_of some g)) (sym lists) is))

  noted-lines : (g : ℕ) → has groups g ≡ true → (first : Option (ℕ × Blame)) → first_refused s g vs ≡ first
      → lines_in new g ≡ after_verdict s at first old g
  noted-lines g e (Some b) is = new_lines g ∙ (all.judged g b e is).1.lines
  noted-lines g e None is =
      let quiet = (all.others g (cond-true (has groups g) _ None e ∙ is)).1 in
      new_lines g
      ∙ (ap (λ (h : Head). head_lines some.lists (old.scans ++ at ∷ []) (group_id g) h) quiet
      ∙ lines_kept old.lists some.lists (old.scans ++ at ∷ []) (group_id g) (head_of old g) all.kept (stand g e).known)

  scanned-lines : (g : ℕ) (b : Bool) → has groups g ≡ b
      → (if b then Some (lines_in new g) else None) ≡ (if b then Some (after_verdict s at (first_refused s g vs) old g) else None)
  scanned-lines g true e = ap {A = List Line} {B = Option (List Line)} Some (noted-lines g e (first_refused s g vs) refl)
  scanned-lines g false e = refl

  pub after_all : (g : ℕ) → lines_at (record { groups = groups; reasons = new }) g ≡ scanned_lines s at vs (record { groups = groups; reasons = old }) g
  after_all g = scanned-lines g (has groups g) refl

  pub all_stand : (g : ℕ) → has groups g ≡ true → StandsAt (length new.scans) new g
  all_stand g there = by (first_refused s g vs) refl
    where
      by : (first : Option (ℕ × Blame)) → first_refused s g vs ≡ first → StandsAt (length new.scans) new g
      by (Some b) is = new_stands g (all.judged g b there is).1.stands
      by None is =
          let quiet = (all.others g (cond-true (has groups g) _ None there ∙ is)).1 in
          let was = head_kept old.lists some.lists (length old.scans) (head_of old g) all.kept (stand g there) in
          new_stands g (subst (λ (h : Head). IsHead some.lists (length old.scans + 1) h) (sym quiet) (head_further some.lists (length old.scans) (head_of old g) was))
