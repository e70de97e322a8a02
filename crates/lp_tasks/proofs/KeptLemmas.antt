-- The table by its records and the deep stacks.
use Rattle.std.proofs.Common.{◌≡◌, ◌≢◌, ℕ, zero, suc, ◌<◌, ◌≤◌, true, false, not, ◌&&◌, ◌||◌, List, [], ◌∷◌, ◌++◌, length, get_or, set, Option, None, Some, if◌then◌else◌, nat_eq, refl, sym, ap, ap₂, subst, ◌∙◌, ⊎_elim, arith}
use Rattle.std.proofs.lemmas.Bool.{cases_eq, eq-eqb, ne_eqb, cond-true, cond-false}
use Rattle.std.proofs.lemmas.List.{length-set, get_or-set_same, get_or-set_other, set-get_or, ext_get_or, take_at, take-append-le, length-append}
use Rattle.std.specs.Option.{ForSome, option_map}
use Rattle.lp_stack.specs.declared.frame.Frame.{Frame}
use Rattle.lp_numbers.specs.Numbers.{Numbers, has}
use Rattle.lp_numbers.specs.Groups.{Groups, is_member}
use Rattle.lp_definitions.specs.Leg.{LegTask}
use Rattle.lp_tasks.specs.inside.Slots.{padded, IsTable}
use Rattle.lp_tasks.specs.inside.Deep.{deep_or, with_deep, with_stacks, own_frames, IsRecorded, IsLowest, IsKept, IsStored}
use Rattle.lp_tasks.proofs.SlotLemmas.{padded-made, padded-set, padded-past, IsTable-empty, IsTable-change, IsTable-put, IsTable-remove}

-- ---- A frame more on a deep stack

-- there is room for it
pub pushed-room : (x : LegTask) (deep : Option (List Frame)) → ForSome (with_deep (Some x) deep) (λ y. length y.frames < 100) → length (deep_or x.frames deep) < 100
pushed-room x None room = room x refl
pushed-room x (Some frames) room = room (record x { frames = frames }) refl

-- the record keeps the lowest frames still
pub pushed-recorded : (x : LegTask) (deep new : Option (List Frame)) (frame : Frame) → length x.frames ≡ 6 → IsRecorded (Some x) deep → new ≡ Some (deep_or x.frames deep ++ frame ∷ []) → IsRecorded (Some x) new
pushed-recorded x deep new frame full recorded is = subst (IsRecorded (Some x)) (sym is) (at deep recorded)
  where
    at : (d : Option (List Frame)) → IsRecorded (Some x) d → IsLowest x.frames (deep_or x.frames d ++ frame ∷ [])
    at None r = record {
      lowest = take_at x.frames (frame ∷ []) own_frames full;
      deep = omega (arith, length-append x.frames (frame ∷ []), full);
    }
    at (Some frames) r = record {
      lowest = take-append-le own_frames frames (frame ∷ []) (omega (arith, r.deep)) ∙ r.lowest;
      deep = omega (arith, length-append frames (frame ∷ []), r.deep);
    }

-- ---- The tasks by their records and the deep stacks

pub length-with_stacks : (records : List (Option LegTask)) (deep : ℕ → Option (List Frame)) → length (with_stacks records deep) ≡ length records
length-with_stacks [] deep = refl
length-with_stacks (o ∷ records) deep = ap suc (length-with_stacks records (λ t. deep (suc t)))

-- the task of a number
pub task-with_stacks : (records : List (Option LegTask)) (deep : ℕ → Option (List Frame)) (t : ℕ) → get_or (with_stacks records deep) t None ≡ with_deep (get_or records t None) (deep t)
task-with_stacks [] deep t = refl
task-with_stacks (o ∷ records) deep zero = refl
task-with_stacks (o ∷ records) deep (suc t) = task-with_stacks records (λ u. deep (suc u)) t

-- one task's record and deep stack are changed
pub with_stacks-set : (records : List (Option LegTask)) (deep new : ℕ → Option (List Frame)) (t : ℕ) (o : Option LegTask) → t < length records → ((u : ℕ) → u ≢ t → new u ≡ deep u) → with_stacks (set records t o) new ≡ set (with_stacks records deep) t (with_deep o (new t))
with_stacks-set records deep new t o within others =
    ext_get_or None (with_stacks (set records t o) new) (set (with_stacks records deep) t (with_deep o (new t))) (length-with_stacks (set records t o) new ∙ length-set records t o ∙ sym (length-set (with_stacks records deep) t (with_deep o (new t)) ∙ length-with_stacks records deep)) (λ u small. at u)
  where
    at : (u : ℕ) → get_or (with_stacks (set records t o) new) u None ≡ get_or (set (with_stacks records deep) t (with_deep o (new t))) u None
    at u =
        ⊎_elim
        (λ (e : u ≡ t).
        let same : get_or (with_stacks (set records t o) new) t None ≡ get_or (set (with_stacks records deep) t (with_deep o (new t))) t None = task-with_stacks (set records t o) new t ∙ ap (λ x. with_deep x (new t)) (get_or-set_same records t o None within) ∙ sym (get_or-set_same (with_stacks records deep) t (with_deep o (new t)) None (omega (arith, within, length-with_stacks records deep))) in
        subst (λ v. get_or (with_stacks (set records t o) new) v None ≡ get_or (set (with_stacks records deep) t (with_deep o (new t))) v None) (sym e) same)
        (λ (ne : u ≡ t → ⊥).
        task-with_stacks (set records t o) new u ∙ ap₂ with_deep (get_or-set_other records t u o None ne) (others u ne) ∙ sym (get_or-set_other (with_stacks records deep) t u (with_deep o (new t)) None ne ∙ task-with_stacks records deep u))
        (cases_eq u t)

-- what each record keeps once one is changed
recorded-set : (records : List (Option LegTask)) (deep new : ℕ → Option (List Frame)) (t : ℕ) (o : Option LegTask) → t < length records → ((u : ℕ) → u ≢ t → new u ≡ deep u) → IsRecorded o (new t) → ((u : ℕ) → IsRecorded (get_or records u None) (deep u)) → (u : ℕ) → IsRecorded (get_or (set records t o) u None) (new u)
recorded-set records deep new t o within others mine recorded u =
    ⊎_elim
    (λ (e : u ≡ t). subst (λ v. IsRecorded (get_or (set records t o) v None) (new v)) (sym e) (subst (λ x. IsRecorded x (new t)) (sym (get_or-set_same records t o None within)) mine))
    (λ (ne : u ≡ t → ⊥). subst (λ x. IsRecorded x (new u)) (sym (get_or-set_other records t u o None ne)) (subst (IsRecorded (get_or records u None)) (sym (others u ne)) (recorded u)))
    (cases_eq u t)

-- ---- One task's deep stack is changed

pub stack-here : (new old : ℕ → Option (List Frame)) (t : ℕ) (o : Option (List Frame)) → ((u : ℕ) → new u ≡ (if nat_eq u t then o else old u)) → new t ≡ o
stack-here new old t o is = is t ∙ cond-true (nat_eq t t) o (old t) (eq-eqb t t refl)

pub stack-other : (new old : ℕ → Option (List Frame)) (t : ℕ) (o : Option (List Frame)) → ((u : ℕ) → new u ≡ (if nat_eq u t then o else old u)) → (u : ℕ) → u ≢ t → new u ≡ old u
stack-other new old t o is u ne = is u ∙ cond-false (nat_eq u t) o (old u) (ne_eqb u t ne)

-- ---- No task is there yet

pub kept-empty : (records : List (Option LegTask)) (deep : ℕ → Option (List Frame)) (live used : Numbers) (members : Groups) → length records ≡ 65536 → length used ≡ 65536 → ((t : ℕ) → get_or records t None ≡ None) → ((t : ℕ) → deep t ≡ None) → ((t : ℕ) → has live t ≡ false) → ((group t : ℕ) → is_member members group t ≡ false) → IsKept records deep live used members
kept-empty records deep live used members wide used_wide empty none dead memberless = record {
  records_wide = wide;
  table = IsTable-empty (with_stacks records deep) live used members (length-with_stacks records deep ∙ wide) used_wide (λ t. task-with_stacks records deep t ∙ ap₂ with_deep (empty t) (none t)) dead memberless;
  recorded = λ t. subst (IsRecorded (get_or records t None)) (sym (none t)) tt;
}

-- ---- What holds of a table still holds after a change

module _ (records : List (Option LegTask)) (deep : ℕ → Option (List Frame)) (live used : Numbers) (members : Groups) (kept : IsKept records deep live used members) where
  module _ (t : ℕ) (small : t < 65536) (new : ℕ → Option (List Frame)) (others : (u : ℕ) → u ≢ t → new u ≡ deep u) (o : Option LegTask) where
    within : t < length records
    within = omega (arith, small, kept.records_wide)

    module _ (f : LegTask → LegTask) (is : with_deep o (new t) ≡ option_map f (with_deep (get_or records t None) (deep t))) where
      -- a live task is changed
      pub tasks-changed : with_stacks (set records t o) new ≡ set (with_stacks records deep) t (option_map f (get_or (with_stacks records deep) t None))
      tasks-changed = with_stacks-set records deep new t o within others ∙ ap (set (with_stacks records deep) t) (is ∙ ap (option_map f) (sym (task-with_stacks records deep t)))

      pub kept-changed : ((x : LegTask) → (f x).group ≡ x.group) → IsRecorded o (new t) → IsKept (set records t o) new live used members
      kept-changed stays mine = record {
        records_wide = length-set records t o ∙ kept.records_wide;
        table = subst (λ slots. IsTable slots live used members) (sym tasks-changed) (IsTable-change (with_stacks records deep) live used members t f stays small kept.table);
        recorded = recorded-set records deep new t o within others mine kept.recorded;
      }

  -- a live task that has no deep stack is put in an empty slot
  module _ (t : ℕ) (small : t < 65536) (x : LegTask) (empty : get_or (with_stacks records deep) t None ≡ None) where
    no_deep : deep t ≡ None
    no_deep = at (get_or records t None) (deep t) (kept.recorded t) (sym (task-with_stacks records deep t) ∙ empty)
      where
        at : (o : Option LegTask) (d : Option (List Frame)) → IsRecorded o d → with_deep o d ≡ None → d ≡ None
        at o None r e = refl
        at None (Some frames) r e = absurd r
        at (Some y) (Some frames) r e = absurd (cc)

    pub tasks-put : with_stacks (set records t (Some x)) deep ≡ set (with_stacks records deep) t (Some x)
    tasks-put = with_stacks-set records deep deep t (Some x) (omega (arith, small, kept.records_wide)) (λ u ne. refl) ∙ ap (λ d. set (with_stacks records deep) t (with_deep (Some x) d)) no_deep

    pub kept-put : (members_new : Groups) → length (set live t true) ≡ 65536 → ((group n : ℕ) → is_member members_new group n ≡ (is_member members group n || (nat_eq group x.group && nat_eq n t))) → IsKept (set records t (Some x)) deep (set live t true) (set used t true) members_new
    kept-put members_new wide put = record {
      records_wide = length-set records t (Some x) ∙ kept.records_wide;
      table = subst (λ slots. IsTable slots (set live t true) (set used t true) members_new) (sym tasks-put) (IsTable-put (with_stacks records deep) live used members members_new t x small wide empty put kept.table);
      recorded = recorded-set records deep deep t (Some x) (omega (arith, small, kept.records_wide)) (λ u ne. refl) (subst (IsRecorded (Some x)) (sym no_deep) tt) kept.recorded;
    }

  -- a slot's task is live no longer
  module _ (t : ℕ) (small : t < 65536) (new : ℕ → Option (List Frame)) (others : (u : ℕ) → u ≢ t → new u ≡ deep u) (gone : new t ≡ None) where
    pub tasks-removed : with_stacks (set records t None) new ≡ set (with_stacks records deep) t None
    tasks-removed = with_stacks-set records deep new t None (omega (arith, small, kept.records_wide)) others

    pub kept-removed : (members_new : Groups) → length (set live t false) ≡ 65536 → ((group n : ℕ) → is_member members_new group n ≡ (is_member members group n && not (nat_eq n t))) → IsKept (set records t None) new (set live t false) used members_new
    kept-removed members_new wide removed = record {
      records_wide = length-set records t None ∙ kept.records_wide;
      table = subst (λ slots. IsTable slots (set live t false) used members_new) (sym tasks-removed) (IsTable-remove (with_stacks records deep) live used members members_new t small wide removed kept.table);
      recorded = recorded-set records deep new t None (omega (arith, small, kept.records_wide)) others (subst (IsRecorded None) (sym gone) tt) kept.recorded;
    }

-- ---- The same by the slots that are made

module _ (slots : List (Option LegTask)) (capacity : ℕ) (deep : ℕ → Option (List Frame)) (live used : Numbers) (members : Groups) (stored : IsStored slots capacity deep live used members) (t : ℕ) (made : t < length slots) (old : Option LegTask) (is_old : old ≡ get_or slots t old) where
  small : t < 65536
  small = omega (arith, made, stored.few)

  there : get_or (padded slots) t None ≡ old
  there = padded-made slots t old made is_old

  -- what the record in the slot keeps
  pub slot-recorded : IsRecorded old (deep t)
  slot-recorded = subst (λ o. IsRecorded o (deep t)) there (stored.kept.recorded t)

  -- the task by the record in the slot
  pub slot-task : get_or (with_stacks (padded slots) deep) t None ≡ with_deep old (deep t)
  slot-task = task-with_stacks (padded slots) deep t ∙ ap (λ o. with_deep o (deep t)) there

  -- a live task is changed, and its deep stack
  module _ (new_deep : ℕ → Option (List Frame)) (others : (u : ℕ) → u ≢ t → new_deep u ≡ deep u) (new : Option LegTask) (f : LegTask → LegTask) (is : with_deep new (new_deep t) ≡ option_map f (with_deep old (deep t))) where
    as_recorded : with_deep new (new_deep t) ≡ option_map f (with_deep (get_or (padded slots) t None) (deep t))
    as_recorded = is ∙ ap (λ o. option_map f (with_deep o (deep t))) (sym there)

    moved : (padded (set slots t new)) ≡ set (padded slots) t new
    moved = padded-set slots t new made

    pub slots-moved : with_stacks ((padded (set slots t new))) new_deep ≡ set (with_stacks (padded slots) deep) t (option_map f (get_or (with_stacks (padded slots) deep) t None))
    slots-moved = ap (λ records. with_stacks records new_deep) moved ∙ tasks-changed (padded slots) deep live used members stored.kept t small new_deep others new f as_recorded

    pub kept-moved : ((x : LegTask) → (f x).group ≡ x.group) → IsRecorded new (new_deep t) → IsStored (set slots t new) capacity new_deep live used members
    kept-moved stays mine = record {
      few = omega (arith, length-set slots t new, stored.few);
      room = stored.room;
      kept = subst (λ records. IsKept records new_deep live used members) (sym moved) (kept-changed (padded slots) deep live used members stored.kept t small new_deep others new f as_recorded stays mine);
    }

  -- a live task is changed, but for its frames
  module _ (new : Option LegTask) (f : LegTask → LegTask) (frames_stay : (x : LegTask) → (f x).frames ≡ x.frames) (commutes : (x : LegTask) (frames : List Frame) → record (f x) { frames = frames } ≡ f (record x { frames = frames })) (is : new ≡ option_map f old) where
    as_moved : with_deep new (deep t) ≡ option_map f (with_deep old (deep t))
    as_moved = ap (λ o. with_deep o (deep t)) is ∙ at old (deep t)
      where
        at : (o : Option LegTask) (d : Option (List Frame)) → with_deep (option_map f o) d ≡ option_map f (with_deep o d)
        at None d = refl
        at (Some x) None = refl
        at (Some x) (Some frames) = ap Some (commutes x frames)

    still_recorded : IsRecorded new (deep t)
    still_recorded = subst (λ o. IsRecorded o (deep t)) (sym is) (at old (deep t) slot-recorded)
      where
        at : (o : Option LegTask) (d : Option (List Frame)) → IsRecorded o d → IsRecorded (option_map f o) d
        at o None r = tt
        at None (Some frames) r = r
        at (Some x) (Some frames) r = subst (λ own. IsLowest own frames) (sym (frames_stay x)) r

    pub slots-plain : with_stacks ((padded (set slots t new))) deep ≡ set (with_stacks (padded slots) deep) t (option_map f (get_or (with_stacks (padded slots) deep) t None))
    slots-plain = slots-moved deep (λ u ne. refl) new f as_moved

    pub kept-plain : ((x : LegTask) → (f x).group ≡ x.group) → IsStored (set slots t new) capacity deep live used members
    kept-plain stays = kept-moved deep (λ u ne. refl) new f as_moved stays still_recorded

-- a number whose slot isn't made has no task, so a change of its task changes nothing
module _ (slots : List (Option LegTask)) (deep : ℕ → Option (List Frame)) (t : ℕ) (past : length slots ≤ t) where
  pub no_task-past : get_or (with_stacks (padded slots) deep) t None ≡ None
  no_task-past = task-with_stacks (padded slots) deep t ∙ ap (λ o. with_deep o (deep t)) (padded-past slots t past)

  pub unchanged-past : (f : LegTask → LegTask) → with_stacks (padded slots) deep ≡ set (with_stacks (padded slots) deep) t (option_map f (get_or (with_stacks (padded slots) deep) t None))
  unchanged-past f =
      let tasks = with_stacks (padded slots) deep in
      sym (ap (set tasks t) (ap (option_map f) no_task-past ∙ sym no_task-past) ∙ set-get_or tasks t None)
