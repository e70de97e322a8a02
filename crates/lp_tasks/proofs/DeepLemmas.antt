-- What the calls do to the arrays of deep stacks.
use Rattle.std.proofs.Common.{◌≡◌, ◌≢◌, ℕ, zero, suc, ◌+◌, ◌<◌, ◌≤◌, Bool, true, false, not, ◌&&◌, List, [], ◌∷◌, ◌++◌, length, get_or, set, Option, None, Some, is_some, count_by, if◌then◌else◌, nat_eq, nat_le, refl, sym, ap, ap₂, subst, ◌∙◌, ◌⊎◌, inl, inr, ⊎_elim, add-zero, arith}
use Rattle.std.proofs.lemmas.Bool.{cases_eq, eq-eqb, ne_eqb, cond-true, cond-false, le-leb, lt-leb, and_right, and_parts}
use Rattle.std.proofs.lemmas.List.{length-set, get_or-set_same, get_or-set_other, get_or_read}
use Rattle.std.proofs.lemmas.List.Sums.{sum_by-append, sum_by-cons, sum_by-set, count_by-le-length}
use Rattle.std.specs.Option.{option_map}
use Rattle.lp_stack.specs.declared.frame.Frame.{Frame}
use Rattle.lp_numbers.specs.Numbers.{Numbers, has, IsEmpty}
use Rattle.lp_tasks.specs.inside.Deep.{deep_at, place_at, frames_at, deep_of, count_free, own_frames, if_deep, IsStore}

-- ---- One more place, or one more array

-- a place without an array
no_place_more : (places : List (Option ℕ)) (t : ℕ) → place_at (places ++ None ∷ []) t ≡ place_at places t
no_place_more [] zero = refl
no_place_more [] (suc t) = refl
no_place_more (p ∷ places) zero = refl
no_place_more (p ∷ places) (suc t) = no_place_more places t

pub same_places_more : (places old : List (Option ℕ)) → ((t : ℕ) → place_at places t ≡ place_at old t) → (t : ℕ) → place_at (places ++ None ∷ []) t ≡ place_at old t
same_places_more places old same t = no_place_more places t ∙ same t

pub count-more : (places : List (Option ℕ)) → count_by is_some (places ++ None ∷ []) ≡ count_by is_some places
count-more places = sum_by-append (λ p. if is_some p then 1 else 0) places (None ∷ []) ∙ add-zero (count_by is_some places)

-- ---- What a task's stack is

pub deep_at-of : (places : List (Option ℕ)) (stacks : List (List Frame)) (t : ℕ) → deep_at (deep_of places stacks) t ≡ option_map (frames_at stacks) (place_at places t)
deep_at-of [] stacks t = refl
deep_at-of (p ∷ places) stacks zero = refl
deep_at-of (p ∷ places) stacks (suc t) = deep_at-of places stacks t

-- a task that has an array has a place
placed : (places : List (Option ℕ)) (t place : ℕ) → place_at places t ≡ Some place → t < length places
placed [] t place e = absurd (cc)
placed (p ∷ places) zero place e = omega arith
placed (p ∷ places) (suc t) place e = omega (arith, placed places t place e)

-- no array is free
count-empty : (free : Numbers) → IsEmpty free → count_free free ≡ 0
count-empty [] none = refl
count-empty (b ∷ free) none =
    sum_by-cons (λ (c : Bool). if c then 1 else 0) b free ∙ ap₂ (λ (c : Bool) (n : ℕ). (if c then 1 else 0) + n) (none 0) (count-empty free (λ n. none (suc n)))

-- no task has a deep stack yet
pub store-empty : (free : Numbers) (most_places most_stacks : ℕ) → 65536 ≤ most_places → 65536 ≤ most_stacks → IsEmpty free → length free ≡ 65536 → IsStore [] [] free most_places most_stacks
store-empty free most_places most_stacks places_room stacks_room none wide = record {
  few = omega arith;
  places_room = places_room;
  stacks_room = stacks_room;
  stacks_few = omega arith;
  free_wide = wide;
  counted = omega (arith, count-empty free none);
  within = λ t p e. absurd (cc);
  taken = λ t p e. absurd (cc);
  one_owner = λ t u p e f. absurd (cc);
  freed = λ p e. let no = none p in absurd (cc);
}

-- the stack of a task that has an array
pub deep-here : (places : List (Option ℕ)) (stacks : List (List Frame)) (t place : ℕ) (frames : List Frame) → place_at places t ≡ Some place → place < length stacks → frames ≡ get_or stacks place frames → deep_at (deep_of places stacks) t ≡ Some frames
deep-here places stacks t place frames owned within is =
    deep_at-of places stacks t ∙ ap (option_map (frames_at stacks)) owned ∙ ap Some (sym (get_or_read stacks place frames within is []))

-- a task without a deep stack has no array
pub unplaced : (places : List (Option ℕ)) (stacks : List (List Frame)) (t : ℕ) → deep_at (deep_of places stacks) t ≡ None → place_at places t ≡ None
unplaced places stacks t none = at (place_at places t) (sym (deep_at-of places stacks t) ∙ none)
  where
    at : (o : Option ℕ) → option_map (frames_at stacks) o ≡ None → o ≡ None
    at None e = refl
    at (Some p) e = absurd (cc)

-- how much room there is may change, if it is still enough
pub more-room : (places : List (Option ℕ)) (stacks : List (List Frame)) (free : Numbers) (most_places most_stacks places_now stacks_now : ℕ) → IsStore places stacks free most_places most_stacks → 65536 ≤ places_now → 65536 ≤ stacks_now → IsStore places stacks free places_now stacks_now
more-room places stacks free most_places most_stacks places_now stacks_now store places_room stacks_room = record {
  few = store.few;
  places_room = places_room;
  stacks_room = stacks_room;
  stacks_few = store.stacks_few;
  free_wide = store.free_wide;
  counted = store.counted;
  within = store.within;
  taken = store.taken;
  one_owner = store.one_owner;
  freed = store.freed;
}

-- ---- A write in the array of a task

module _ (places : List (Option ℕ)) (stacks : List (List Frame)) (free : Numbers) (most_places most_stacks : ℕ) (store : IsStore places stacks free most_places most_stacks) where
  pub store-write : (place : ℕ) (frames : List Frame) → IsStore places (set stacks place frames) free most_places most_stacks
  store-write place frames =
      let same = length-set stacks place frames in
      record {
        few = store.few;
        places_room = store.places_room;
        stacks_room = store.stacks_room;
        stacks_few = omega (arith, same, store.stacks_few);
        free_wide = store.free_wide;
        counted = same ∙ store.counted;
        within = λ t p e. omega (arith, same, store.within t p e);
        taken = store.taken;
        one_owner = store.one_owner;
        freed = λ p e. omega (arith, same, store.freed p e);
      }

  pub deep-write : (t place : ℕ) (frames : List Frame) → place_at places t ≡ Some place → (u : ℕ) → deep_at (deep_of places (set stacks place frames)) u ≡ (if nat_eq u t then Some frames else deep_at (deep_of places stacks) u)
  deep-write t place frames owned u =
      ⊎_elim
      (λ (e : u ≡ t).
      deep_at-of places (set stacks place frames) u
      ∙ ap (option_map (frames_at (set stacks place frames))) (ap (place_at places) e ∙ owned)
      ∙ ap Some (get_or-set_same stacks place frames [] (store.within t place owned))
      ∙ sym (cond-true (nat_eq u t) (Some frames) (deep_at (deep_of places stacks) u) (eq-eqb u t e)))
      (λ (ne : u ≡ t → ⊥).
      deep_at-of places (set stacks place frames) u
      ∙ other (place_at places u) refl ne
      ∙ sym (deep_at-of places stacks u)
      ∙ sym (cond-false (nat_eq u t) (Some frames) (deep_at (deep_of places stacks) u) (ne_eqb u t ne)))
      (cases_eq u t)
    where
      other : (o : Option ℕ) → place_at places u ≡ o → (u ≡ t → ⊥) → option_map (frames_at (set stacks place frames)) o ≡ option_map (frames_at stacks) o
      other None e ne = refl
      other (Some p) e ne = ap Some (get_or-set_other stacks place p frames [] (λ same. ne (store.one_owner u t place (e ∙ ap Some same) owned)))

  -- ---- An array is given back

  -- who has an array once a task has none
  still : (t : ℕ) → t < length places → (u p : ℕ) → place_at (set places t None) u ≡ Some p → (u ≢ t) × (place_at places u ≡ Some p)
  still t within u p e =
      ⊎_elim
      (λ (same : u ≡ t).
      let none : place_at (set places t None) u ≡ None = ap (place_at (set places t None)) same ∙ get_or-set_same places t None None within in
      absurd (cc))
      (λ (ne : u ≡ t → ⊥). (ne, sym (get_or-set_other places t u None None ne) ∙ e))
      (cases_eq u t)

  pub store-close : (t place : ℕ) → place_at places t ≡ Some place → length (set free place true) ≡ 65536 → IsStore (set places t None) stacks (set free place true) most_places most_stacks
  store-close t place owned wide =
      let there : t < length places = placed places t place owned in
      let within_free : place < length free = omega (arith, store.within t place owned, store.stacks_few, store.free_wide) in
      let fewer : count_by is_some (set places t None) + 1 ≡ count_by is_some places = one_less there in
      let more : count_free (set free place true) ≡ count_free free + 1 = one_more within_free in
      record {
        few = omega (arith, length-set places t None, store.few);
        places_room = store.places_room;
        stacks_room = store.stacks_room;
        stacks_few = store.stacks_few;
        free_wide = wide;
        counted = omega (arith, store.counted, fewer, more);
        within = λ u p e. store.within u p (still t there u p e).1;
        taken = λ u p e. let old = still t there u p e in get_or-set_other free place p true false (λ same. old.0 (store.one_owner u t place (old.1 ∙ ap Some same) owned)) ∙ store.taken u p old.1;
        one_owner = λ u v p e f. store.one_owner u v p (still t there u p e).1 (still t there v p f).1;
        freed = λ p e. ⊎_elim
            (λ (same : p ≡ place). subst (λ q. q < length stacks) (sym same) (store.within t place owned))
            (λ (ne : p ≡ place → ⊥). store.freed p (sym (get_or-set_other free place p true false ne) ∙ e))
            (cases_eq p place);
      }
    where
      one_less : t < length places → count_by is_some (set places t None) + 1 ≡ count_by is_some places
      one_less there =
          let put = sum_by-set (λ o. if is_some o then 1 else 0) places t None None there in
          omega (arith, rw owned at put)

      one_more : place < length free → count_free (set free place true) ≡ count_free free + 1
      one_more there =
          let put = sum_by-set (λ (b : Bool). if b then 1 else 0) free place true false there in
          omega (arith, rw (store.taken t place owned) at put)

  pub deep-close : (t place : ℕ) → place_at places t ≡ Some place → (u : ℕ) → deep_at (deep_of (set places t None) stacks) u ≡ (if nat_eq u t then None else deep_at (deep_of places stacks) u)
  deep-close t place owned u =
      ⊎_elim
      (λ (e : u ≡ t).
      deep_at-of (set places t None) stacks u
      ∙ ap (option_map (frames_at stacks)) (ap (place_at (set places t None)) e ∙ get_or-set_same places t None None (placed places t place owned))
      ∙ sym (cond-true (nat_eq u t) None (deep_at (deep_of places stacks) u) (eq-eqb u t e)))
      (λ (ne : u ≡ t → ⊥).
      deep_at-of (set places t None) stacks u
      ∙ ap (option_map (frames_at stacks)) (get_or-set_other places t u None None ne)
      ∙ sym (deep_at-of places stacks u)
      ∙ sym (cond-false (nat_eq u t) None (deep_at (deep_of places stacks) u) (ne_eqb u t ne)))
      (cases_eq u t)

  -- ---- An array is taken

  module _ (reached : List (Option ℕ)) (t : ℕ) (same : (u : ℕ) → place_at reached u ≡ place_at places u) (count : count_by is_some reached ≡ count_by is_some places) (few : length reached ≤ 65536) (within : t < length reached) (unplaced : place_at places t ≡ None) where
    -- one task more has an array
    counted-open : (place : ℕ) → count_by is_some (set reached t (Some place)) ≡ count_by is_some places + 1
    counted-open place =
        let put = sum_by-set (λ o. if is_some o then 1 else 0) reached t (Some place) None within in
        omega (arith, count, rw (same t ∙ unplaced) at put)

    -- where none is free there are less than tasks
    pub room-open : IsEmpty free → length stacks < 65536
    room-open none = omega (arith, store.counted, count-empty free none, counted-open 0, count_by-le-length is_some (set reached t (Some 0)), length-set reached t (Some 0), few)

    module _ (stacks_new : List (List Frame)) (free_new : Numbers) (place : ℕ) (in_new : place < length stacks_new) (unowned : place < length stacks → has free place ≡ true) (more : length stacks ≤ length stacks_new) (few_new : length stacks_new ≤ 65536) (counted : length stacks_new + count_free free ≡ length stacks + count_free free_new + 1) (left : (p : ℕ) → has free_new p ≡ (has free p && not (nat_eq p place))) (wide : length free_new ≡ 65536) where
      -- a task that had an array, or the one that gets it
      owner-open : (u p : ℕ) → place_at (set reached t (Some place)) u ≡ Some p → ((u ≡ t) × (p ≡ place)) ⊎ (place_at places u ≡ Some p)
      owner-open u p e =
          ⊎_elim
          (λ (is : u ≡ t).
          let got : place_at (set reached t (Some place)) u ≡ Some place = ap (place_at (set reached t (Some place))) is ∙ get_or-set_same reached t (Some place) None within in
          let here : p ≡ place = cc in
          inl (is, here))
          (λ (ne : u ≡ t → ⊥). inr (sym (same u) ∙ sym (get_or-set_other reached t u (Some place) None ne) ∙ e))
          (cases_eq u t)

      -- no task had this array
      new-place : (u : ℕ) → place_at places u ≡ Some place → ⊥
      new-place u e =
          let free_there : has free place ≡ true = unowned (store.within u place e) in
          let taken_there : has free place ≡ false = store.taken u place e in
          absurd (cc)

      pub store-open : IsStore (set reached t (Some place)) stacks_new free_new most_places most_stacks
      store-open = record {
        few = omega (arith, length-set reached t (Some place), few);
        places_room = store.places_room;
        stacks_room = store.stacks_room;
        stacks_few = few_new;
        free_wide = wide;
        counted = omega (arith, store.counted, counted, counted-open place);
        within = λ u p e. ⊎_elim
            (λ (mine : (u ≡ t) × (p ≡ place)). subst (λ q. q < length stacks_new) (sym mine.1) in_new)
            (λ (old : place_at places u ≡ Some p). omega (arith, store.within u p old, more))
            (owner-open u p e);
        taken = λ u p e. left p ∙ ⊎_elim
            (λ (mine : (u ≡ t) × (p ≡ place)). and_right (has free p) (not (nat_eq p place)) (ap not (eq-eqb p place mine.1)))
            (λ (old : place_at places u ≡ Some p). ap (λ b. b && not (nat_eq p place)) (store.taken u p old))
            (owner-open u p e);
        one_owner = λ u v p e f. ⊎_elim
            (λ (mine : (u ≡ t) × (p ≡ place)). ⊎_elim
            (λ (his : (v ≡ t) × (p ≡ place)). mine.0 ∙ sym his.0)
            (λ (old : place_at places v ≡ Some p). absurd (new-place v (old ∙ ap Some mine.1)))
            (owner-open v p f))
            (λ (old : place_at places u ≡ Some p). ⊎_elim
            (λ (his : (v ≡ t) × (p ≡ place)). absurd (new-place u (old ∙ ap Some his.1)))
            (λ (too : place_at places v ≡ Some p). store.one_owner u v p old too)
            (owner-open v p f))
            (owner-open u p e);
        freed = λ p e. omega (arith, more, store.freed p (and_parts (has free p) (not (nat_eq p place)) (sym (left p) ∙ e)).0);
      }

-- the stacks once a task has an array with these frames, and the others have theirs
pub deep-open : (places old : List (Option ℕ)) (stacks stacks_old : List (List Frame)) (free : Numbers) (most_places most_stacks : ℕ) → IsStore places stacks free most_places most_stacks → (t place : ℕ) (frames : List Frame) → place_at places t ≡ Some place
    → ((u : ℕ) → u ≢ t → place_at places u ≡ place_at old u) → ((p : ℕ) → frames_at stacks p ≡ frames_at stacks_old p)
    → (u : ℕ) → deep_at (deep_of places (set stacks place frames)) u ≡ (if nat_eq u t then Some frames else deep_at (deep_of old stacks_old) u)
deep-open places old stacks stacks_old free most_places most_stacks store t place frames owned others kept u =
    deep-write places stacks free most_places most_stacks store t place frames owned u
    ∙ ⊎_elim
    (λ (e : u ≡ t). cond-true (nat_eq u t) (Some frames) (deep_at (deep_of places stacks) u) (eq-eqb u t e) ∙ sym (cond-true (nat_eq u t) (Some frames) (deep_at (deep_of old stacks_old) u) (eq-eqb u t e)))
    (λ (ne : u ≡ t → ⊥).
    ap (λ o. if nat_eq u t then Some frames else o) (deep_at-of places stacks u ∙ ap (option_map (frames_at stacks)) (others u ne) ∙ same (place_at old u) ∙ sym (deep_at-of old stacks_old u)))
    (cases_eq u t)
  where
    same : (o : Option ℕ) → option_map (frames_at stacks) o ≡ option_map (frames_at stacks_old) o
    same None = refl
    same (Some p) = ap Some (kept p)

-- ---- A frame is popped

-- what is left fits the record
pub not_deep : (frames : List Frame) (left : ℕ) → left ≡ length frames → left ≤ own_frames → if_deep frames ≡ None
not_deep frames left is few = cond-true (nat_le (length frames) own_frames) None (Some frames) (le-leb (length frames) own_frames (omega (arith, is, few)))

-- what is left doesn't
pub still_deep : (frames : List Frame) (left : ℕ) → left ≡ length frames → own_frames < left → if_deep frames ≡ Some frames
still_deep frames left is many = cond-false (nat_le (length frames) own_frames) None (Some frames) (lt-leb (length frames) own_frames (omega (arith, is, many)))

-- a second change of one task's stack undoes the first
pub changed_twice : (b : Bool) (first second old now : Option (List Frame)) → now ≡ (if b then first else old) → (if b then second else now) ≡ (if b then second else old)
changed_twice true first second old now e = refl
changed_twice false first second old now e = e
