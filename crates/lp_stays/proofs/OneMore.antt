-- One more moment: what becomes of the stays.
use Rattle.std.proofs.Common.{◌≡◌, Bool, List, [], ◌∷◌, ◌++◌, refl, sym, ap, ◌∙◌}
use Rattle.std.proofs.lemmas.List.{append_assoc}
use Rattle.lp_definitions.specs.Stays.{join_first, stays}
use Rattle.lp_stays.specs.Counts.{last_of}

-- ---- The last of a list

pub last_push : {A : Type 0} (other : A) (xs : List A) (x : A) → last_of other (xs ++ x ∷ []) ≡ x
last_push other [] x = refl
last_push other (y ∷ xs) x = last_push y xs x

-- ---- A moment without calls of the patch

-- it adds no stay
pub ended : (ms : List (List Bool)) → stays (ms ++ [] ∷ []) ≡ stays ms
unfolding stays
ended [] = refl
ended ([] ∷ after) = ended after
ended ((s ∷ m) ∷ []) = refl
ended ((s ∷ m) ∷ ([] ∷ after)) = ap (λ found. (s ∷ m) ∷ found) (ended ([] ∷ after))
ended ((s ∷ m) ∷ ((n ∷ next) ∷ after)) = ap (join_first (s ∷ m)) (ended ((n ∷ next) ∷ after))

-- ---- A moment with calls, after one without

-- the first of some stays
record First (found : List (List Bool)) : Type 0 where
  stay : List Bool
  others : List (List Bool)
  are : found ≡ stay ∷ others

first_joined : (now : List Bool) (found : List (List Bool)) → First (join_first now found)
first_joined now [] = record { stay = now; others = []; are = refl }
first_joined now (stay ∷ others) = record { stay = now ++ stay; others = others; are = refl }

first_stay : (s : Bool) (now : List Bool) (after : List (List Bool)) → First (stays ((s ∷ now) ∷ after))
unfolding stays
first_stay s now [] = record { stay = s ∷ now; others = []; are = refl }
first_stay s now ([] ∷ after) = record { stay = s ∷ now; others = stays ([] ∷ after); are = refl }
first_stay s now ((n ∷ next) ∷ after) = first_joined (s ∷ now) (stays ((n ∷ next) ∷ after))

join_more : (now : List Bool) (found more : List (List Bool)) → First found → join_first now (found ++ more) ≡ join_first now found ++ more
join_more now found more first =
    ap (λ xs. join_first now (xs ++ more)) first.are ∙ sym (ap (λ xs. join_first now xs ++ more) first.are)

-- it is a new stay
pub begun : (ms : List (List Bool)) (s : Bool) (now : List Bool) → last_of [] ms ≡ [] → stays (ms ++ (s ∷ now) ∷ []) ≡ stays ms ++ (s ∷ now) ∷ []
unfolding stays
begun [] s now e = refl
begun ([] ∷ []) s now e = refl
begun ((x ∷ m) ∷ []) s now e = absurd (cc)
begun ([] ∷ (next ∷ after)) s now e = begun (next ∷ after) s now e
begun ((x ∷ m) ∷ ([] ∷ after)) s now e = ap (λ found. (x ∷ m) ∷ found) (begun ([] ∷ after) s now e)
begun ((x ∷ m) ∷ ((n ∷ next) ∷ after)) s now e =
    ap (join_first (x ∷ m)) (begun ((n ∷ next) ∷ after) s now e) ∙ join_more (x ∷ m) (stays ((n ∷ next) ∷ after)) ((s ∷ now) ∷ []) (first_stay n next after)

-- ---- A moment with calls, after one with calls

-- the last stay ends with the last moment, and a further moment with calls lengthens it
pub record UnderWay (ms : List (List Bool)) : Type 0 where
  pub before : List (List Bool)
  pub early : List Bool
  pub are : stays ms ≡ before ++ (early ++ last_of [] ms) ∷ []
  pub longer : (s : Bool) (now : List Bool) → stays (ms ++ (s ∷ now) ∷ []) ≡ before ++ ((early ++ last_of [] ms) ++ s ∷ now) ∷ []

module _ (s : Bool) (m : List Bool) (n : Bool) (next : List Bool) (after : List (List Bool)) where
  abbrev later : List (List Bool)
  later = (n ∷ next) ∷ after

  abbrev last : List Bool
  last = last_of [] later

  regroup : (early more : List Bool) → (s ∷ m) ++ ((early ++ last) ++ more) ≡ (((s ∷ m) ++ early) ++ last) ++ more
  regroup early more = sym (append_assoc (s ∷ m) (early ++ last) more) ∙ ap (λ xs. xs ++ more) (sym (append_assoc (s ∷ m) early last))

  joined : (before : List (List Bool)) (early : List Bool) → stays later ≡ before ++ (early ++ last) ∷ []
      → ((b : Bool) (now : List Bool) → stays (later ++ (b ∷ now) ∷ []) ≡ before ++ ((early ++ last) ++ b ∷ now) ∷ [])
      → UnderWay ((s ∷ m) ∷ later)
  unfolding stays
  joined [] early are longer =
      record {
        before = [];
        early = (s ∷ m) ++ early;
        are = ap (join_first (s ∷ m)) are ∙ ap (λ stay. stay ∷ []) (sym (append_assoc (s ∷ m) early last));
        longer = λ b now. ap (join_first (s ∷ m)) (longer b now) ∙ ap (λ stay. stay ∷ []) (regroup early (b ∷ now));
      }
  joined (stay ∷ others) early are longer =
      record {
        before = ((s ∷ m) ++ stay) ∷ others;
        early = early;
        are = ap (join_first (s ∷ m)) are;
        longer = λ b now. ap (join_first (s ∷ m)) (longer b now);
      }

pub under_way_still : (ms : List (List Bool)) (l : Bool) (rest : List Bool) → last_of [] ms ≡ l ∷ rest → UnderWay ms
unfolding stays
under_way_still [] l rest e = absurd (cc)
under_way_still ([] ∷ []) l rest e = absurd (cc)
under_way_still ((s ∷ m) ∷ []) l rest e = record { before = []; early = []; are = refl; longer = λ b now. refl }
under_way_still ([] ∷ (next ∷ after)) l rest e =
    let o = under_way_still (next ∷ after) l rest e in
    record { before = o.before; early = o.early; are = o.are; longer = o.longer }
under_way_still ((s ∷ m) ∷ ([] ∷ after)) l rest e =
    let o = under_way_still ([] ∷ after) l rest e in
    record {
      before = (s ∷ m) ∷ o.before;
      early = o.early;
      are = ap (λ found. (s ∷ m) ∷ found) o.are;
      longer = λ b now. ap (λ found. (s ∷ m) ∷ found) (o.longer b now);
    }
under_way_still ((s ∷ m) ∷ ((n ∷ next) ∷ after)) l rest e =
    let o = under_way_still ((n ∷ next) ∷ after) l rest e in
    joined s m n next after o.before o.early o.are o.longer
