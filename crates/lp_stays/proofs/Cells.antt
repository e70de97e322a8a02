-- What is kept of one task and one patch, after one more moment.
use Rattle.std.proofs.Common.{◌≡◌, ◌≢◌, ℕ, ◌+◌, ◌-◌, ◌<◌, min, Bool, true, false, not, ◌&&◌, ◌||◌, List, [], ◌∷◌, ◌++◌, length, count_by, nat_eq, refl, sym, ap, ap₂, ◌∙◌, subst, arith, length-append}
use Rattle.std.specs.List.{list_any}
use Rattle.std.proofs.lemmas.Bool.{le-leb, lt-leb, ne_eqb, cond-true, cond-false}
use Rattle.std.proofs.lemmas.List.Folds.{list_any-append}
use Rattle.std.proofs.lemmas.List.Sums.{sum_by_push}
use Rattle.std.proofs.Math.Bool.{and-not_self}
use Rattle.lp_definitions.specs.Stays.{stays, is_mixed}
use Rattle.lp_stays.specs.Invariant.{Ongoing, outside}
use Rattle.lp_stays.specs.inside.Calls.{is_both, called, returned, one_if, begins, mixes}
use Rattle.lp_stays.specs.Counts.{last_of, if_inside, under_way, Shows}
use Rattle.lp_stays.proofs.OneMore.{last_push, ended, begun, UnderWay, under_way_still}

-- what is kept after one more moment, and how many stays and mixed stays there are more
pub record IsAfter (ms : List (List Bool)) (now : List Bool) (after : Ongoing) (more mixed_more : ℕ) : Type 0 where
  pub shows : Shows after (ms ++ now ∷ [])
  pub total : length (stays (ms ++ now ∷ [])) ≡ length (stays ms) + more
  pub total_mixed : count_by is_mixed (stays (ms ++ now ∷ [])) ≡ count_by is_mixed (stays ms) + mixed_more

-- ---- Booleans

mix_more : (n o n' o' : Bool) → one_if ((n || n') && (o || o')) ≡ one_if (n && o) + one_if (((n || n') && (o || o')) && not (n && o))
mix_more true true n' o' = refl
mix_more true false n' true = refl
mix_more true false n' false = refl
mix_more false true true o' = refl
mix_more false true false o' = refl
mix_more false false true true = refl
mix_more false false true false = refl
mix_more false false false o' = refl

twice : (a b c : Bool) → ((a || b) || c) ≡ ((a || b) || (b || (c || false)))
twice true b c = refl
twice false true c = refl
twice false false true = refl
twice false false false = refl

again : (a b : Bool) → (a || b) ≡ ((a || b) || b)
again true b = refl
again false true = refl
again false false = refl

again_last : (a b c : Bool) → (a || (b || c)) ≡ ((a || (b || c)) || b)
again_last true b c = refl
again_last false true c = refl
again_last false false true = refl
again_last false false false = refl

-- what is so of a stay that ends with the last moment, if the moment comes again, with one call more, or without its last
kept_again : (x a l : Bool) → x ≡ (a || l) → x ≡ (x || l)
kept_again x a l e = e ∙ again a l ∙ ap (λ b. b || l) (sym e)

kept_pushed : (x a l c found : Bool) → x ≡ (a || l) → found ≡ (l || (c || false)) → (x || c) ≡ (x || found)
kept_pushed x a l c found e f = ap (λ b. b || c) e ∙ twice a l c ∙ ap₂ (λ b d. b || d) (sym e) (sym f)

kept_popped : (x a l now c : Bool) → x ≡ (a || l) → l ≡ (now || c) → x ≡ (x || now)
kept_popped x a l now c e f =
    let g : x ≡ (a || (now || c)) = e ∙ ap (λ b. a || b) f in
    g ∙ again_last a now c ∙ ap (λ b. b || now) (sym g)

-- ---- Moments without calls

module _ (ms : List (List Bool)) where
  -- after such a moment nobody is in a stay
  over : under_way (ms ++ [] ∷ []) ≡ []
  over = ap (λ last. if_inside last (stays (ms ++ [] ∷ []))) (last_push [] ms [])

  pub after_end : IsAfter ms [] outside 0 0
  after_end =
      record {
        shows = record {
          frames = sym (ap length (last_push [] ms []));
          old = sym (ap (list_any not) over);
          new = sym (ap (list_any (λ side. side)) over);
        };
        total = let e : length (stays (ms ++ [] ∷ [])) ≡ length (stays ms) = ap length (ended ms) in omega arith;
        total_mixed = let e : count_by is_mixed (stays (ms ++ [] ∷ [])) ≡ count_by is_mixed (stays ms) = ap (count_by is_mixed) (ended ms) in omega arith;
      }

  -- nothing was under way
  none_before : last_of [] ms ≡ [] → under_way ms ≡ []
  none_before e = ap (λ last. if_inside last (stays ms)) e

  still_outside : (x : Ongoing) → Shows x ms → last_of [] ms ≡ [] → IsAfter ms [] x 0 0
  still_outside x h e =
      record {
        shows = record {
          frames = h.frames ∙ ap length (e ∙ sym (last_push [] ms []));
          old = h.old ∙ ap (list_any not) (none_before e ∙ sym over);
          new = h.new ∙ ap (list_any (λ side. side)) (none_before e ∙ sym over);
        };
        total = after_end.total;
        total_mixed = after_end.total_mixed;
      }

-- ---- A moment with calls

-- the sides that ran in the stay before the last moment, with those of the last moment
record Sides (ms : List (List Bool)) (x : Ongoing) : Type 0 where
  old : Bool
  new : Bool
  old_is : x.old ≡ (old || list_any not (last_of [] ms))
  new_is : x.new ≡ (new || list_any (λ side. side) (last_of [] ms))

module _ (ms : List (List Bool)) (x : Ongoing) (h : Shows x ms) (way : UnderWay ms) (l : Bool) (rest : List Bool) (e : last_of [] ms ≡ l ∷ rest) where
  abbrev stay : List Bool
  stay = way.early ++ last_of [] ms

  was_in : under_way ms ≡ stay
  was_in = ap₂ if_inside e way.are ∙ last_push [] way.before stay

  sides_of : Sides ms x
  sides_of =
      record {
        old = list_any not way.early;
        new = list_any (λ side. side) way.early;
        old_is = h.old ∙ ap (list_any not) was_in ∙ list_any-append not way.early (last_of [] ms);
        new_is = h.new ∙ ap (list_any (λ side. side)) was_in ∙ list_any-append (λ side. side) way.early (last_of [] ms);
      }

  mixed_was : is_mixed stay ≡ is_both x
  mixed_was = ap is_mixed (sym was_in) ∙ ap₂ (λ a b. a && b) (sym h.new) (sym h.old)

  module _ (s : Bool) (now : List Bool) (y : Ongoing) (frames : y.frames ≡ length (s ∷ now)) (old : y.old ≡ (x.old || list_any not (s ∷ now))) (new : y.new ≡ (x.new || list_any (λ side. side) (s ∷ now))) where
    abbrev after : List (List Bool)
    after = ms ++ (s ∷ now) ∷ []

    is_in : under_way after ≡ stay ++ s ∷ now
    is_in = ap₂ if_inside (last_push [] ms (s ∷ now)) (way.longer s now) ∙ last_push [] way.before (stay ++ s ∷ now)

    longer_any : (test : Bool → Bool) → list_any test (under_way after) ≡ (list_any test (under_way ms) || list_any test (s ∷ now))
    longer_any test =
        ap (list_any test) is_in ∙ list_any-append test stay (s ∷ now) ∙ ap (λ found. list_any test found || list_any test (s ∷ now)) (sym was_in)

    old_now : y.old ≡ list_any not (under_way after)
    old_now = old ∙ ap (λ b. b || list_any not (s ∷ now)) h.old ∙ sym (longer_any not)

    new_now : y.new ≡ list_any (λ side. side) (under_way after)
    new_now = new ∙ ap (λ b. b || list_any (λ side. side) (s ∷ now)) h.new ∙ sym (longer_any (λ side. side))

    mixed_now : is_mixed (stay ++ s ∷ now) ≡ is_both y
    mixed_now = ap is_mixed (sym is_in) ∙ ap₂ (λ a b. a && b) (sym new_now) (sym old_now)

    more_is : one_if (is_both y) ≡ one_if (is_both x) + one_if (is_both y && not (is_both x))
    more_is =
        subst (λ b. one_if b ≡ one_if (is_both x) + one_if (b && not (is_both x))) (sym (ap₂ (λ a b. a && b) new old)) (mix_more x.new x.old (list_any (λ side. side) (s ∷ now)) (list_any not (s ∷ now)))

    after_longer : IsAfter ms (s ∷ now) y 0 (one_if (is_both y && not (is_both x)))
    after_longer =
        record {
          shows = record { frames = frames ∙ sym (ap length (last_push [] ms (s ∷ now))); old = old_now; new = new_now };
          total =
              let a : length (stays after) ≡ length way.before + 1 = ap length (way.longer s now) ∙ length-append way.before ((stay ++ s ∷ now) ∷ []) in
              let b : length (stays ms) ≡ length way.before + 1 = ap length way.are ∙ length-append way.before (stay ∷ []) in
              omega (arith, a, b);
          total_mixed =
              let a : count_by is_mixed (stays after) ≡ count_by is_mixed way.before + one_if (is_mixed (stay ++ s ∷ now)) = ap (count_by is_mixed) (way.longer s now) ∙ sum_by_push (λ found. one_if (is_mixed found)) way.before (stay ++ s ∷ now) in
              let b : count_by is_mixed (stays ms) ≡ count_by is_mixed way.before + one_if (is_mixed stay) = ap (count_by is_mixed) way.are ∙ sum_by_push (λ found. one_if (is_mixed found)) way.before stay in
              let c : one_if (is_mixed (stay ++ s ∷ now)) ≡ one_if (is_both y) = ap one_if mixed_now in
              let d : one_if (is_mixed stay) ≡ one_if (is_both x) = ap one_if mixed_was in
              omega (arith, a, b, c, d, more_is);
        }

none_more : (ms : List (List Bool)) (now : List Bool) (x y : Ongoing) → is_both y ≡ is_both x → IsAfter ms now y 0 (one_if (is_both y && not (is_both x))) → IsAfter ms now y 0 0
none_more ms now x y same h =
    subst (IsAfter ms now y 0) (ap (λ b. one_if (b && not (is_both x))) same ∙ ap one_if (and-not_self (is_both x))) h

-- ---- The stack stays as it is

pub after_still : (ms : List (List Bool)) (x : Ongoing) → Shows x ms → IsAfter ms (last_of [] ms) x 0 0
after_still ms x h = by_last (last_of [] ms) refl
  where
    by_last : (last : List Bool) → last_of [] ms ≡ last → IsAfter ms last x 0 0
    by_last [] e = still_outside ms x h e
    by_last (l ∷ rest) e =
        let way = under_way_still ms l rest e in
        let sides = sides_of ms x h way l rest e in
        let old : x.old ≡ (x.old || list_any not (l ∷ rest)) = kept_again x.old sides.old (list_any not (l ∷ rest)) (sides.old_is ∙ ap (λ last. sides.old || list_any not last) e) in
        let new : x.new ≡ (x.new || list_any (λ side. side) (l ∷ rest)) = kept_again x.new sides.new (list_any (λ side. side) (l ∷ rest)) (sides.new_is ∙ ap (λ last. sides.new || list_any (λ side. side) last) e) in
        none_more ms (l ∷ rest) x x refl (after_longer ms x h way l rest e l rest x (h.frames ∙ ap length e) old new)

-- ---- A call of the patch

least_255 : (n : ℕ) → n < 255 → min (n + 1) 255 ≡ n + 1
least_255 n h = omega arith

one_side : (side : Bool) → is_mixed (side ∷ []) ≡ false
one_side true = refl
one_side false = refl

or_false : (b : Bool) → b ≡ (b || false)
or_false true = refl
or_false false = refl

unmixed : (side : Bool) → one_if (((false || side) && (false || not side)) && not (false && false)) ≡ 0
unmixed true = refl
unmixed false = refl

module _ (ms : List (List Bool)) (x : Ongoing) (side : Bool) (h : Shows x ms) where
  begun_call : last_of [] ms ≡ [] → IsAfter ms (side ∷ []) (called side x) (begins x) (mixes side x)
  begun_call e =
      let none : under_way ms ≡ [] = ap (λ last. if_inside last (stays ms)) e in
      let frames : x.frames ≡ 0 = h.frames ∙ ap length e in
      let old : x.old ≡ false = h.old ∙ ap (list_any not) none in
      let new : x.new ≡ false = h.new ∙ ap (list_any (λ s. s)) none in
      let more = begun ms side [] e in
      let in_it : under_way (ms ++ (side ∷ []) ∷ []) ≡ side ∷ [] = ap₂ if_inside (last_push [] ms (side ∷ [])) more ∙ last_push [] (stays ms) (side ∷ []) in
      record {
        shows = record {
          frames = ap (λ n. min (n + 1) 255) frames ∙ sym (ap length (last_push [] ms (side ∷ [])));
          old = ap (λ b. b || not side) old ∙ or_false (not side) ∙ sym (ap (list_any not) in_it);
          new = ap (λ b. b || side) new ∙ or_false side ∙ sym (ap (list_any (λ s. s)) in_it);
        };
        total =
            let a : length (stays (ms ++ (side ∷ []) ∷ [])) ≡ length (stays ms) + 1 = ap length more ∙ length-append (stays ms) ((side ∷ []) ∷ []) in
            let b : begins x ≡ 1 = ap (λ n. one_if (nat_eq n 0)) frames in
            omega (arith, a, b);
        total_mixed =
            let a : count_by is_mixed (stays (ms ++ (side ∷ []) ∷ [])) ≡ count_by is_mixed (stays ms) + one_if (is_mixed (side ∷ [])) = ap (count_by is_mixed) more ∙ sum_by_push (λ found. one_if (is_mixed found)) (stays ms) (side ∷ []) in
            let b : one_if (is_mixed (side ∷ [])) ≡ 0 = ap one_if (one_side side) in
            let c : mixes side x ≡ 0 = ap₂ (λ n o. one_if (((n || side) && (o || not side)) && not (n && o))) new old ∙ unmixed side in
            omega (arith, a, b, c);
      }

  longer_call : (l : Bool) (rest : List Bool) → last_of [] ms ≡ l ∷ rest → length (l ∷ rest) < 255 → IsAfter ms (l ∷ (rest ++ side ∷ [])) (called side x) (begins x) (mixes side x)
  longer_call l rest e few =
      let way = under_way_still ms l rest e in
      let sides = sides_of ms x h way l rest e in
      let frames : x.frames ≡ length (l ∷ rest) = h.frames ∙ ap length e in
      let pushed : length (l ∷ (rest ++ side ∷ [])) ≡ length (l ∷ rest) + 1 = length-append (l ∷ rest) (side ∷ []) in
      let old : (x.old || not side) ≡ (x.old || list_any not (l ∷ (rest ++ side ∷ []))) =
      kept_pushed x.old sides.old (list_any not (l ∷ rest)) (not side) (list_any not (l ∷ (rest ++ side ∷ []))) (sides.old_is ∙ ap (λ last. sides.old || list_any not last) e) (list_any-append not (l ∷ rest) (side ∷ [])) in
      let new : (x.new || side) ≡ (x.new || list_any (λ s. s) (l ∷ (rest ++ side ∷ []))) =
      kept_pushed x.new sides.new (list_any (λ s. s) (l ∷ rest)) side (list_any (λ s. s) (l ∷ (rest ++ side ∷ []))) (sides.new_is ∙ ap (λ last. sides.new || list_any (λ s. s) last) e) (list_any-append (λ s. s) (l ∷ rest) (side ∷ [])) in
      let some : x.frames ≢ 0 = omega (arith, frames) in
      let none : 0 ≡ begins x = sym (ap one_if (ne_eqb x.frames 0 some)) in
      subst (λ n. IsAfter ms (l ∷ (rest ++ side ∷ [])) (called side x) n (mixes side x)) none (
      after_longer ms x h way l rest e l (rest ++ side ∷ []) (called side x) (ap (λ n. min (n + 1) 255) frames ∙ least_255 (length (l ∷ rest)) few ∙ sym pushed) old new
      )

  pub after_called : length (last_of [] ms) < 255 → IsAfter ms (last_of [] ms ++ side ∷ []) (called side x) (begins x) (mixes side x)
  after_called few = by_last (last_of [] ms) refl
    where
      by_last : (last : List Bool) → last_of [] ms ≡ last → IsAfter ms (last ++ side ∷ []) (called side x) (begins x) (mixes side x)
      by_last [] e = begun_call e
      by_last (l ∷ rest) e = longer_call l rest e (subst (λ last. length last < 255) e few)

-- ---- A return from the patch

pub after_returned : (ms : List (List Bool)) (x : Ongoing) (now : List Bool) (side : Bool) → Shows x ms → last_of [] ms ≡ now ++ side ∷ [] → IsAfter ms now (returned x) 0 0
after_returned ms x [] side h e =
    let frames : x.frames ≡ 1 = h.frames ∙ ap length e in
    let is : returned x ≡ outside = cond-true _ _ _ (le-leb x.frames 1 (omega arith)) in
    subst (λ y. IsAfter ms [] y 0 0) (sym is) (after_end ms)
after_returned ms x (s ∷ now) side h e =
    let way = under_way_still ms s (now ++ side ∷ []) e in
    let sides = sides_of ms x h way s (now ++ side ∷ []) e in
    let popped : length ((s ∷ now) ++ side ∷ []) ≡ length (s ∷ now) + 1 = length-append (s ∷ now) (side ∷ []) in
    let frames : x.frames ≡ length (s ∷ now) + 1 = h.frames ∙ ap length e ∙ popped in
    let fewer : Ongoing = record { frames = x.frames - 1; old = x.old; new = x.new } in
    let is : returned x ≡ fewer = cond-false _ _ _ (lt-leb x.frames 1 (omega arith)) in
    let old : x.old ≡ (x.old || list_any not (s ∷ now)) =
    kept_popped x.old sides.old (list_any not (last_of [] ms)) (list_any not (s ∷ now)) (not side || false) sides.old_is (ap (list_any not) e ∙ list_any-append not (s ∷ now) (side ∷ [])) in
    let new : x.new ≡ (x.new || list_any (λ b. b) (s ∷ now)) =
    kept_popped x.new sides.new (list_any (λ b. b) (last_of [] ms)) (list_any (λ b. b) (s ∷ now)) (side || false) sides.new_is (ap (list_any (λ b. b)) e ∙ list_any-append (λ b. b) (s ∷ now) (side ∷ [])) in
    subst (λ y. IsAfter ms (s ∷ now) y 0 0) (sym is) (none_more ms (s ∷ now) x fewer refl (after_longer ms x h way s (now ++ side ∷ []) e s now fewer (omega arith) old new))
