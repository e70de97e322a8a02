-- The ends of spans, and what the lines cover.
use Rattle.std.proofs.Common.{◌≡◌, ℕ, zero, suc, ◌+◌, ◌-◌, ◌<◌, ◌≤◌, Bool, true, false, ◌&&◌, ◌||◌, List, [], ◌∷◌, length, take, get_or, set, max, Option, Some, None, nat_eq, nat_le, nat_lt, add-one, length-set, get_or-set_same, get_or-set_other, refl, sym, ap, ap₂, ◌∙◌, ⊎_elim, arith}
use Rattle.std.specs.List.{list_any}
use Rattle.std.proofs.lemmas.Bool.{cases_eq, cases_Bool, and_parts, and_from, or_cases, or_left, or_right, eqb-true, eq-eqb, leb-true, leb-false, le-leb, ltb-true, lt-ltb, lt-leb, le-ltb}
use Rattle.std.proofs.lemmas.List.Folds.{list_any_more}
use Rattle.lp_model.specs.Rules.{Rules}
use Rattle.lp_definitions.specs.Leg.{Leg}
use Rattle.lp_definitions.specs.declared.line.Line.{Line}
use Rattle.lp_definitions.specs.declared.line.Line.TheVariants.{Hold, Busy, Born}
use Rattle.lp_checker.specs.declared.gaps.Span.{Span}
use Rattle.lp_checker.specs.inside.Spans.{span_of, spans_to, some_spans_to, AreEnds}
use Rattle.lp_checker.proofs.Members.{same_answer}
use Rattle.lp_definitions.specs.Judgement.{covers}

-- ---- The greatest so far

max_least : (b x y : ℕ) → nat_le b (max x y) ≡ (nat_le b x || nat_le b y)
max_least b x y =
    same_answer _ _
    (λ h. let le = leb-true b (max x y) h in
    ⊎_elim
    (λ (yes : nat_le b x ≡ true). or_left (nat_le b x) (nat_le b y) yes)
    (λ (no : nat_le b x ≡ false). or_right (nat_le b x) (nat_le b y) (le-leb b y (let gt = leb-false b x no in omega (arith, le, gt))))
    (cases_Bool (nat_le b x)))
    (λ h. ⊎_elim
    (λ (yes : nat_le b x ≡ true). le-leb b (max x y) (let le = leb-true b x yes in omega (arith, le)))
    (λ (yes : nat_le b y ≡ true). le-leb b (max x y) (let le = leb-true b y yes in omega (arith, le)))
    (or_cases (nat_le b x) (nat_le b y) h))

-- up to place n the numbers are the greatest so far, the others are as they were
pub record Kept (n : ℕ) (old now : List ℕ) (greatest : ℕ) : Type 0 where
  pub all : length now ≡ length old
  pub below : (place bound : ℕ) → place < n → 0 < bound → nat_le bound (get_or now place 0) ≡ list_any (nat_le bound) (take (suc place) old)
  pub so_far : (bound : ℕ) → 0 < bound → nat_le bound greatest ≡ list_any (nat_le bound) (take n old)
  pub above : (place : ℕ) → n ≤ place → get_or now place 0 ≡ get_or old place 0

pub none_kept : (old : List ℕ) → Kept 0 old old 0
none_kept old = record {
  all = refl;
  below = λ place bound lt. absurd (omega (arith, lt));
  so_far = λ bound positive. lt-leb bound 0 positive;
  above = λ place le. refl;
}

pub keeps_more : (n : ℕ) (old now : List ℕ) (greatest next : ℕ) → n < length old → next ≡ max greatest (get_or now n 0) → Kept n old now greatest → Kept (n + 1) old (set now n next) next
keeps_more n old now greatest next lt is kept = record {
  all = length-set now n next ∙ kept.all;
  below = λ place bound less positive.
      ⊎_elim
      (λ (e : place ≡ n). ap (λ p. nat_le bound (get_or (set now n next) p 0)) e ∙ ap (nat_le bound) (get_or-set_same now n next 0 (let all = kept.all in omega (arith, all))) ∙ up_to bound positive ∙ ap (λ k. list_any (nat_le bound) (take k old)) (let same : n + 1 ≡ suc place = omega (arith, e) in same))
      (λ (ne : place ≡ n → ⊥). ap (nat_le bound) (get_or-set_other now n place next 0 ne) ∙ kept.below place bound (omega (arith, less, ne)) positive)
      (cases_eq place n);
  so_far = up_to;
  above = λ place le. get_or-set_other now n place next 0 (λ e. omega (arith, le, e)) ∙ kept.above place (omega (arith, le));
}
  where
    up_to : (bound : ℕ) → 0 < bound → nat_le bound next ≡ list_any (nat_le bound) (take (n + 1) old)
    up_to bound positive =
        ap (nat_le bound) (is ∙ ap (max greatest) (kept.above n (omega arith)))
        ∙ max_least bound greatest (get_or old n 0)
        ∙ ap (λ b. b || nat_le bound (get_or old n 0)) (kept.so_far bound positive)
        ∙ sym (list_any_more (nat_le bound) old n 0 lt)

-- ---- Spans that begin by a place

-- an end that is there for two tests
and_or : (a b x : Bool) → ((a && x) || (b && x)) ≡ ((a || b) && x)
and_or true b true = refl
and_or true b false = or_false b
  where
    or_false : (b : Bool) → (false || (b && false)) ≡ false
    or_false true = refl
    or_false false = refl
and_or false b x = refl

any_or : {A : Type 0} (p q r : A → Bool) → ((x : A) → (p x || q x) ≡ r x) → (xs : List A) → (list_any p xs || list_any q xs) ≡ list_any r xs
any_or p q r same [] = refl
any_or p q r same (x ∷ xs) = swap (p x) (q x) (list_any p xs) (list_any q xs) ∙ ap₂ (λ a b. a || b) (same x) (any_or p q r same xs)
  where
    swap : (a b c d : Bool) → ((a || c) || (b || d)) ≡ ((a || b) || (c || d))
    swap true b c d = refl
    swap false true true d = refl
    swap false true false d = refl
    swap false false c d = refl

module _ (number begin last : ℕ) (lines : List Line) (ends : List ℕ) (all : length ends ≡ last + 1) (own : AreEnds number begin last (λ place at. nat_eq at place) lines ends) (moment : ℕ) (positive : 0 < moment) where
  abbrev by : ℕ → Bool
  by n = some_spans_to number begin (λ at. nat_lt at n) moment lines

  earlier : (n : ℕ) (span : Option Span) → (spans_to number begin (λ at. nat_lt at n) moment span || spans_to number begin (λ at. nat_eq at n) moment span) ≡ spans_to number begin (λ at. nat_lt at (suc n)) moment span
  earlier n None = refl
  earlier n (Some s) =
      let at : ℕ = s.from - number - begin in
      and_or (nat_lt at n) (nat_eq at n) (nat_le moment (s.to - number)) ∙ ap (λ b. b && nat_le moment (s.to - number)) (lt_or_eq at)
    where
      lt_or_eq : (at : ℕ) → (nat_lt at n || nat_eq at n) ≡ nat_lt at (suc n)
      lt_or_eq at =
          same_answer _ _
          (λ h. lt-ltb at (suc n) (⊎_elim (λ (lt : nat_lt at n ≡ true). let less = ltb-true at n lt in omega (arith, less)) (λ (eq : nat_eq at n ≡ true). let same = eqb-true at n eq in omega (arith, same)) (or_cases (nat_lt at n) (nat_eq at n) h)))
          (λ h. let less = ltb-true at (suc n) h in
          ⊎_elim
          (λ (e : at ≡ n). or_right (nat_lt at n) (nat_eq at n) (eq-eqb at n e))
          (λ (ne : at ≡ n → ⊥). or_left (nat_lt at n) (nat_eq at n) (lt-ltb at n (omega (arith, less, ne))))
          (cases_eq at n))

  none_before : (lines : List Line) → false ≡ some_spans_to number begin (λ at. nat_lt at 0) moment lines
  none_before [] = refl
  none_before (line ∷ more) = ap₂ (λ a b. a || b) (none (span_of line)) (none_before more)
    where
      none : (span : Option Span) → false ≡ spans_to number begin (λ at. nat_lt at 0) moment span
      none None = refl
      none (Some s) = sym (ap (λ b. b && nat_le moment (s.to - number)) (le-ltb (s.from - number - begin) 0 (omega arith)))

  -- one of the first n ends is so late
  pub ends_so_far : (n : ℕ) → n ≤ last + 1 → list_any (nat_le moment) (take n ends) ≡ by n
  ends_so_far zero le = none_before lines
  ends_so_far (suc n) le =
      ap (λ k. list_any (nat_le moment) (take k ends)) (sym (add-one n))
      ∙ list_any_more (nat_le moment) ends n 0 (omega (arith, le, all))
      ∙ ap₂ (λ a b. a || b) (ends_so_far n (omega (arith, le))) (own n moment (omega (arith, le)) positive)
      ∙ any_or (λ line. spans_to number begin (λ at. nat_lt at n) moment (span_of line)) (λ line. spans_to number begin (λ at. nat_eq at n) moment (span_of line)) (λ line. spans_to number begin (λ at. nat_lt at (suc n)) moment (span_of line)) (λ line. earlier n (span_of line)) lines

-- ---- What the lines cover

module _ (model : Rules) (leg : Leg) (begin moment : ℕ) (later : begin < moment) where
  begins : (f : ℕ) → nat_lt (f - begin) (suc (moment - begin)) ≡ nat_le f moment
  begins f =
      same_answer _ _
      (λ h. let lt = ltb-true (f - begin) (suc (moment - begin)) h in le-leb f moment (omega (arith, lt, later)))
      (λ h. let le = leb-true f moment h in lt-ltb (f - begin) (suc (moment - begin)) (omega (arith, le, later)))

  both : (a : ℕ) → (nat_le a moment && nat_le moment a) ≡ nat_eq a moment
  both a =
      same_answer _ _
      (λ h. let parts = and_parts (nat_le a moment) (nat_le moment a) h in
      let low = leb-true a moment parts.0 in
      let high = leb-true moment a parts.1 in
      eq-eqb a moment (omega (arith, low, high)))
      (λ h. let same = eqb-true a moment h in and_from _ _ (le-leb a moment (omega (arith, same))) (le-leb moment a (omega (arith, same))))

  one_covers : (line : Line) → spans_to leg.number begin (λ at. nat_lt at (suc (moment - begin))) moment (span_of line) ≡ covers model leg moment line
  one_covers (Hold g t s from to) = ap (λ b. b && nat_le moment (to - leg.number)) (begins (from - leg.number))
  one_covers (Busy g t at) = ap (λ b. b && nat_le moment (at - leg.number)) (begins (at - leg.number)) ∙ both (at - leg.number)
  one_covers (Born g p at) = refl

  pub lines_cover : (lines : List Line) → some_spans_to leg.number begin (λ at. nat_lt at (suc (moment - begin))) moment lines ≡ list_any (covers model leg moment) lines
  lines_cover [] = refl
  lines_cover (line ∷ more) = ap₂ (λ a b. a || b) (one_covers line) (lines_cover more)
