-- A leg that isn't complete has a group that waits, so there is a floor for the least of them.
use Rattle.std.proofs.Common.{◌≡◌, ℕ, zero, suc, pred, ◌+◌, ◌<◌, ◌≤◌, Bool, true, false, List, [], ◌∷◌, ◌++◌, map, filter, take, drop, length, Option, Some, None, slice_get, refl, sym, ap, ◌∙◌, subst, ⊎_elim, arith, length-append}
use Rattle.std.specs.List.{range_with_len}
use Rattle.std.specs.Option.{option_map}
use Rattle.std.proofs.lemmas.Bool.{cond-true, cond-false, cases_Bool, cases_eq, cases_lt}
use Rattle.std.proofs.lemmas.List.{take_at}
use Rattle.lp_model.specs.Rules.{Rules, IsLawful}
use Rattle.lp_definitions.specs.Leg.{Leg}
use Rattle.lp_definitions.specs.Run.{Run, AreInRange, first_leg, leg_of, is_complete_now}
use Rattle.lp_definitions.specs.Schedule.{waits, first_check}
use Rattle.lp_definitions.specs.Sound.{IsSound}
use Rattle.lp_laws.proofs.WholeRun.{run_sound, start_sound}
use Rattle.lp_definitions.specs.declared.cert.Claim.TheVariants.{Floor}
use Rattle.lp_definitions.specs.Certificates.{cert, completion, opened_legs}
use Rattle.lp_cert.specs.Ends.{Made, IsMadeOf, IsLeastWaiting, ended_legs, leg_under_way, under_way, floor_in}
use Rattle.lp_definitions.specs.Ends.{end_of}
use Rattle.lp_laws.proofs.Completions.{incomplete_if}
use Rattle.lp_laws.proofs.Waiters.{waiting_in_range, someone_waits}
use Rattle.lp_laws.proofs.GroupsInRange.{GroupsAreInRange, run_in_range, start_in_range}
use Rattle.lp_cert.proofs.Tellings.{legs-split, floor_told, complete_told}

-- ---- The least number of a range that passes

-- it is the first that is kept
record IsFirstKept {X : Type 0} (f : ℕ → X) (test : ℕ → Bool) (a n k : ℕ) : Type 0 where
  passes : test k ≡ true
  least : (j : ℕ) → a ≤ j → j < k → test j ≡ false
  kept : slice_get (map f (take 1 (filter test (range_with_len a n)))) 0 ≡ Some (f k)

first_kept : {X : Type 0} (f : ℕ → X) (test : ℕ → Bool) (a n k : ℕ) → a ≤ k → k < a + n → test k ≡ true → (least : ℕ) × IsFirstKept f test a n least
first_kept f test a zero k low high is = absurd (omega arith)
first_kept {X} f test a (suc n) k low high is =
    ⊎_elim
    (λ (here : test a ≡ true). (a, record { passes = here; least = λ j from below. absurd (omega arith); kept = ap (λ ks. slice_get (map f (take 1 ks)) 0) (cond-true (test a) (a ∷ rest) rest here) }))
    (λ (past : test a ≡ false).
    let later = first_kept f test (a + 1) n k (omega (arith, differs past)) (omega arith) is in (
      later.0,
      record {
        passes = later.1.passes;
        least = λ j from below. ⊎_elim (λ (at : j ≡ a). ap test at ∙ past) (λ (ne : j ≡ a → ⊥). later.1.least j (omega (arith, ne)) below) (cases_eq j a);
        kept = ap (λ ks. slice_get (map f (take 1 ks)) 0) (cond-false (test a) (a ∷ rest) rest past) ∙ later.1.kept;
      },
    ))
    (cases_Bool (test a))
  where
    rest : List ℕ
    rest = filter test (range_with_len (a + 1) n)

    differs : test a ≡ false → k ≡ a → ⊥
    differs past at = let e : test k ≡ false = ap test at ∙ past in cc

-- ---- Whoever waits

module _ (model : Rules) (lawful : IsLawful model) (leg : Leg) where
  abbrev first : ℕ → ℕ → Bool
  first = waits model leg (first_check model leg)

  -- the floor of a leg that isn't complete
  floor_of : IsSound leg.opening → GroupsAreInRange leg.opening → completion model leg ≡ None → (group : ℕ) × IsLeastWaiting model leg group × (floor_in (Some (end_of model leg)) ≡ Some (cert model leg Floor (length leg.events) group))
  unfolding is_complete_now
  floor_of sound in_range still =
      let last = length leg.events in
      let waiter = someone_waits model lawful leg sound last (incomplete_if model lawful leg sound still) in
      let within = waiting_in_range model lawful leg in_range last waiter.0 waiter.1 in
      let found = first_kept (cert model leg Floor last) (first last) 0 (suc leg.bounds.tasks) waiter.0 (omega arith) (omega (arith, within)) waiter.1 in (
        found.0,
        record {
          waiting = found.1.passes;
          least = λ other w. ⊎_elim (λ (lt : other < found.0). let no = found.1.least other (omega arith) lt in absurd (cc)) (λ (le : found.0 ≤ other). le) (cases_lt other found.0);
        },
        floor_told model leg still ∙ found.1.kept,
      )

-- ---- The leg under way

-- of those that ended and one more, the first of which no control event opened, the last is under way
last_of : (model : Rules) (before : List Leg) (leg : Leg) → (let opened = drop 1 (before ++ leg ∷ []) in slice_get opened (pred (length opened))) ≡ under_way model before leg
last_of model [] leg = refl
last_of model (first ∷ rest) leg = the_last rest
  where
    the_last : (xs : List Leg) → slice_get (xs ++ leg ∷ []) (pred (length (xs ++ leg ∷ []))) ≡ Some leg
    the_last [] = refl
    the_last (x ∷ []) = refl
    the_last (x ∷ y ∷ xs) = the_last (y ∷ xs)

-- and the others are all but it
but_last : (before : List Leg) (leg : Leg) → drop 1 before ≡ (let opened = drop 1 (before ++ leg ∷ []) in take (pred (length opened)) opened)
but_last [] leg = refl
but_last (first ∷ rest) leg = sym (take_at rest (leg ∷ []) (pred (length (rest ++ leg ∷ []))) (omega (arith, length-append rest (leg ∷ []))))

under_way_is : (model : Rules) (before : List Leg) (last leg : Leg) → under_way model before last ≡ Some leg → leg ≡ last
under_way_is model [] last leg e = absurd (cc)
under_way_is model (first ∷ rest) last leg e = cc

module _ (model : Rules) (run : Run) where
  under_way_here : leg_under_way model run ≡ under_way model (ended_legs model (first_leg model run) run.events) (leg_of model run)
  under_way_here =
      ap (λ ls. slice_get (drop 1 ls) (pred (length (drop 1 ls)))) (legs-split model (first_leg model run) run.events)
      ∙ last_of model (ended_legs model (first_leg model run) run.events) (leg_of model run)

  pub is_leg_of : (leg : Leg) → leg_under_way model run ≡ Some leg → leg ≡ leg_of model run
  is_leg_of leg e = under_way_is model (ended_legs model (first_leg model run) run.events) (leg_of model run) leg (sym under_way_here ∙ e)

  module _ (made : Made) (is : IsMadeOf model run made) where
    pub ended_made : made.ended ≡ (let opened = opened_legs model (first_leg model run) run.events in map (end_of model) (take (pred (length opened)) opened))
    ended_made =
        is.ended
        ∙ ap (map (end_of model)) (but_last (ended_legs model (first_leg model run) run.events) (leg_of model run)
        ∙ ap (λ ls. take (pred (length (drop 1 ls))) (drop 1 ls)) (sym (legs-split model (first_leg model run) run.events)))

    pub current_made : made.current ≡ option_map (end_of model) (leg_under_way model run)
    current_made = is.current ∙ ap (option_map (end_of model)) (sym under_way_here)

    -- the end of the leg under way
    current_is : (leg : Leg) → leg_under_way model run ≡ Some leg → made.current ≡ Some (end_of model leg)
    current_is leg e = current_made ∙ ap (option_map (end_of model)) e

    pub floor_made : IsLawful model → AreInRange run.bounds run.boots → (leg : Leg) → leg_under_way model run ≡ Some leg → completion model leg ≡ None → (group : ℕ) × IsLeastWaiting model leg group × (floor_in made.current ≡ Some (cert model leg Floor (length leg.events) group))
    floor_made lawful in_range leg now still =
        let start = start_sound model lawful run.bounds run.patches run.boots in_range in
        let here = sym (is_leg_of leg now) in
        let sound = subst (λ (l : Leg). IsSound l.opening) here (run_sound model lawful (first_leg model run) run.events start) in
        let groups = subst (λ (l : Leg). GroupsAreInRange l.opening) here (run_in_range model lawful (first_leg model run) run.events (start_in_range model lawful run.bounds run.patches run.boots start)) in
        let floor = floor_of model lawful leg sound groups still in
        (floor.0, floor.1, ap floor_in (current_is leg now) ∙ floor.2)

    pub none_made : ((leg : Leg) → leg_under_way model run ≡ Some leg → completion model leg ≡ None → ⊥) → floor_in made.current ≡ None
    none_made not_open = by_leg (leg_under_way model run) refl
      where
        by_moment : (leg : Leg) → leg_under_way model run ≡ Some leg → (o : Option ℕ) → completion model leg ≡ o → floor_in made.current ≡ None
        by_moment leg now None still = absurd (not_open leg now still)
        by_moment leg now (Some k) done = ap floor_in (current_is leg now) ∙ (complete_told model leg k 0 done).1

        by_leg : (o : Option Leg) → leg_under_way model run ≡ o → floor_in made.current ≡ None
        by_leg None none = ap floor_in (current_made ∙ ap (option_map (end_of model)) none)
        by_leg (Some leg) now = by_moment leg now (completion model leg) refl
