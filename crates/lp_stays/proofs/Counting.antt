-- A count of stays steps with its run.
use Rattle.std.proofs.Common.{◌≡◌, ◌≢◌, ℕ, zero, suc, ◌+◌, ◌*◌, ◌<◌, ◌≤◌, Bool, true, false, List, [], ◌∷◌, ◌++◌, length, count_by, nat_le, refl, sym, ap, ap₂, ◌∙◌, subst, ⊎_elim, arith, length-append}
use Rattle.std.proofs.lemmas.Bool.{cases_Bool, cases_eq, cond-true, cond-false}
use Rattle.std.proofs.lemmas.List.Sums.{sum_by-append}
use Rattle.lp_symbols.specs.declared.sym_id.SymId.{SymId}
use Rattle.lp_patch.specs.Patches.{patch_has}
use Rattle.lp_model.specs.Rules.{Rules, IsLawful}
use Rattle.lp_definitions.specs.declared.event.Event.{Event}
use Rattle.lp_definitions.specs.Leg.{Leg, State}
use Rattle.lp_definitions.specs.Run.{Run, AreInRange, plus, first_leg, leg_of, leg_after}
use Rattle.lp_definitions.specs.Sound.{IsSound}
use Rattle.lp_machine.specs.Machine.{next, state_of}
use Rattle.lp_definitions.specs.Stays.{sides, moments, stays, is_mixed, all_stays}
use Rattle.lp_machine_laws.proofs.Steps.{does}
use Rattle.lp_machine_laws.proofs.Runs.{leg_after-plus}
use Rattle.lp_laws.proofs.WholeRun.{run_sound, start_sound}
use Rattle.lp_stays.specs.Invariant.{Tally, kept}
use Rattle.lp_stays.specs.inside.Calls.{called, returned, begins, mixes, calls, returns, one_more}
use Rattle.lp_stays.specs.Counts.{last_of, Shows, Counts}
use Rattle.lp_stays.proofs.Cells.{IsAfter, after_still, after_called, after_returned}
use Rattle.lp_stays.proofs.Sums.{sum_from, sum_none, rows-one}
use Rattle.lp_stays.proofs.Keeping.{others, changed, call_run, call_change, call_start, call_goes, call_same, more_in, mixed_in, call_stays, call_mixed, return_run, return_change, return_start, return_goes, return_same}
use Rattle.lp_stays.proofs.Stacks.{frames_at, IsStill, IsPush, IsPop}
use Rattle.lp_stays.proofs.Moments.{run_patches, moments_more, moments_last, sides_more, sides_same, sides_few}

module _ (model : Rules) (lawful : IsLawful model) (run : Run) (in_range : AreInRange run.bounds run.boots) (event : Event) (count : Tally) (counts : Counts model run count) where
  abbrev first : Leg
  first = first_leg model run

  abbrev pub before : State
  before = state_of model (leg_of model run)

  abbrev pub after : State
  after = next model before event

  abbrev later : Leg
  later = leg_after model first (run.events ++ event ∷ [])

  pub sound : IsSound (leg_of model run).opening
  sound = run_sound model lawful first run.events (start_sound model lawful run.bounds run.patches run.boots in_range)

  state_later : state_of model later ≡ after
  state_later =
      ap (state_of model) (leg_after-plus model first run.events event) ∙ sym (does model (leg_of model run) event lawful sound).next_state

  -- ---- The moments

  abbrev far : ℕ → ℕ → List (List Bool)
  far below t = moments model (suc below) t first run.events

  abbrev sides_at : State → ℕ → ℕ → List Bool
  sides_at s below t = sides count.patches (suc below) (frames_at s t)

  far_last : (below t : ℕ) → last_of [] (far below t) ≡ sides_at before below t
  far_last below t =
      moments_last model (suc below) t first run.events ∙ ap (λ patches. sides patches (suc below) (frames_at before t)) (run_patches model lawful first run.events ∙ sym counts.patches)

  far_more : (below t : ℕ) → moments model (suc below) t first (run.events ++ event ∷ []) ≡ far below t ++ sides_at after below t ∷ []
  far_more below t =
      moments_more model (suc below) t first run.events event ∙ ap (λ m. far below t ++ m ∷ []) (ap₂ (λ patches s. sides patches (suc below) (frames_at s t)) (run_patches model lawful first (run.events ++ event ∷ []) ∙ sym counts.patches) state_later)

  abbrev pub IsCell : Tally → ℕ → ℕ → ℕ → ℕ → Type 0
  IsCell now below t more mixed_more = IsAfter (far below t) (sides_at after below t) (kept now below t) more mixed_more

  shows : (below t : ℕ) → below < length count.patches → t < 65536 → Shows (kept count below t) (far below t)
  shows below t lt small = counts.present below t (subst (λ patches. below < length patches) counts.patches lt) small

  -- where a stack keeps its sides, so does what is kept
  still_cell : (below t : ℕ) → below < length count.patches → t < 65536 → sides_at after below t ≡ sides_at before below t → IsAfter (far below t) (sides_at after below t) (kept count below t) 0 0
  still_cell below t lt small same =
      subst (λ now. IsAfter (far below t) now (kept count below t) 0 0) (far_last below t ∙ sym same) (after_still (far below t) (kept count below t) (shows below t lt small))

  -- ---- The counts

  -- at most one task's stays change
  pub record IsTallied (now : Tally) (at : ℕ) (more mixed_more : ℕ → ℕ) : Type 0 where
    pub patches : now.patches ≡ count.patches
    pub calls : now.calls ≤ count.calls + 1
    pub positive : 1 ≤ at
    pub within : at < 65536
    pub stays : now.stays ≡ count.stays + sum_from more 1 (length count.patches)
    pub mixed : now.mixed ≡ count.mixed + sum_from mixed_more 1 (length count.patches)
    pub here : (below : ℕ) → below < length count.patches → IsCell now below at (more (suc below)) (mixed_more (suc below))
    pub others : (below t : ℕ) → below < length count.patches → t < 65536 → t ≢ at → IsCell now below t 0 0

  abbrev stays_in : List Event → ℕ → ℕ → List (List Bool)
  stays_in events t patch = stays (moments model patch t first events)

  module _ (weight : List (List Bool) → ℕ) (none : weight [] ≡ 0) (both : (xs ys : List (List Bool)) → weight (xs ++ ys) ≡ weight xs + weight ys) (at : ℕ) (more : ℕ → ℕ) (positive : 1 ≤ at) (within : at < 65536)
      (here : (below : ℕ) → below < length count.patches → weight (stays (far below at ++ sides_at after below at ∷ [])) ≡ weight (stays (far below at)) + more (suc below))
      (elsewhere : (below t : ℕ) → below < length count.patches → t < 65536 → t ≢ at → weight (stays (far below t ++ sides_at after below t ∷ [])) ≡ weight (stays (far below t)) + 0) where
    in_patches : (below : ℕ) → suc below < 1 + length run.patches → below < length count.patches
    in_patches below lt = let same : length count.patches ≡ length run.patches = ap length counts.patches in omega arith

    weight_more : (below t : ℕ) → weight (stays_in (run.events ++ event ∷ []) t (suc below)) ≡ weight (stays (far below t ++ sides_at after below t ∷ []))
    weight_more below t = ap (λ ms. weight (stays ms)) (far_more below t)

    one_here : (patch : ℕ) → 1 ≤ patch → patch < 1 + length run.patches → weight (stays_in (run.events ++ event ∷ []) at patch) ≡ weight (stays_in run.events at patch) + more patch
    one_here zero low high = absurd (omega arith)
    one_here (suc below) low high = weight_more below at ∙ here below (in_patches below high)

    one_elsewhere : (t patch : ℕ) → t ≢ at → 1 ≤ t → t < 1 + run.bounds.tasks → 1 ≤ patch → patch < 1 + length run.patches → weight (stays_in (run.events ++ event ∷ []) t patch) ≡ weight (stays_in run.events t patch) + 0
    one_elsewhere t zero other from to low high = absurd (omega arith)
    one_elsewhere t (suc below) other from to low high =
        let bound = counts.tasks in weight_more below t ∙ elsewhere below t (in_patches below high) (omega arith) other

    all_more : weight (all_stays model first (run.events ++ event ∷ [])) ≡ weight (all_stays model first run.events) + sum_from more 1 (length count.patches)
    unfolding all_stays
    all_more =
        let bound = counts.tasks in
        rows-one weight none both (length run.patches) run.bounds.tasks (stays_in run.events) (stays_in (run.events ++ event ∷ [])) more at positive (omega arith) one_elsewhere one_here ∙ ap (λ patches. weight (all_stays model first run.events) + sum_from more 1 (length patches)) (sym counts.patches)

  pub counts_next : (now : Tally) (at : ℕ) (more mixed_more : ℕ → ℕ) → IsTallied now at more mixed_more → Counts model (plus run event) now
  counts_next now at more mixed_more h =
      record {
        patches = h.patches ∙ counts.patches;
        tasks = counts.tasks;
        calls = let a = length-append run.events (event ∷ []) in omega (arith, a, h.calls, counts.calls);
        stays =
            let all = all_more (λ found. length found) refl (λ xs ys. length-append xs ys) at more h.positive h.within (λ below lt. (h.here below lt).total) (λ below t lt small other. (h.others below t lt small other).total) in
            h.stays ∙ ap (λ n. n + sum_from more 1 (length count.patches)) counts.stays ∙ sym all;
        mixed =
            let all = all_more (count_by is_mixed) refl (λ xs ys. sum_by-append _ xs ys) at mixed_more h.positive h.within (λ below lt. (h.here below lt).total_mixed) (λ below t lt small other. (h.others below t lt small other).total_mixed) in
            h.mixed ∙ ap (λ n. n + sum_from mixed_more 1 (length count.patches)) counts.mixed ∙ sym all;
        present = λ below t lt small.
            let lt_here = subst (λ patches. below < length patches) (sym counts.patches) lt in
            subst (Shows (kept now below t)) (sym (far_more below t)) (
            ⊎_elim
            (λ (same : t ≡ at). subst (λ u. Shows (kept now below u) (far below u ++ sides_at after below u ∷ [])) (sym same) (h.here below lt_here).shows)
            (λ (other : t ≡ at → ⊥). (h.others below t lt_here small other).shows)
            (cases_eq t at)
            );
      }

  -- ---- No stack changes

  pub still_counts : IsStill before after → Counts model (plus run event) count
  still_counts still =
      let same = λ (below t : ℕ). ap (sides count.patches (suc below)) (still t) in
      counts_next count 1 (λ patch. 0) (λ patch. 0) (record {
        patches = refl;
        calls = omega arith;
        positive = omega arith;
        within = omega arith;
        stays = let none = sum_none (λ patch. 0) 1 (length count.patches) (λ k low high. refl) in omega arith;
        mixed = let none = sum_none (λ patch. 0) 1 (length count.patches) (λ k low high. refl) in omega arith;
        here = λ below lt. still_cell below 1 lt (omega arith) (same below 1);
        others = λ below t lt small other. still_cell below t lt small (same below t);
      })

  module _ (wide : length count.present ≡ length count.patches * 65536) (at : ℕ) (positive : 1 ≤ at) (within : at < 65536) where
    roomy : (below : ℕ) → below < length count.patches → below * 65536 + at < length count.present
    roomy below lt = omega arith

    -- ---- A call

    module _ (func : SymId) (level : ℕ) (push : IsPush before after at func level) where
      abbrev called_count : Tally
      called_count = calls (length count.patches) at func.0 level (one_more count)

      has_is : (below : ℕ) → patch_has count.patches (suc below) push.frame.func.0 ≡ patch_has count.patches (suc below) func.0
      has_is below = ap (λ f. patch_has count.patches (suc below) f.0) push.func_is

      kept_here : (below : ℕ) → below < length count.patches → kept called_count below at ≡ call_change at func.0 level (one_more count) below (kept count below at)
      kept_here below lt =
          changed (call_run at func.0 level (one_more count)) at within (call_change at func.0 level (one_more count)) (call_goes at func.0 level (one_more count)) (length count.patches) below lt (subst (λ c. below * 65536 + at < length c.present) (sym (call_start at func.0 level (one_more count))) (roomy below lt)) ∙ ap (λ c. call_change at func.0 level (one_more count) below (kept c below at)) (call_start at func.0 level (one_more count))

      kept_elsewhere : (below t : ℕ) → t < 65536 → t ≢ at → kept called_count below t ≡ kept count below t
      kept_elsewhere below t small other =
          others (call_run at func.0 level (one_more count)) at within (call_change at func.0 level (one_more count)) (call_goes at func.0 level (one_more count)) (length count.patches) below t small other ∙ ap (λ c. kept c below t) (call_start at func.0 level (one_more count))

      few : (below : ℕ) → length (last_of [] (far below at)) < 255
      few below =
          let a = sides_few count.patches (suc below) (frames_at before at) in
          let b = push.room in
          let c : length (last_of [] (far below at)) ≡ length (sides_at before below at) = ap length (far_last below at) in
          omega (arith, a, b, c)

      call_cell : (below : ℕ) → below < length count.patches → IsCell called_count below at (more_in at func.0 level (one_more count) (suc below)) (mixed_in at func.0 level (one_more count) (suc below))
      call_cell below lt =
          let x = kept count below at in
          let side = nat_le (suc below) level in
          ⊎_elim
          (λ (has : patch_has count.patches (suc below) func.0 ≡ true).
          let now_is : sides_at after below at ≡ last_of [] (far below at) ++ side ∷ [] =
          ap (sides count.patches (suc below)) push.here ∙ sides_more count.patches (suc below) (frames_at before at) push.frame (has_is below ∙ has) ∙ ap₂ (λ fs l. fs ++ nat_le (suc below) l ∷ []) (sym (far_last below at)) push.level_is in
          let kept_is : kept called_count below at ≡ called side x = kept_here below lt ∙ cond-true _ _ _ has in
          let more_is : more_in at func.0 level (one_more count) (suc below) ≡ begins x = cond-true _ _ _ has in
          let mixed_is : mixed_in at func.0 level (one_more count) (suc below) ≡ mixes side x = cond-true _ _ _ has in
          let cell = after_called (far below at) x side (shows below at lt within) (few below) in
          subst (λ n. IsCell called_count below at (more_in at func.0 level (one_more count) (suc below)) n) (sym mixed_is) (subst (λ n. IsCell called_count below at n (mixes side x)) (sym more_is) (subst (λ y. IsAfter (far below at) (sides_at after below at) y (begins x) (mixes side x)) (sym kept_is) (subst (λ now. IsAfter (far below at) now (called side x) (begins x) (mixes side x)) (sym now_is) cell))))
          (λ (none : patch_has count.patches (suc below) func.0 ≡ false).
          let same : sides_at after below at ≡ sides_at before below at =
          ap (sides count.patches (suc below)) push.here ∙ sides_same count.patches (suc below) (frames_at before at) push.frame (has_is below ∙ none) in
          let kept_is : kept called_count below at ≡ x = kept_here below lt ∙ cond-false _ _ _ none in
          let more_is : more_in at func.0 level (one_more count) (suc below) ≡ 0 = cond-false _ _ _ none in
          let mixed_is : mixed_in at func.0 level (one_more count) (suc below) ≡ 0 = cond-false _ _ _ none in
          subst (λ n. IsCell called_count below at (more_in at func.0 level (one_more count) (suc below)) n) (sym mixed_is) (subst (λ n. IsCell called_count below at n 0) (sym more_is) (subst (λ y. IsAfter (far below at) (sides_at after below at) y 0 0) (sym kept_is) (still_cell below at lt within same))))
          (cases_Bool (patch_has count.patches (suc below) func.0))

      pub call_counts : Counts model (plus run event) called_count
      call_counts =
          counts_next called_count at (more_in at func.0 level (one_more count)) (mixed_in at func.0 level (one_more count)) (record {
            patches = (call_same at func.0 level (one_more count) (length count.patches)).patches;
            calls = let same = (call_same at func.0 level (one_more count) (length count.patches)).calls in omega (arith, same);
            positive = positive;
            within = within;
            stays = call_stays at func.0 level (one_more count) within (length count.patches);
            mixed = call_mixed at func.0 level (one_more count) within (length count.patches);
            here = call_cell;
            others = λ below t lt small other.
                subst (λ y. IsAfter (far below t) (sides_at after below t) y 0 0) (sym (kept_elsewhere below t small other)) (still_cell below t lt small (ap (sides count.patches (suc below)) (push.others t other)));
          })

    -- ---- A return

    module _ (pop : IsPop before after at) where
      abbrev func_left : ℕ
      func_left = pop.frame.func.0

      abbrev returned_count : Tally
      returned_count = returns (length count.patches) at func_left count

      kept_back : (below : ℕ) → below < length count.patches → kept returned_count below at ≡ return_change at func_left count below (kept count below at)
      kept_back below lt =
          changed (return_run at func_left count) at within (return_change at func_left count) (return_goes at func_left count) (length count.patches) below lt (subst (λ c. below * 65536 + at < length c.present) (sym (return_start at func_left count)) (roomy below lt)) ∙ ap (λ c. return_change at func_left count below (kept c below at)) (return_start at func_left count)

      kept_apart : (below t : ℕ) → t < 65536 → t ≢ at → kept returned_count below t ≡ kept count below t
      kept_apart below t small other =
          others (return_run at func_left count) at within (return_change at func_left count) (return_goes at func_left count) (length count.patches) below t small other ∙ ap (λ c. kept c below t) (return_start at func_left count)

      return_cell : (below : ℕ) → below < length count.patches → IsCell returned_count below at 0 0
      return_cell below lt =
          let x = kept count below at in
          ⊎_elim
          (λ (has : patch_has count.patches (suc below) func_left ≡ true).
          let was : last_of [] (far below at) ≡ sides_at after below at ++ nat_le (suc below) pop.frame.level.0 ∷ [] =
          far_last below at ∙ ap (sides count.patches (suc below)) pop.here ∙ sides_more count.patches (suc below) (frames_at after at) pop.frame has in
          let kept_is : kept returned_count below at ≡ returned x = kept_back below lt ∙ cond-true _ _ _ has in
          subst (λ y. IsAfter (far below at) (sides_at after below at) y 0 0) (sym kept_is) (after_returned (far below at) x (sides_at after below at) (nat_le (suc below) pop.frame.level.0) (shows below at lt within) was))
          (λ (none : patch_has count.patches (suc below) func_left ≡ false).
          let same : sides_at before below at ≡ sides_at after below at =
          ap (sides count.patches (suc below)) pop.here ∙ sides_same count.patches (suc below) (frames_at after at) pop.frame none in
          let kept_is : kept returned_count below at ≡ x = kept_back below lt ∙ cond-false _ _ _ none in
          subst (λ y. IsAfter (far below at) (sides_at after below at) y 0 0) (sym kept_is) (still_cell below at lt within (sym same)))
          (cases_Bool (patch_has count.patches (suc below) func_left))

      pub return_counts : Counts model (plus run event) returned_count
      return_counts =
          let same = return_same at func_left count (length count.patches) in
          let none = sum_none (λ patch. 0) 1 (length count.patches) (λ k low high. refl) in
          counts_next returned_count at (λ patch. 0) (λ patch. 0) (record {
            patches = same.patches;
            calls = omega (arith, same.calls);
            positive = positive;
            within = within;
            stays = let e : returned_count.stays ≡ count.stays = same.stays in omega (arith, e, none);
            mixed = let e : returned_count.mixed ≡ count.mixed = same.mixed in omega (arith, e, none);
            here = return_cell;
            others = λ below t lt small other.
                subst (λ y. IsAfter (far below t) (sides_at after below t) y 0 0) (sym (kept_apart below t small other)) (still_cell below t lt small (ap (sides count.patches (suc below)) (pop.others t other)));
          })
