-- How many stays a run can have.
use Rattle.std.proofs.Common.{◌≡◌, ℕ, suc, ◌*◌, ◌≤◌, Bool, List, [], ◌∷◌, length, flat_map, refl, arith, length-append, subst}
use Rattle.std.specs.List.{range_with_len}
use Rattle.std.proofs.lemmas.Nat.{mul-le}
use Rattle.std.proofs.lemmas.List.Sums.{count_by-le-length}
use Rattle.std.proofs.lemmas.List.FromFn.{length-range_with_len}
use Rattle.lp_model.specs.Rules.{Rules}
use Rattle.lp_definitions.specs.declared.event.Event.{Event}
use Rattle.lp_definitions.specs.Leg.{Leg}
use Rattle.lp_definitions.specs.Run.{next_leg}
use Rattle.lp_definitions.specs.Stays.{all_stays, before_stays, is_mixed, mixed_count, moments, stay_count, stays}

flat_map_few : {A B : Type 0} (f : A → List B) (n : ℕ) (xs : List A) → ((x : A) → length (f x) ≤ n) → length (flat_map f xs) ≤ length xs * n
flat_map_few f n [] each = omega arith
flat_map_few f n (x ∷ xs) each = omega (arith, length-append (f x) (flat_map f xs), each x, flat_map_few f n xs each)

-- no more stays than moments
one_moment : (now : List Bool) (after : List (List Bool)) (rest : List (List Bool)) → length rest ≤ length after → length (before_stays now after rest) ≤ suc (length after)
one_moment [] after rest h = omega arith
one_moment (side ∷ now) [] rest h = omega arith
one_moment (side ∷ now) ([] ∷ after) rest h = omega arith
one_moment (side ∷ now) ((next ∷ sides) ∷ after) [] h = omega arith
one_moment (side ∷ now) ((next ∷ sides) ∷ after) (stay ∷ rest) h = omega arith

stays_few : (moments : List (List Bool)) → length (stays moments) ≤ length moments
unfolding stays
stays_few [] = omega arith
stays_few (now ∷ after) = one_moment now after (stays after) (stays_few after)

module _ (model : Rules) (patch t : ℕ) where
  moments_count : (leg : Leg) (events : List Event) → length (moments model patch t leg events) ≡ suc (length events)
  unfolding moments
  moments_count leg [] = refl
  moments_count leg (event ∷ events) = let more = moments_count (next_leg model leg event) events in omega arith

module _ (model : Rules) (leg : Leg) (events : List Event) where
  of_patch : (t patch : ℕ) → length (stays (moments model patch t leg events)) ≤ suc (length events)
  of_patch t patch = omega (arith, stays_few (moments model patch t leg events), moments_count model patch t leg events)

  of_task : (t : ℕ) → length (flat_map (λ patch. stays (moments model patch t leg events)) (range_with_len 1 (length leg.patches))) ≤ length leg.patches * suc (length events)
  of_task t =
      subst (λ n. length (flat_map (λ patch. stays (moments model patch t leg events)) (range_with_len 1 (length leg.patches))) ≤ n * suc (length events)) (length-range_with_len 1 (length leg.patches)) (flat_map_few (λ patch. stays (moments model patch t leg events)) (suc (length events)) (range_with_len 1 (length leg.patches)) (of_patch t))

  pub stays_up_to : stay_count model leg events ≤ leg.bounds.tasks * (length leg.patches * suc (length events))
  unfolding all_stays
  stays_up_to =
      let all = λ (t : ℕ). flat_map (λ patch. stays (moments model patch t leg events)) (range_with_len 1 (length leg.patches)) in
      subst (λ n. length (flat_map all (range_with_len 1 leg.bounds.tasks)) ≤ n * (length leg.patches * suc (length events))) (length-range_with_len 1 leg.bounds.tasks) (flat_map_few all (length leg.patches * suc (length events)) (range_with_len 1 leg.bounds.tasks) of_task)

  pub mixed_up_to : mixed_count model leg events ≤ stay_count model leg events
  mixed_up_to = count_by-le-length is_mixed (all_stays model leg events)

  -- few enough, where there are few patches and events
  module _ (tasks : leg.bounds.tasks ≤ 65535) (patches : length leg.patches ≤ 16) (short : length events ≤ 1000000) where
    pub stays_whole : stay_count model leg events ≤ 65535 * (16 * 1000001)
    stays_whole =
        let a = mul-le leg.bounds.tasks (length leg.patches * suc (length events)) 65535 (16 * 1000001) tasks (mul-le (length leg.patches) (suc (length events)) 16 1000001 patches (omega arith)) in
        omega (arith, stays_up_to, a)
