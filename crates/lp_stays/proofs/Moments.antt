-- The moments of a run that steps by one event.
use Rattle.std.proofs.Common.{◌≡◌, ℕ, ◌≤◌, Bool, true, false, List, [], ◌∷◌, ◌++◌, length, map, filter, nat_le, refl, ap, ◌∙◌, arith}
use Rattle.std.proofs.lemmas.Bool.{cond_both, cond-true, cond-false}
use Rattle.std.proofs.lemmas.List.{append-nil, map-append, length-map}
use Rattle.std.proofs.lemmas.List.Elements.{filter-append}
use Rattle.std.proofs.lemmas.List.Sums.{length-filter, count_by-le-length}
use Rattle.lp_stack.specs.declared.frame.Frame.{Frame}
use Rattle.lp_patch.specs.Patches.{Patches, patch_has}
use Rattle.lp_model.specs.Rules.{Rules, IsLawful}
use Rattle.lp_definitions.specs.declared.event.Event.{Event}
use Rattle.lp_definitions.specs.Leg.{Leg}
use Rattle.lp_definitions.specs.Run.{and_then, opened, opens, next_leg, leg_after}
use Rattle.lp_definitions.specs.Stays.{sides, stack, moments}
use Rattle.lp_laws.proofs.WholeRun.{next_patches}
use Rattle.lp_stays.specs.Counts.{last_of}

module _ (model : Rules) where
  -- the patches and the bounds stay
  pub run_patches : IsLawful model → (leg : Leg) (events : List Event) → (leg_after model leg events).patches ≡ leg.patches
  unfolding leg_after
  run_patches lawful leg [] = refl
  run_patches lawful leg (event ∷ events) = run_patches lawful (next_leg model leg event) events ∙ next_patches model lawful leg event

  next_bounds : (leg : Leg) (event : Event) → (next_leg model leg event).bounds ≡ leg.bounds
  unfolding next_leg
  next_bounds leg event = cond_both (opens model leg event) (opened model leg event) (and_then leg event) (λ l. l.bounds ≡ leg.bounds) (λ e. refl) (λ e. refl)

  pub run_bounds : (leg : Leg) (events : List Event) → (leg_after model leg events).bounds ≡ leg.bounds
  unfolding leg_after
  run_bounds leg [] = refl
  run_bounds leg (event ∷ events) = run_bounds (next_leg model leg event) events ∙ next_bounds leg event

  module _ (patch t : ℕ) where
    -- the sides at a leg's last moment
    abbrev pub sides_in : Leg → List Bool
    sides_in leg = sides leg.patches patch (stack model leg t)

    -- a further event is a further moment
    pub moments_more : (leg : Leg) (events : List Event) (event : Event) → moments model patch t leg (events ++ event ∷ []) ≡ moments model patch t leg events ++ sides_in (leg_after model leg (events ++ event ∷ [])) ∷ []
    unfolding moments leg_after
    moments_more leg [] event = refl
    moments_more leg (first ∷ events) event = ap (λ ms. sides_in leg ∷ ms) (moments_more (next_leg model leg first) events event)

    last_moment : (other : List Bool) (leg : Leg) (events : List Event) → last_of other (moments model patch t leg events) ≡ sides_in (leg_after model leg events)
    unfolding moments leg_after
    last_moment other leg [] = refl
    last_moment other leg (event ∷ events) = last_moment (sides_in leg) (next_leg model leg event) events

    pub moments_last : (leg : Leg) (events : List Event) → last_of [] (moments model patch t leg events) ≡ sides_in (leg_after model leg events)
    moments_last leg events = last_moment [] leg events

-- ---- The sides of one frame more

module _ (patches : Patches) (patch : ℕ) (frames : List Frame) (frame : Frame) where
  sides_push : sides patches patch (frames ++ frame ∷ []) ≡ sides patches patch frames ++ sides patches patch (frame ∷ [])
  sides_push =
      ap (map (λ f. nat_le patch f.level.0)) (filter-append (λ f. patch_has patches patch f.func.0) frames (frame ∷ [])) ∙ map-append (λ f. nat_le patch f.level.0) (filter (λ f. patch_has patches patch f.func.0) frames) (filter (λ f. patch_has patches patch f.func.0) (frame ∷ []))

  pub sides_more : patch_has patches patch frame.func.0 ≡ true → sides patches patch (frames ++ frame ∷ []) ≡ sides patches patch frames ++ nat_le patch frame.level.0 ∷ []
  sides_more has =
      let one : filter (λ f. patch_has patches patch f.func.0) (frame ∷ []) ≡ frame ∷ [] = cond-true _ _ _ has in
      sides_push ∙ ap (λ fs. sides patches patch frames ++ map (λ f. nat_le patch f.level.0) fs) one

  pub sides_same : patch_has patches patch frame.func.0 ≡ false → sides patches patch (frames ++ frame ∷ []) ≡ sides patches patch frames
  sides_same none =
      let no_frame : filter (λ f. patch_has patches patch f.func.0) (frame ∷ []) ≡ [] = cond-false _ _ _ none in
      sides_push ∙ ap (λ fs. sides patches patch frames ++ map (λ f. nat_le patch f.level.0) fs) no_frame ∙ append-nil (sides patches patch frames)

-- there are no more sides than frames
pub sides_few : (patches : Patches) (patch : ℕ) (frames : List Frame) → length (sides patches patch frames) ≤ length frames
sides_few patches patch frames =
    let a = length-map (filter (λ f. patch_has patches patch f.func.0) frames) (λ f. nat_le patch f.level.0) in
    let b = length-filter (λ f. patch_has patches patch f.func.0) frames in
    let c = count_by-le-length (λ f. patch_has patches patch f.func.0) frames in
    omega (arith, a, b, c)
