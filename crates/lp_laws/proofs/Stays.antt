-- Under a whole-call model no stay mixes the sides of a patch.
use Rattle.std.proofs.Common.{◌≡◌, ℕ, zero, suc, ◌<◌, ◌≤◌, Bool, true, false, List, [], ◌∷◌, ◌++◌, length, take, map, filter, All, Contains, IsTrue, nat_le, refl, sym, ap, ◌∙◌, subst, ⊎_elim, arith, length-append}
use Rattle.std.proofs.lemmas.Bool.{cases_lt, cases_eq, le-leb, lt-leb, cond_both}
use Rattle.std.proofs.lemmas.List.Elements.{All-map, All-filter, All-weaker, All-take, All-contains, All-contains_itself, All-head, All-nil, filter_passes, Contains-append_left}
use Rattle.lp_stack.specs.declared.frame.Frame.{Frame}
use Rattle.lp_patch.specs.Patches.{Patches, patch_has, version}
use Rattle.lp_model.specs.Rules.{Rules, IsLawful}
use Rattle.lp_definitions.specs.declared.event.Event.{Event}
use Rattle.lp_definitions.specs.Tasks.{Life, Fate, Unused, Live, Dead, on_live, map_live}
use Rattle.lp_definitions.specs.Leg.{LegTask, Leg, begin, tasks_after, accepted, after}
use Rattle.lp_definitions.specs.Schedule.{Schedule, leg_task, shown_after, first_checks, first_check}
use Rattle.lp_definitions.specs.Sound.{IsSound, RunsOneVersion}
use Rattle.lp_definitions.specs.Run.{and_then, shown, opened, opens, next_leg}
use Rattle.lp_definitions.specs.Stays.{sides, stack, moments, stays, is_mixed}
use Rattle.lp_laws.proofs.NextTasks.{IsMadeBefore, made_later, from_later, changed, Came, Stayed, Born, came, come_from, made_before}
use Rattle.lp_laws.proofs.First.{Agree, agree_next, agree_back, view_agrees}
use Rattle.lp_laws.proofs.OneVersion.{frames_of, frames_kept, made, frames_changed}
use Rattle.lp_laws.proofs.Prefix.{after_same, first_checks_same}
use Rattle.lp_laws.proofs.WholeRun.{next_sound, next_one_version, now_one_version, next_patches}
use Rattle.lp_laws.proofs.StayLists.{Are, MeetsNext, Linked, stays_pure, all_unmixed}

-- ---- One version is one side

version_within : (patches : Patches) (func l : ℕ) → version patches func l ≤ l
unfolding version
version_within patches func zero = omega arith
version_within patches func (suc l) =
    cond_both (patch_has patches (suc l) func) (suc l) (version patches func l) (λ v. v ≤ suc l) (λ e. omega arith) (λ e. let h = version_within patches func l in omega arith)

version_least : (patches : Patches) (func patch l : ℕ) → patch_has patches patch func ≡ true → patch ≤ l → patch ≤ version patches func l
unfolding version
version_least patches func patch zero has le = le
version_least patches func patch (suc l) has le =
    cond_both (patch_has patches (suc l) func) (suc l) (version patches func l) (λ v. patch ≤ v) (λ e. le) (λ e.
    ⊎_elim (λ (same : patch ≡ suc l). let has_it = subst (λ n. patch_has patches n func ≡ true) same has in absurd (cc)) (λ (ne : patch ≡ suc l → ⊥). version_least patches func patch l has (omega (arith, ne))) (cases_eq patch (suc l)))

side_of_version : (patches : Patches) (func patch l : ℕ) → patch_has patches patch func ≡ true → nat_le patch l ≡ nat_le patch (version patches func l)
side_of_version patches func patch l has =
    ⊎_elim
    (λ (lt : l < patch). let w = version_within patches func l in lt-leb patch l lt ∙ sym (lt-leb patch (version patches func l) (omega arith)))
    (λ (le : patch ≤ l). le-leb patch l le ∙ sym (le-leb patch (version patches func l) (version_least patches func patch l has le)))
    (cases_lt l patch)

-- ---- A stack's calls of the patch

module _ (patches : Patches) (patch : ℕ) where
  -- the calls of the patch's functions are on this side
  abbrev pub OnSide : Bool → List Frame → Type 0
  OnSide b frames = All (λ f. patch_has patches patch f.func.0 ≡ true → nat_le patch f.level.0 ≡ b) frames

  pub record HasCall (frames : List Frame) : Type 0 where
    pub frame : Frame
    pub there : Contains frames frame
    pub has : patch_has patches patch frame.func.0 ≡ true

  one_side_from : (l : ℕ) (frames : List Frame) → All (λ f. version patches f.func.0 f.level.0 ≡ version patches f.func.0 l) frames → OnSide (nat_le patch l) frames
  one_side_from l frames h =
      All-weaker (λ f. version patches f.func.0 f.level.0 ≡ version patches f.func.0 l) (λ f. patch_has patches patch f.func.0 ≡ true → nat_le patch f.level.0 ≡ nat_le patch l) (λ f one has. side_of_version patches f.func.0 patch f.level.0 has ∙ (ap (nat_le patch) one ∙ sym (side_of_version patches f.func.0 patch l has))) frames h

  side_at : (b : Bool) (frames : List Frame) → OnSide b frames → (c : HasCall frames) → nat_le patch c.frame.level.0 ≡ b
  side_at b frames h c = All-contains (λ f. patch_has patches patch f.func.0 ≡ true → nat_le patch f.level.0 ≡ b) frames c.frame h c.there c.has

  are_sides : (b : Bool) (frames : List Frame) → OnSide b frames → Are b (sides patches patch frames)
  are_sides b frames h =
      All-map (λ s. s ≡ b) (λ f. nat_le patch f.level.0) (filter (λ f. patch_has patches patch f.func.0) frames) (λ k d lt. (All-filter (λ f. patch_has patches patch f.func.0) (λ f. patch_has patches patch f.func.0 ≡ true → nat_le patch f.level.0 ≡ b) frames h) k d lt ((filter_passes (λ f. patch_has patches patch f.func.0) frames) k d lt))

  first_call : (frames found : List Frame) (s : Bool) (rest : List Bool) → All (Contains frames) found → All (λ f. patch_has patches patch f.func.0 ≡ true) found → map (λ f. nat_le patch f.level.0) found ≡ s ∷ rest → HasCall frames
  first_call frames [] s rest there has e = absurd (cc)
  first_call frames (f ∷ found) s rest there has e = record { frame = f; there = All-head (Contains frames) f found there; has = All-head (λ f. patch_has patches patch f.func.0 ≡ true) f found has }

  call_from : (frames : List Frame) (s : Bool) (rest : List Bool) → sides patches patch frames ≡ s ∷ rest → HasCall frames
  call_from frames s rest e =
      first_call frames (filter (λ f. patch_has patches patch f.func.0) frames) s rest (All-filter (λ f. patch_has patches patch f.func.0) (Contains frames) frames (All-contains_itself frames)) (filter_passes (λ f. patch_has patches patch f.func.0) frames) e

  no_call : HasCall [] → ⊥
  no_call c = let lt : c.there.0 < length {A = Frame} [] = c.there.1 in omega arith

  -- two stacks with a call in common have one side
  abbrev pub SameSide : List Frame → List Frame → Type 0
  SameSide before now = (b c : Bool) → OnSide b before → OnSide c now → HasCall before → HasCall now → b ≡ c

  same_same : (frames : List Frame) → SameSide frames frames
  same_same frames b c on_b on_c call call' = sym (side_at b frames on_b call) ∙ side_at c frames on_c call

  same_more : (frames : List Frame) (f : Frame) → SameSide frames (frames ++ f ∷ [])
  same_more frames f b c on_b on_c call call' =
      sym (side_at b frames on_b call) ∙ side_at c (frames ++ f ∷ []) on_c (record { frame = call.frame; there = Contains-append_left frames (f ∷ []) call.frame call.there; has = call.has })

  same_fewer : (n : ℕ) (frames : List Frame) → SameSide frames (take n frames)
  same_fewer n frames b c on_b on_c call call' =
      sym (side_at b (take n frames) (All-take (λ f. patch_has patches patch f.func.0 ≡ true → nat_le patch f.level.0 ≡ b) n frames on_b) call') ∙ side_at c (take n frames) on_c call'

  same_none : (frames : List Frame) → SameSide frames []
  same_none frames b c on_b on_c call call' = absurd (no_call call')

-- ---- One event changes a stack at its end alone

kept_stack : (leg : Leg) (s : Schedule) (f : Fate LegTask) → on_live [] (λ x. x.frames) (map_live (leg_task leg s zero) (map_live begin f)) ≡ on_live [] (λ x. x.frames) f
kept_stack leg s Unused = refl
kept_stack leg s (Live x) = frames_kept leg x.frames s (begin x)
kept_stack leg s Dead = refl

module _ (model : Rules) (leg : Leg) (event : Event) (t : ℕ) where
  stack_opened : stack model (opened model leg event) t ≡ stack model leg t
  unfolding shown tasks_after
  stack_opened = kept_stack (opened model leg event) (first_check model (opened model leg event)) (shown model leg t)

  abbrev longer : Leg
  longer = and_then leg event

  abbrev n : ℕ
  n = length leg.events

  abbrev frames_if : Leg → Schedule → Fate Life → List Frame
  frames_if l s f = on_live [] (λ x. frames_of l s x) f

  shown_frames : (l : Leg) (s : Schedule) (k : ℕ) (f : Fate Life) → on_live [] (λ x. x.frames) (map_live (leg_task l s k) f) ≡ frames_if l s f
  shown_frames l s k Unused = refl
  shown_frames l s k (Live x) = refl
  shown_frames l s k Dead = refl

  stack_before : stack model leg t ≡ frames_if leg (first_checks model leg n) (after model leg n t)
  unfolding shown
  stack_before = shown_frames leg (first_checks model leg n) n (after model leg n t)

  stack_after : stack model longer t ≡ frames_if longer (first_checks model longer (suc n)) (after model longer (suc n) t)
  unfolding shown
  stack_after =
      let len : length longer.events ≡ suc n = omega (arith, length-append leg.events (event ∷ [])) in
      ap (λ m. on_live [] (λ x. x.frames) (shown_after model longer (first_checks model longer m) m t)) len ∙ shown_frames longer (first_checks model longer (suc n)) (suc n) (after model longer (suc n) t)

  frames_same : (y : Life) → after model leg n t ≡ Live y → frames_of longer (first_checks model longer (suc n)) y ≡ frames_of leg (first_checks model leg n) y
  frames_same y live =
      let live_longer : after model longer n t ≡ Live y = ap (λ now. now t) (after_same model leg event n (omega arith)) ∙ live in
      let agree = subst (λ s. Agree n (first_checks model longer (suc n)) s) (first_checks_same model leg event n (omega arith)) (agree_back n (first_checks model longer n) (first_checks model longer (suc n)) (agree_next model longer n)) in
      let from = from_later n (suc n) (omega arith) y.origin (come_from model.child_group longer n t y live_longer) in
      let calls = All-weaker (IsMadeBefore n) (IsMadeBefore (suc n)) (made_later n (suc n) (omega arith)) y.calls (made_before model.child_group longer n t y live_longer) in
      ap (λ v. v.frames) (view_agrees longer n t (first_checks model longer (suc n)) (first_checks model leg n) y agree from calls)

  module _ (patches : Patches) (patch : ℕ) where
    abbrev Same : List Frame → Type 0
    Same now = SameSide patches patch (stack model leg t) now

    from_came : (x : Life) → Came model.child_group longer.bounds n (after model longer n) (accepted model longer n) t x → Same (frames_of longer (first_checks model longer (suc n)) x)
    from_came x (Stayed y c live is) =
        let was : after model leg n t ≡ Live y = ap (λ now. now t) (sym (after_same model leg event n (omega arith))) ∙ live in
        let before : stack model leg t ≡ frames_of leg (first_checks model leg n) y = stack_before ∙ ap (frames_if leg (first_checks model leg n)) was in
        let same = frames_same y was in
        let base : stack model leg t ≡ frames_of longer (first_checks model longer (suc n)) y = before ∙ sym same in
        subst (λ z. Same (frames_of longer (first_checks model longer (suc n)) z)) (sym is) (subst (λ fs. SameSide patches patch fs (frames_of longer (first_checks model longer (suc n)) (changed n c y))) (sym base) (frames_changed longer (first_checks model longer (suc n)) (SameSide patches patch (frames_of longer (first_checks model longer (suc n)) y)) n c y (same_same patches patch (frames_of longer (first_checks model longer (suc n)) y)) (λ func. same_more patches patch (frames_of longer (first_checks model longer (suc n)) y) (made longer (first_checks model longer (suc n)) n y func)) (λ m. same_fewer patches patch m (frames_of longer (first_checks model longer (suc n)) y))))
    from_came x (Born p how y event live unused positive within is) =
        subst (λ z. Same (frames_of longer (first_checks model longer (suc n)) z)) (sym is) (same_none patches patch (stack model leg t))

    from_fate : (f : Fate Life) → after model longer (suc n) t ≡ f → Same (frames_if longer (first_checks model longer (suc n)) f)
    from_fate Unused e = same_none patches patch (stack model leg t)
    from_fate (Live x) e = from_came x (came model.child_group longer n t x e)
    from_fate Dead e = same_none patches patch (stack model leg t)

    stack_next : Same (stack model (next_leg model leg event) t)
    unfolding next_leg
    stack_next =
        cond_both (opens model leg event) (opened model leg event) (and_then leg event) (λ l. Same (stack model l t))
        (λ e. subst Same (sym stack_opened) (same_same patches patch (stack model leg t)))
        (λ e. subst Same (sym stack_after) (from_fate (after model longer (suc n) t) refl))

-- ---- Over a whole run

meets : (b : Bool) (now next : List Bool) (after : List (List Bool)) → ((s m : Bool) (rest more : List Bool) → now ≡ s ∷ rest → next ≡ m ∷ more → m ≡ b) → MeetsNext b now (next ∷ after)
meets b [] next after h = tt
meets b (s ∷ now) [] after h = tt
meets b (s ∷ now) (m ∷ next) after h = h s m now next refl refl

module _ (model : Rules) (lawful : IsLawful model) (whole : IsTrue model.whole_call) (patch t : ℕ) where
  -- the side of a task's calls
  side_if : (leg : Leg) (sound : IsSound leg.opening) (one : RunsOneVersion leg.opening) (f : Fate LegTask) → shown model leg t ≡ f → (b : Bool) × OnSide leg.patches patch b (on_live [] (λ x. x.frames) f)
  side_if leg sound one Unused e = (true, All-nil (λ f. patch_has leg.patches patch f.func.0 ≡ true → nat_le patch f.level.0 ≡ true))
  side_if leg sound one (Live x) e = (nat_le patch x.level, one_side_from leg.patches patch x.level x.frames (now_one_version model lawful leg sound whole one t x e))
  side_if leg sound one Dead e = (true, All-nil (λ f. patch_has leg.patches patch f.func.0 ≡ true → nat_le patch f.level.0 ≡ true))

  side_now : (leg : Leg) → IsSound leg.opening → RunsOneVersion leg.opening → (b : Bool) × OnSide leg.patches patch b (stack model leg t)
  side_now leg sound one = side_if leg sound one (shown model leg t) refl

  first_moment : (leg : Leg) (events : List Event) → (rest : List (List Bool)) × (moments model patch t leg events ≡ sides leg.patches patch (stack model leg t) ∷ rest)
  unfolding moments
  first_moment leg [] = ([], refl)
  first_moment leg (event ∷ events) = (moments model patch t (next_leg model leg event) events, refl)

  -- the next moment is on the same side
  next_side : (leg : Leg) (event : Event) (sound : IsSound leg.opening) (one : RunsOneVersion leg.opening) (s m : Bool) (rest more : List Bool) → sides leg.patches patch (stack model leg t) ≡ s ∷ rest → sides (next_leg model leg event).patches patch (stack model (next_leg model leg event) t) ≡ m ∷ more → m ≡ (side_now leg sound one).0
  next_side leg event sound one s m rest more e e' =
      let later = next_leg model leg event in
      let same = next_patches model lawful leg event in
      let now = side_now leg sound one in
      let ahead = side_now later (next_sound model lawful leg event sound) (next_one_version model lawful leg event sound whole one) in
      let on_ahead : OnSide leg.patches patch ahead.0 (stack model later t) = subst (λ ps. OnSide ps patch ahead.0 (stack model later t)) same ahead.1 in
      let call = call_from leg.patches patch (stack model leg t) s rest e in
      let e_ahead : sides leg.patches patch (stack model later t) ≡ m ∷ more = ap (λ ps. sides ps patch (stack model later t)) (sym same) ∙ e' in
      let call_ahead = call_from leg.patches patch (stack model later t) m more e_ahead in
      let head : m ≡ ahead.0 = All-head (λ x. x ≡ ahead.0) m more (subst (Are ahead.0) e_ahead (are_sides leg.patches patch ahead.0 (stack model later t) on_ahead)) in
      head ∙ sym (stack_next model leg event t leg.patches patch now.0 ahead.0 now.1 on_ahead call call_ahead)

  linked : (leg : Leg) (events : List Event) → IsSound leg.opening → RunsOneVersion leg.opening → Linked (moments model patch t leg events)
  unfolding moments
  linked leg [] sound one = let now = side_now leg sound one in ((now.0, are_sides leg.patches patch now.0 (stack model leg t) now.1, tt), tt)
  linked leg (event ∷ events) sound one =
      let now = side_now leg sound one in
      let later = first_moment (next_leg model leg event) events in
      ((now.0, are_sides leg.patches patch now.0 (stack model leg t) now.1, subst (MeetsNext now.0 (sides leg.patches patch (stack model leg t))) (sym later.1) (meets now.0 (sides leg.patches patch (stack model leg t)) (sides (next_leg model leg event).patches patch (stack model (next_leg model leg event) t)) later.0 (next_side leg event sound one))), linked (next_leg model leg event) events (next_sound model lawful leg event sound) (next_one_version model lawful leg event sound whole one))

  pub none_mixed : (leg : Leg) (events : List Event) → IsSound leg.opening → RunsOneVersion leg.opening → All (λ stay. is_mixed stay ≡ false) (stays (moments model patch t leg events))
  none_mixed leg events sound one = all_unmixed (stays (moments model patch t leg events)) (stays_pure (moments model patch t leg events) (linked leg events sound one)).0
