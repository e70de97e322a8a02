-- The tasks after any events of a leg make a sound opening again.
use Rattle.std.proofs.Common.{◌≡◌, ◌≢◌, ℕ, zero, suc, ◌+◌, ◌<◌, ◌≤◌, min, true, false, List, length, take, All, IsTrue, get_or, refl, sym, ap, ◌∙◌, subst, ⊎_elim, inl, inr, arith}
use Rattle.std.proofs.lemmas.Bool.{cases_Bool}
use Rattle.std.proofs.lemmas.List.{get_or-take, length-take}
use Rattle.std.proofs.lemmas.List.Elements.{All-nil, All-push, All-take, All-weaker}
use Rattle.std.proofs.lemmas.List.Quantifiers.{all_pairs_push}
use Rattle.lp_stack.specs.declared.frame.Frame.{Frame}
use Rattle.lp_patch.specs.Patches.{Aim, version}
use Rattle.lp_model.specs.Rules.{Rules, SerialsRise, IsLawful}
use Rattle.lp_definitions.specs.Tasks.{Life, Fate, Unused, Live, Dead, map_live}
use Rattle.lp_definitions.specs.Leg.{State, Leg, begin, after}
use Rattle.lp_definitions.specs.Schedule.{Schedule, has_come, level, leg_task, shown_after, IsLegal}
use Rattle.lp_definitions.specs.Sound.{IsSound, RunsOneVersion}
use Rattle.lp_laws.proofs.NextTasks.{each_life, opens, numbered, grouped, no_member}
use Rattle.lp_laws.proofs.Waiting.{level_before, level_gone, level_still, still_before, Descends, FromMember, FromParent, descends, only_child}
use Rattle.lp_laws.proofs.OneVersion.{frames_of, frames_kept, made, frames_changed, one_version}

SerialsRise-take : (n : ℕ) (frames : List Frame) → SerialsRise frames → SerialsRise (take n frames)
SerialsRise-take n frames h i j d lt within =
    let long : j < min n (length frames) = subst (λ l. j < l) (length-take n frames) within in
    let below_j : j < n = omega arith in
    let below_i : i < n = omega arith in
    subst (λ f. f.serial < (get_or (take n frames) j d).serial) (sym (get_or-take n frames i d below_i)) (subst (λ f. (get_or frames i d).serial < f.serial) (sym (get_or-take n frames j d below_j)) (h i j d lt (omega arith)))

shows : {A B : Type 0} (f : A → B) (fate : Fate A) (y : B) → map_live f fate ≡ Live y → (x : A) × (fate ≡ Live x) × (y ≡ f x)
shows f Unused y e = absurd (cc)
shows f (Live x) y e = (x, refl, cc)
shows f Dead y e = absurd (cc)

shows_unused : {A B : Type 0} (f : A → B) (fate : Fate A) → map_live f fate ≡ Unused → fate ≡ Unused
shows_unused f Unused e = refl
shows_unused f (Live x) e = absurd (cc)
shows_unused f Dead e = absurd (cc)

module _ (model : Rules) (leg : Leg) (lawful : IsLawful model) (sound : IsSound leg.opening) (schedule : Schedule) (is_legal : IsLegal model leg schedule) where
  -- members of one group come from one level, as long as it hasn't switched
  pair : (k group t u : ℕ) (x y : Life) → has_come (schedule group) k ≡ false → ((t2 u2 : ℕ) (x2 y2 : Life) → after model leg k t2 ≡ Live x2 → after model leg k u2 ≡ Live y2 → x2.group ≡ group → y2.group ≡ group → level_before leg.target schedule x2.origin ≡ level_before leg.target schedule y2.origin) → after model leg (suc k) t ≡ Live x → after model leg (suc k) u ≡ Live y → y.group ≡ group → Descends model leg k group t x → Descends model leg k group u y → level_before leg.target schedule x.origin ≡ level_before leg.target schedule y.origin
  pair k group t u x y still before live_x live_y in_y (FromMember t2 x2 was is same) (FromMember u2 y2 was2 is2 same2) =
      same schedule still ∙ (before t2 u2 x2 y2 was was2 is is2 ∙ sym (same2 schedule still))
  pair k group t u x y still before live_x live_y in_y (FromMember t2 x2 was is same) (FromParent p how y2 event was2 origin own is2 unused positive) =
      absurd (no_member model.child_group leg sound lawful.child k k u t2 x2 (omega arith) unused positive was (is ∙ sym is2))
  pair k group t u x y still before live_x live_y in_y (FromParent p how x2 event was origin own is unused positive) (FromMember u2 y2 was2 is2 same2) =
      absurd (no_member model.child_group leg sound lawful.child k k t u2 y2 (omega arith) unused positive was2 (is2 ∙ sym is))
  pair k group t u x y still before live_x live_y in_y (FromParent p how x2 event was origin own is unused positive) (FromParent q how2 y2 event2 was2 origin2 own2 is2 unused2 positive2) =
      ap (λ z. level_before leg.target schedule z.origin) (only_child model leg lawful sound k t x unused positive live_x u y live_y (in_y ∙ sym is))

  one_before : (k group t u : ℕ) (x y : Life) → has_come (schedule group) k ≡ false → after model leg k t ≡ Live x → after model leg k u ≡ Live y → x.group ≡ group → y.group ≡ group → level_before leg.target schedule x.origin ≡ level_before leg.target schedule y.origin
  one_before zero group t u x y still live_x live_y in_x in_y =
      let a = opens model.child_group leg t x live_x in
      let b = opens model.child_group leg u y live_y in
      let same : a.0.group ≡ b.0.group = sym (ap (λ z. z.group) a.2) ∙ (in_x ∙ (sym in_y ∙ ap (λ z. z.group) b.2)) in
      ap (λ z. level_before leg.target schedule z.origin) a.2 ∙ (sound.one_side t u a.0 b.0 a.1 b.1 same ∙ sym (ap (λ z. level_before leg.target schedule z.origin) b.2))
  one_before (suc k) group t u x y still live_x live_y in_x in_y =
      let still_k = still_before (schedule group) k (suc k) (omega arith) still in
      pair k group t u x y still_k (λ t2 u2 x2 y2 was was2 is is2. one_before k group t2 u2 x2 y2 still_k was was2 is is2) live_x live_y in_y (descends model leg lawful k group t x live_x in_x) (descends model leg lawful k group u y live_y in_y)

  pub one_level : (k t u : ℕ) (x y : Life) → after model leg k t ≡ Live x → after model leg k u ≡ Live y → x.group ≡ y.group → level leg schedule k x ≡ level leg schedule k y
  one_level k t u x y live_x live_y same =
      ⊎_elim
      (λ (gone : has_come (schedule y.group) k ≡ true). level_gone leg.target schedule k x.group x.origin (subst (λ g. has_come (schedule g) k ≡ true) (sym same) gone) ∙ sym (level_gone leg.target schedule k y.group y.origin gone))
      (λ (still : has_come (schedule y.group) k ≡ false). level_still leg.target schedule k x.group x.origin (subst (λ g. has_come (schedule g) k ≡ false) (sym same) still) ∙ (one_before k y.group t u x y still live_x live_y same refl ∙ sym (level_still leg.target schedule k y.group y.origin still)))
      (cases_Bool (has_come (schedule y.group) k))

  -- serials rise, and none is past the events
  abbrev pub Rising : ℕ → List Frame → Type 0
  Rising k frames = SerialsRise frames × All (λ frame. frame.serial ≤ leg.number + k) frames

  later : (k : ℕ) (frames : List Frame) → All (λ frame. frame.serial ≤ leg.number + k) frames → All (λ frame. frame.serial ≤ leg.number + suc k) frames
  later k frames h = All-weaker (λ frame. frame.serial ≤ leg.number + k) (λ frame. frame.serial ≤ leg.number + suc k) (λ frame le. omega arith) frames h

  pub serials : (k t : ℕ) (x : Life) → after model leg k t ≡ Live x → Rising k (frames_of leg schedule x)
  serials =
      each_life model.child_group leg (λ k t x. Rising k (frames_of leg schedule x))
      (λ t y live. subst (Rising zero) (sym (frames_kept leg y.frames schedule (begin y))) (sound.serials_rise t y live, All-weaker (λ frame. frame.serial ≤ leg.number) (λ frame. frame.serial ≤ leg.number + zero) (λ frame le. omega arith) y.frames (sound.serials_past t y live)))
      (λ k t y c live h now. frames_changed leg schedule (Rising (suc k)) k c y (h.0, later k (frames_of leg schedule y) h.1) (λ func. (all_pairs_push (λ low high. low.serial < high.serial) (frames_of leg schedule y) (made leg schedule k y func) h.0 (λ i d lt. let le = h.1 i d lt in omega arith), All-push (λ frame. frame.serial ≤ leg.number + suc k) (frames_of leg schedule y) (made leg schedule k y func) (later k (frames_of leg schedule y) h.1) (omega arith))) (λ n. (SerialsRise-take n (frames_of leg schedule y) h.0, All-take (λ frame. frame.serial ≤ leg.number + suc k) n (frames_of leg schedule y) (later k (frames_of leg schedule y) h.1))))
      (λ k p t how y live h unused positive within now. (λ i j d lt none. absurd (omega arith), All-nil (λ frame. frame.serial ≤ leg.number + suc k)))

  -- ---- The opening that shows the tasks after k events

  module _ (k number from : ℕ) (aim : Aim) where
    abbrev pub reopened : State
    reopened = record { number = number; bounds = leg.bounds; from = from; aim = aim; tasks = shown_after model leg schedule k }

    pub sound_after : leg.number + k ≤ number → IsSound reopened
    sound_after le =
        record {
          numbered = λ t y live. let x = shows (leg_task leg schedule k) (after model leg k t) y live in numbered model.child_group leg sound k t x.0 x.1;
          grouped = λ t y live.
              let x = shows (leg_task leg schedule k) (after model leg k t) y live in
              let same : y.group ≡ x.0.group = ap (λ z. z.group) x.2 in
              ⊎_elim (λ (e : x.0.group ≡ 0). inl (same ∙ e)) (λ (ne : after model leg k x.0.group ≢ Unused). inr (λ e. ne (ap (after model leg k) (sym same) ∙ shows_unused (leg_task leg schedule k) (after model leg k y.group) e))) (grouped model.child_group leg sound lawful.child k t x.0 x.1);
          one_side = λ t u y z live_y live_z same.
              let a = shows (leg_task leg schedule k) (after model leg k t) y live_y in
              let b = shows (leg_task leg schedule k) (after model leg k u) z live_z in
              ap (λ s. s.level) a.2 ∙ (one_level k t u a.0 b.0 a.1 b.1 (sym (ap (λ s. s.group) a.2) ∙ (same ∙ ap (λ s. s.group) b.2)) ∙ sym (ap (λ s. s.level) b.2));
          serials_rise = λ t y live. let x = shows (leg_task leg schedule k) (after model leg k t) y live in subst (λ s. SerialsRise s.frames) (sym x.2) (serials k t x.0 x.1).0;
          serials_past = λ t y live.
              let x = shows (leg_task leg schedule k) (after model leg k t) y live in
              subst (λ s. All (λ frame. frame.serial ≤ number) s.frames) (sym x.2) (All-weaker (λ frame. frame.serial ≤ leg.number + k) (λ frame. frame.serial ≤ number) (λ frame small. omega arith) (frames_of leg schedule x.0) (serials k t x.0 x.1).1);
        }

    pub one_version_after : aim.patches ≡ leg.patches → IsTrue model.whole_call → RunsOneVersion leg.opening → RunsOneVersion reopened
    one_version_after same whole opening t y live =
        let x = shows (leg_task leg schedule k) (after model leg k t) y live in
        subst (λ s. All (λ frame. version aim.patches frame.func.0 frame.level.0 ≡ version aim.patches frame.func.0 s.level) s.frames) (sym x.2) (subst (λ patches. All (λ frame. version patches frame.func.0 frame.level.0 ≡ version patches frame.func.0 (level leg schedule k x.0)) (frames_of leg schedule x.0)) (sym same) (one_version model leg lawful schedule is_legal sound whole opening k t x.0 x.1))
