-- What each moment of a leg keeps of a sound opening, under every legal schedule.
use Rattle.std.proofs.Common.{◌≡◌, ℕ, zero, suc, pred, ◌+◌, ◌<◌, ◌≤◌, Bool, true, false, List, [], ◌∷◌, ◌++◌, length, take, map, All, Option, Some, IsTrue, IsFalse, refl, sym, ap, ◌∙◌, subst, ⊎_elim, arith}
use Rattle.std.specs.List.{take-map}
use Rattle.std.proofs.lemmas.Bool.{cases_Bool, eqb-true, not-false}
use Rattle.std.proofs.lemmas.List.{map-append}
use Rattle.std.proofs.lemmas.List.Elements.{All-nil, All-push, All-take, All-weaker}
use Rattle.lp_symbols.specs.declared.sym_id.SymId.{SymId}
use Rattle.lp_stack.specs.declared.frame.Frame.{Frame}
use Rattle.lp_patch.specs.Patches.{version, is_stale}
use Rattle.lp_model.specs.Rules.{Rules, IsLawful}
use Rattle.lp_definitions.specs.Tasks.{Stood, Kept, Made, Life, Live, child}
use Rattle.lp_definitions.specs.Leg.{LegTask, Leg, begin, after}
use Rattle.lp_definitions.specs.Schedule.{Schedule, has_come, level, frame_of, view, allowed, IsLegal}
use Rattle.lp_definitions.specs.Sound.{IsSound, RunsOneVersion}
use Rattle.lp_laws.proofs.NextTasks.{Change, Same, Pushes, Pops, Turns, changed, changed_group, each_life, numbered}
use Rattle.lp_laws.proofs.Waiting.{level_gone, level_still, still_before, comes_now, none_at_zero, allowed-is}

-- the frames of a task
abbrev pub frames_of : Leg → Schedule → Life → List Frame
frames_of leg schedule x = map (frame_of leg schedule x) x.calls

pub frames_kept : (leg : Leg) (frames : List Frame) (schedule : Schedule) (x : Life) → map (frame_of leg schedule x) (map Kept frames) ≡ frames
frames_kept leg [] schedule x = refl
frames_kept leg (frame ∷ frames) schedule x = ap (λ rest. frame ∷ rest) (frames_kept leg frames schedule x)

-- the frame that a call makes
abbrev pub made : Leg → Schedule → ℕ → Life → SymId → Frame
made leg schedule k y func = record { func = func; level = record { 0 = level leg schedule k y }; serial = leg.number + suc k }

-- what a change of a live task leaves of its frames
pub frames_changed : (leg : Leg) (schedule : Schedule) (P : List Frame → Type 0) (k : ℕ) (c : Change) (y : Life) → P (frames_of leg schedule y) → ((func : SymId) → P (frames_of leg schedule y ++ made leg schedule k y func ∷ [])) → ((n : ℕ) → P (take n (frames_of leg schedule y))) → P (frames_of leg schedule (changed k c y))
frames_changed leg schedule P k Same y same more fewer = same
frames_changed leg schedule P k (Pushes func) y same more fewer = subst P (sym (map-append (frame_of leg schedule y) y.calls (Made func k ∷ []))) (more func)
frames_changed leg schedule P k Pops y same more fewer = subst P (take-map (frame_of leg schedule y) (pred (length y.calls)) y.calls) (fewer (pred (length y.calls)))
frames_changed leg schedule P k (Turns mode) y same more fewer = same

-- whether a moment comes just now
data Comes (m : Option ℕ) (k : ℕ) : Type 0 where
  Later : has_come m (suc k) ≡ false → has_come m k ≡ false → Comes m k
  Before : has_come m (suc k) ≡ true → has_come m k ≡ true → Comes m k
  Now : m ≡ Some (suc k) → has_come m (suc k) ≡ true → Comes m k

comes : (m : Option ℕ) (k : ℕ) → Comes m k
comes m k =
    ⊎_elim
    (λ (yes : has_come m (suc k) ≡ true). ⊎_elim (λ (was : has_come m k ≡ true). Before yes was) (λ (not_yet : has_come m k ≡ false). Now (comes_now m k not_yet yes) yes) (cases_Bool (has_come m k)))
    (λ (no : has_come m (suc k) ≡ false). Later no (still_before m k (suc k) (omega arith) no))
    (cases_Bool (has_come m (suc k)))

module _ (model : Rules) (leg : Leg) (lawful : IsLawful model) (schedule : Schedule) (is_legal : IsLegal model leg schedule) where
  abbrev gone : ℕ → ℕ → Bool
  gone k group = has_come (schedule group) k

  pub not_gone_at_start : (group : ℕ) → gone zero group ≡ false
  not_gone_at_start group = none_at_zero (schedule group) (λ i e. let r = is_legal group i e in (r.0, r.1))

  pub level_start : (y : LegTask) → level leg schedule zero (begin y) ≡ y.level
  level_start y = level_still leg.target schedule zero y.group (Stood y.level) (not_gone_at_start y.group)

  level_changed : (j k : ℕ) (c : Change) (y : Life) → level leg schedule j (changed k c y) ≡ level leg schedule j y
  level_changed j k Same y = refl
  level_changed j k (Pushes func) y = refl
  level_changed j k Pops y = refl
  level_changed j k (Turns mode) y = refl

  -- the function has one version at both levels
  abbrev pub OneVersion : ℕ → Frame → Type 0
  OneVersion l frame = version leg.patches frame.func.0 frame.level.0 ≡ version leg.patches frame.func.0 l

  not_stale : (frame : Frame) → IsFalse (is_stale leg.aim frame) → OneVersion leg.target frame
  not_stale frame e = eqb-true _ _ (not-false _ e)

  abbrev pub AllOne : ℕ → Life → Type 0
  AllOne l x = All (OneVersion l) (frames_of leg schedule x)

  stays_one : (k : ℕ) (c : Change) (y : Life) → AllOne (level leg schedule k y) y → level leg schedule (suc k) y ≡ level leg schedule k y → AllOne (level leg schedule (suc k) (changed k c y)) (changed k c y)
  stays_one k c y h same =
      subst (λ l. All (OneVersion l) (frames_of leg schedule (changed k c y))) (sym (level_changed (suc k) k c y ∙ same)) (frames_changed leg schedule (All (OneVersion (level leg schedule k y))) k c y h (λ func. All-push (OneVersion (level leg schedule k y)) (frames_of leg schedule y) (made leg schedule k y func) h refl) (λ n. All-take (OneVersion (level leg schedule k y)) n (frames_of leg schedule y) h))

  moves_one : IsTrue model.whole_call → (k t group : ℕ) (x : Life) → 0 < t → t ≤ leg.bounds.tasks → after model leg (suc k) t ≡ Live x → x.group ≡ group → schedule group ≡ Some (suc k) → gone (suc k) group ≡ true → AllOne (level leg schedule (suc k) x) x
  moves_one whole k t group x positive within live member moment come =
      let r = is_legal group (suc k) moment in
      let same : r.0 ≡ k = omega (arith, r.1) in
      let a = allowed-is model leg schedule k group (subst (λ n. IsTrue (allowed model leg schedule n group)) same r.3) in
      let fresh = lawful.whole a.0 (view leg schedule t x) leg.aim whole (a.2 t x positive within live member) in
      let on : level leg schedule (suc k) x ≡ leg.target = level_gone leg.target schedule (suc k) x.group x.origin (subst (λ g. gone (suc k) g ≡ true) (sym member) come) in
      subst (λ l. All (OneVersion l) (frames_of leg schedule x)) (sym on) (All-weaker (λ frame. IsFalse (is_stale leg.aim frame)) (OneVersion leg.target) not_stale (frames_of leg schedule x) fresh)

  step_one : IsTrue model.whole_call → (k t : ℕ) (c : Change) (y : Life) → 0 < t → t ≤ leg.bounds.tasks → AllOne (level leg schedule k y) y → after model leg (suc k) t ≡ Live (changed k c y) → Comes (schedule y.group) k → AllOne (level leg schedule (suc k) (changed k c y)) (changed k c y)
  step_one whole k t c y positive within h now (Later a b) = stays_one k c y h (level_still leg.target schedule (suc k) y.group y.origin a ∙ sym (level_still leg.target schedule k y.group y.origin b))
  step_one whole k t c y positive within h now (Before a b) = stays_one k c y h (level_gone leg.target schedule (suc k) y.group y.origin a ∙ sym (level_gone leg.target schedule k y.group y.origin b))
  step_one whole k t c y positive within h now (Now moment come) = moves_one whole k t y.group (changed k c y) positive within now (changed_group k c y) moment come

  module _ (sound : IsSound leg.opening) where
    pub one_version : IsTrue model.whole_call → RunsOneVersion leg.opening → (k t : ℕ) (x : Life) → after model leg k t ≡ Live x → AllOne (level leg schedule k x) x
    one_version whole opening =
        each_life model.child_group leg (λ k t x. AllOne (level leg schedule k x) x)
        (λ t y live. subst (λ l. All (OneVersion l) (frames_of leg schedule (begin y))) (sym (level_start y)) (subst (All (OneVersion y.level)) (sym (frames_kept leg y.frames schedule (begin y))) (opening t y live)))
        (λ k t y c live h now. let at = numbered model.child_group leg sound k t y live in step_one whole k t c y at.0 at.1 h now (comes (schedule y.group) k))
        (λ k p t how y live h unused positive within now. All-nil (OneVersion (level leg schedule (suc k) (child model.child_group k t how y))))
