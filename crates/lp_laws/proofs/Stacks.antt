-- A task's frames with one serial are one frame, also at two moments of a leg.
use Rattle.std.proofs.Common.{◌≡◌, ℕ, zero, suc, ◌+◌, ◌≤◌, true, List, All, Contains, get_or, false, nat_eq, ◌<◌, ◌⊎◌, refl, sym, ap, ◌∙◌, subst, ⊎_elim, inl, inr, arith}
use Rattle.std.specs.List.{list_any}
use Rattle.std.proofs.lemmas.Bool.{cases_eq, cases_order, eqb-true}
use Rattle.std.proofs.lemmas.List.Folds.{Any-from_list_any}
use Rattle.std.proofs.lemmas.List.Elements.{All-take, All-push, All-weaker, All-contains, All-contains_itself}
use Rattle.std.proofs.lemmas.List.{get_or_default}
use Rattle.lp_stack.specs.declared.frame.Frame.{Frame}
use Rattle.lp_model.specs.Rules.{Rules, IsLawful, SerialsRise}
use Rattle.lp_definitions.specs.Tasks.{Life, Fate, Unused, Live, Dead, on_live}
use Rattle.lp_definitions.specs.Leg.{Leg, accepted, after}
use Rattle.lp_definitions.specs.Schedule.{view}
use Rattle.lp_definitions.specs.Sound.{IsSound}
use Rattle.lp_definitions.specs.Chain.{nobody}
use Rattle.lp_laws.proofs.NextTasks.{Came, Stayed, Born, came, unused_before}
use Rattle.lp_laws.proofs.Waiting.{live_same}
use Rattle.lp_laws.proofs.OneVersion.{frames_of, made, frames_changed}
use Rattle.lp_laws.proofs.SoundAfter.{serials}
use Rattle.lp_definitions.specs.Judgement.{is_on_stack}

-- the serials of a stack rise, so no two of its frames share one
one_serial : (frames : List Frame) (a b : Frame) → SerialsRise frames → Contains frames a → Contains frames b → a.serial ≡ b.serial → a ≡ b
one_serial frames a b rise in_a in_b same = by_order (cases_order in_a.0 in_b.0)
  where
    is_b : (d : Frame) → get_or frames in_b.0 d ≡ b
    is_b d = get_or_default frames in_b.0 d b in_b.1 ∙ in_b.2

    is_a : (d : Frame) → get_or frames in_a.0 d ≡ a
    is_a d = get_or_default frames in_a.0 d a in_a.1 ∙ in_a.2

    by_order : (in_a.0 ≡ in_b.0) ⊎ ((in_a.0 < in_b.0) ⊎ (in_b.0 < in_a.0)) → a ≡ b
    by_order (inl e) = sym (is_a a) ∙ (ap (λ i. get_or frames i a) e ∙ is_b a)
    by_order (inr (inl lt)) =
        let rising = rise in_a.0 in_b.0 a lt in_b.1 in
        let below : a.serial < b.serial = subst (λ f. a.serial < f.serial) (is_b a) (subst (λ f. f.serial < (get_or frames in_b.0 a).serial) (is_a a) rising) in
        absurd (omega (arith, below, same))
    by_order (inr (inr lt)) =
        let rising = rise in_b.0 in_a.0 a lt in_a.1 in
        let below : b.serial < a.serial = subst (λ f. b.serial < f.serial) (is_a a) (subst (λ f. f.serial < (get_or frames in_a.0 a).serial) (is_b a) rising) in
        absurd (omega (arith, below, same))

-- a frame with the serial is on the stack of the live task
pub record Stands (model : Rules) (leg : Leg) (t serial k : ℕ) : Type 0 where
  pub life : Life
  pub live : after model leg k t ≡ Live life
  pub frame : Frame
  pub there : Contains (view leg nobody t life).frames frame
  pub is : frame.serial ≡ serial

stands-in : (model : Rules) (leg : Leg) (t serial k : ℕ) (fate : Fate Life) → after model leg k t ≡ fate → on_live false (λ x. list_any (λ frame. nat_eq frame.serial serial) (view leg nobody t x).frames) fate ≡ true → Stands model leg t serial k
stands-in model leg t serial k Unused live h = absurd (cc)
stands-in model leg t serial k Dead live h = absurd (cc)
stands-in model leg t serial k (Live x) live h =
    let some = Any-from_list_any (λ (frame : Frame). nat_eq frame.serial serial) (view leg nobody t x).frames h in
    record { life = x; live = live; frame = some.1; there = (some.0, some.2, some.3); is = eqb-true _ _ some.4 }

pub stands-is : (model : Rules) (leg : Leg) (t serial k : ℕ) → is_on_stack model leg t serial k ≡ true → Stands model leg t serial k
stands-is model leg t serial k h = stands-in model leg t serial k (after model leg k t) refl h

module _ (model : Rules) (leg : Leg) (lawful : IsLawful model) (sound : IsSound leg.opening) where
  pub rising : (k t : ℕ) (x : Life) → after model leg k t ≡ Live x → SerialsRise (view leg nobody t x).frames
  rising k t x live = (serials model leg lawful sound nobody (λ group moment e. absurd (cc)) k t x live).0

  -- a frame as old as event f of the leg was on the stack after it
  abbrev WasThere : ℕ → List Frame → List Frame → Type 0
  WasThere f before now = All (λ frame. frame.serial ≤ leg.number + f → Contains before frame) now

  module _ (f t : ℕ) (y : Life) (was : after model leg f t ≡ Live y) where
    abbrev IsOld : List Frame → Type 0
    IsOld = WasThere f (frames_of leg nobody y)

    at_once : (k : ℕ) (x : Life) → f ≡ k → after model leg k t ≡ Live x → IsOld (frames_of leg nobody x)
    at_once k x e now =
        let is : y ≡ x = live_same y x (after model leg k t) (subst (λ n. after model leg n t ≡ Live y) e was) now in
        subst (λ z. IsOld (frames_of leg nobody z)) is (All-weaker (Contains (frames_of leg nobody y)) (λ frame. frame.serial ≤ leg.number + f → Contains (frames_of leg nobody y) frame) (λ frame c le. c) (frames_of leg nobody y) (All-contains_itself (frames_of leg nobody y)))

    one_later : (k : ℕ) (x : Life) → f ≤ k → ((z : Life) → after model leg k t ≡ Live z → IsOld (frames_of leg nobody z)) → Came model.child_group leg.bounds k (after model leg k) (accepted model leg k) t x → IsOld (frames_of leg nobody x)
    one_later k x le before (Stayed z c live is) =
        let h = before z live in
        subst (λ v. IsOld (frames_of leg nobody v)) (sym is) (frames_changed leg nobody IsOld k c z h (λ func. All-push (λ frame. frame.serial ≤ leg.number + f → Contains (frames_of leg nobody y) frame) (frames_of leg nobody z) (made leg nobody k z func) h (λ small. absurd (omega (arith, small, le)))) (λ n. All-take (λ frame. frame.serial ≤ leg.number + f → Contains (frames_of leg nobody y) frame) n (frames_of leg nobody z) h))
    one_later k x le before (Born p how z event live unused positive within is) =
        let none = unused_before model.child_group leg f k t le unused in absurd (cc)

    pub were_there : (k : ℕ) (x : Life) → f ≤ k → after model leg k t ≡ Live x → IsOld (frames_of leg nobody x)
    were_there zero x le now = at_once zero x (omega arith) now
    were_there (suc k) x le now =
        ⊎_elim
        (λ (same : f ≡ suc k). at_once (suc k) x same now)
        (λ (ne : f ≡ suc k → ⊥). one_later k x (omega (arith, ne)) (λ z live. were_there k z (omega (arith, ne)) live) (came model.child_group leg k t x now))
        (cases_eq f (suc k))

  -- one frame has the serial at both moments
  pub same_frame : (f k t serial : ℕ) → f ≤ k → (a : Stands model leg t serial f) → (b : Stands model leg t serial k) → a.frame ≡ b.frame
  same_frame f k t serial le a b =
      let past = (serials model leg lawful sound nobody (λ group moment e. absurd (cc)) f t a.life a.live).1 in
      let small : a.frame.serial ≤ leg.number + f = All-contains (λ frame. frame.serial ≤ leg.number + f) (frames_of leg nobody a.life) a.frame past a.there in
      let same : a.frame.serial ≡ b.frame.serial = a.is ∙ sym b.is in
      let was = All-contains (λ frame. frame.serial ≤ leg.number + f → Contains (frames_of leg nobody a.life) frame) (frames_of leg nobody b.life) b.frame (were_there f t a.life a.live k b.life le b.live) b.there (omega (arith, small, same)) in
      one_serial (frames_of leg nobody a.life) a.frame b.frame (rising f t a.life a.live) a.there was same
