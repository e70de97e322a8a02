-- Each release: 6.1 does as 6.12 on the events that it has. The laws, for either.
use Rattle.std.proofs.Common.{◌≡◌, ◌≢◌, ℕ, suc, Bool, true, false, not, List, [], ◌∷◌, IsTrue, None, if◌then◌else◌, nat_eq, refl, sym, ap, ap₂, ◌∙◌, subst, arith}
use Rattle.std.proofs.lemmas.Bool.{ne_eqb, cond-false}
use Rattle.std.proofs.lemmas.List.Elements.{All-head, All-tail, All-weaker}
use Rattle.lp_definitions.specs.declared.event.Event.{Event}
use Rattle.lp_definitions.specs.declared.event.Event.TheVariants.{Resched, Walk, Enable, Disable, Reverse}
use Rattle.lp_definitions.specs.declared.refusal.Refusal.TheVariants.{InTransition, AlreadyThere}
use Rattle.lp_definitions.specs.Events.{is_control}
use Rattle.lp_definitions.specs.Tasks.{Live, fits}
use Rattle.lp_definitions.specs.Leg.{LegTask, Leg}
use Rattle.lp_definitions.specs.Run.{Run, leg_of, shown}
use Rattle.lp_laws.proofs.NextTasks.{none_first, unfit}
use Rattle.lp_linux.specs.Transition.{Release, Linux_6_1, Linux_6_12, PatchState, Linux, klp_try_complete_transition, klp_enable_patch, klp_disable_patch}
use Rattle.lp_linux.specs.Events.{happen, refusal, unless, step, run, has, AreOf, boot}
use Rattle.lp_linux.specs.Reading.{awaits_walk, heard_late, heard_as, heard, NoneLate}
use Rattle.lp_linux.specs.Laws.{kernel_after, leg_after, StandsAs, StepsAs, TriesAs, DecidesAsHybrid}
use Rattle.lp_linux.proofs.Own.{h}
use Rattle.lp_linux.proofs.Laws.{stands_as, steps_as, tries_as, follows_run}

-- ---- The same on the events of 6.1

happens_of_6_1 : (event : Event) (m : Linux) → has Linux_6_1 event ≡ true → happen Linux_6_1 event m ≡ happen Linux_6_12 event m
happens_of_6_1 (Resched t) m is = absurd (cc)
happens_of_6_1 event m is = refl

happens_same : (release : Release) (event : Event) (m : Linux) → has release event ≡ true → happen release event m ≡ happen Linux_6_12 event m
happens_same Linux_6_1 event m is = happens_of_6_1 event m is
happens_same Linux_6_12 event m is = refl

-- 6.12 has every event
pub all_of : (release : Release) (events : List Event) → AreOf release events → AreOf Linux_6_12 events
all_of release events of = All-weaker (λ event. IsTrue (has release event)) (λ event. IsTrue (has Linux_6_12 event)) (λ event is. refl) events of

module _ (release : Release) where
  abbrev Of : Event → Type 0
  Of event = IsTrue (has release event)

  pub step_same : (m : Linux) (event : Event) → has release event ≡ true → step release m event ≡ step Linux_6_12 m event
  unfolding step
  step_same m event is = ap (unless (refusal m event) m) (happens_same release event m is)

  pub run_same : (events : List Event) (m : Linux) → AreOf release events → run release m events ≡ run Linux_6_12 m events
  unfolding run
  run_same [] m of = refl
  run_same (event ∷ events) m of = ap (λ k. run release k events) (step_same m event (All-head Of event events of)) ∙ run_same events (step Linux_6_12 m event) (All-tail Of event events of)

  pub heard_same : (events : List Event) (m : Linux) → AreOf release events → heard release m events ≡ heard Linux_6_12 m events
  unfolding heard
  heard_same [] m of = refl
  heard_same (event ∷ events) m of =
      ap (λ list. heard_as m event ∷ list)
      (ap (λ k. heard release k events) (step_same m event (All-head Of event events of)) ∙ heard_same events (step Linux_6_12 m event) (All-tail Of event events of))

  -- what is so of 6.12's kernel and leg is so of the release's
  module _ (r : Run) (of : AreOf release r.events) where
    kernel_same : kernel_after release r ≡ kernel_after Linux_6_12 r
    kernel_same = run_same r.events (boot r.bounds r.patches r.boots) of

    leg_same : leg_after release r ≡ leg_after Linux_6_12 r
    leg_same = ap (λ events. leg_of h (record r { events = events })) (heard_same r.events (boot r.bounds r.patches r.boots) of)

    carried : (P : Linux → Leg → Type 0) → P (kernel_after Linux_6_12 r) (leg_after Linux_6_12 r) → P (kernel_after release r) (leg_after release r)
    carried P is = subst (λ m. P m (leg_after release r)) (sym kernel_same) (subst (P (kernel_after Linux_6_12 r)) (sym leg_same) is)

-- ---- The events as they are heard

heard_late_plain : (target : PatchState) (event : Event) → is_control event ≡ false → heard_late target event ≡ event
heard_late_plain target Enable plain = absurd (cc)
heard_late_plain target Disable plain = absurd (cc)
heard_late_plain target Reverse plain = absurd (cc)
heard_late_plain target event plain = refl

heard_itself : (m : Linux) (event : Event) → (IsTrue (awaits_walk m) → is_control event ≡ false) → heard_as m event ≡ event
heard_itself m event settled = by (awaits_walk m) refl
  where
    by : (b : Bool) → awaits_walk m ≡ b → heard_as m event ≡ event
    by true e = ap (λ b. if b then heard_late m.klp.klp_target_state event else event) e ∙ heard_late_plain m.klp.klp_target_state event (settled e)
    by false e = ap (λ b. if b then heard_late m.klp.klp_target_state event else event) e

module _ (release : Release) where
  heard_all : (events : List Event) (m : Linux) → NoneLate release m events → heard release m events ≡ events
  unfolding NoneLate heard
  heard_all [] m none_late = refl
  heard_all (event ∷ events) m none_late = ap₂ (λ e es. e ∷ es) (heard_itself m event none_late.0) (heard_all events (step release m event) none_late.1)

  -- ---- Enabling and disabling walk at once

  step_accepted : (m : Linux) (event : Event) → refusal m event ≡ None → step release m event ≡ happen release event m
  unfolding step
  step_accepted m event e = ap (λ r. unless r m (happen release event m)) e

  walks_then : (m : Linux) → nat_eq m.klp.klp_transition_patch 0 ≡ false → step release m Walk ≡ klp_try_complete_transition m
  unfolding refusal
  walks_then m busy = step_accepted m Walk refl ∙ cond-false _ _ _ busy

  enabling : (m : Linux) → refusal m Enable ≡ None → run release m (Enable ∷ Walk ∷ []) ≡ klp_try_complete_transition (klp_enable_patch m)
  unfolding run
  enabling m ok = ap (λ k. step release k Walk) (step_accepted m Enable ok) ∙ walks_then (klp_enable_patch m) (ne_eqb (suc m.klp.in_place) 0 (λ same. omega (arith, same)))

  disabling : (m : Linux) → refusal m Disable ≡ None → run release m (Disable ∷ Walk ∷ []) ≡ klp_try_complete_transition (klp_disable_patch m)
  unfolding run refusal
  disabling m ok =
      let first = none_first (fits (not (nat_eq m.klp.klp_transition_patch 0)) InTransition) (fits (nat_eq m.klp.in_place 0) AlreadyThere ∷ []) ok in
      let second = none_first (fits (nat_eq m.klp.in_place 0) AlreadyThere) [] first.1 in
      ap (λ k. step release k Walk) (step_accepted m Disable ok) ∙ walks_then (klp_disable_patch m) (unfit (nat_eq m.klp.in_place 0) AlreadyThere second.0)

-- ---- The laws

pub decides_as_hybrid : (release : Release) → DecidesAsHybrid release
decides_as_hybrid release =
    record {
      stands = λ r ok of. carried release r of StandsAs (stands_as r ok _ (kernel_after Linux_6_12 r) (follows_run r ok));
      steps = λ r ok of event is.
          subst (λ now. StepsAs (kernel_after release r) now (leg_after release r) event) (sym (step_same release (kernel_after release r) event is))
          (carried release r of (λ m leg. StepsAs m (step Linux_6_12 m event) leg event) (steps_as r ok _ (kernel_after Linux_6_12 r) (follows_run r ok) event));
      tries = λ r ok of.
          carried release r of (λ m leg. m.klp.klp_transition_patch ≢ 0 → (t : ℕ) (x : LegTask) → shown h leg t ≡ Live x → TriesAs m leg t x)
          (tries_as r ok _ (kernel_after Linux_6_12 r) (follows_run r ok));
      same_events = λ r none_late. ap (λ events. leg_of h (record r { events = events })) (heard_all release r.events (boot r.bounds r.patches r.boots) none_late);
      enables = enabling release;
      disables = disabling release;
    }
