-- The laws of a transition, each a statement over the definitions, for one model.
use Rattle.std.specs.Prelude.{◌≡◌, ℕ, zero, ◌≤◌, length, All, IsTrue, IsFalse}
use Rattle.lp_model.specs.Rules.{Rules}
use Rattle.lp_definitions.specs.declared.event.Event.{Event}
use Rattle.lp_definitions.specs.Tasks.{Life, Live}
use Rattle.lp_definitions.specs.Leg.{LegTask, Leg, after}
use Rattle.lp_definitions.specs.Schedule.{Schedule, has_come, view, waits, complete, CompletesAt, IsLegal, IsFirstCheck, first_check}
use Rattle.lp_definitions.specs.Sound.{IsSound, HasOneVersion, RunsOneVersion}
use Rattle.lp_definitions.specs.Chain.{nobody, IsRefusedBetween, Chain}
use Rattle.lp_definitions.specs.Run.{Run, AreInRange, first_leg, leg_of, and_then, shown}
use Rattle.lp_definitions.specs.Stays.{moments, stays, is_mixed, mixed_count}
use Rattle.lp_definitions.specs.Order.{IsAtLeastAsPermissive}

-- Throughout, `first` is a first-check schedule of a leg, `other` any legal one, and k counts the leg's events so far.

-- a leg has exactly one first-check schedule
pub record HasOneFirstCheck (model : Rules) : Type 0 where
  pub one : (leg : Leg) → IsFirstCheck model leg (first_check model leg)
  pub only :
      (leg : Leg) → IsSound leg.opening →
      (s r : Schedule) → IsFirstCheck model leg s → IsFirstCheck model leg r →
      (group : ℕ) → s group ≡ r group

-- what the first-check schedule of a leg says of its events so far stays true when a further event comes:
-- so an engine can go by it as the events come
pub record KeepsThePast (model : Rules) : Type 0 where
  pub moments :
      (leg : Leg) (event : Event) (group k : ℕ) → k ≤ length leg.events →
      has_come (first_check model (and_then leg event) group) k ≡ has_come (first_check model leg group) k

-- a group that waits under the first-check schedule waits under every legal one,
-- and what a check sees of its live members is the same under both
pub record SwitchesNoneLater (model : Rules) : Type 0 where
  pub waits_too :
      (leg : Leg) → IsSound leg.opening →
      (first other : Schedule) → IsFirstCheck model leg first → IsLegal model leg other →
      (k group : ℕ) → IsTrue (waits model leg first k group) → IsTrue (waits model leg other k group)
  pub same_views :
      (leg : Leg) → IsSound leg.opening →
      (first other : Schedule) → IsFirstCheck model leg first → IsLegal model leg other →
      (k group : ℕ) → IsTrue (waits model leg first k group) →
      (t : ℕ) (x : Life) → after model leg k t ≡ Live x → x.group ≡ group →
      view leg first t x ≡ view leg other t x

-- where a legal schedule completes a leg, the first-check schedule completes it at the same event or before,
-- so where it hasn't completed the leg, none has
pub record CompletesNoneLater (model : Rules) : Type 0 where
  -- a leg that is complete stays so
  pub stays_complete :
      (leg : Leg) → IsSound leg.opening →
      (schedule : Schedule) (j k : ℕ) → j ≤ k →
      IsTrue (complete model leg schedule j) → IsTrue (complete model leg schedule k)
  pub completes :
      (leg : Leg) → IsSound leg.opening →
      (first other : Schedule) → IsFirstCheck model leg first → IsLegal model leg other →
      (k : ℕ) → CompletesAt model leg other k → (j : ℕ) × (j ≤ k) × CompletesAt model leg first j
  pub none_before :
      (leg : Leg) → IsSound leg.opening →
      (first other : Schedule) → IsFirstCheck model leg first → IsLegal model leg other →
      (k : ℕ) → IsFalse (complete model leg first k) → IsFalse (complete model leg other k)

-- a model that is at least as permissive as another completes each leg at the same event or before
pub record NeverLoses (a b : Rules) : Type 0 where
  pub completes :
      IsAtLeastAsPermissive a b → (leg : Leg) → IsSound leg.opening →
      (s r : Schedule) → IsFirstCheck a leg s → IsFirstCheck b leg r →
      (k : ℕ) → CompletesAt b leg r k → (j : ℕ) × (j ≤ k) × CompletesAt a leg s j

-- a group that waits under the first-check schedule was refused at each of its checks so far, and a chain of births and refusals
-- leads to it; both also where the views are those of another legal schedule, as with nobody switching
pub record WaitsForAReason (model : Rules) : Type 0 where
  pub refused :
      (leg : Leg) → IsSound leg.opening →
      (first other : Schedule) → IsFirstCheck model leg first → IsLegal model leg other →
      (k group : ℕ) → IsTrue (waits model leg first k group) → IsRefusedBetween model leg other zero k group
  pub chain :
      (leg : Leg) → IsSound leg.opening →
      (first other : Schedule) → IsFirstCheck model leg first → IsLegal model leg other →
      (k group : ℕ) → IsTrue (waits model leg first k group) → Chain model leg other group k
  pub nobody : (leg : Leg) → IsLegal model leg nobody

-- where a chain leads to a group with a live member, judged with nobody switching, the group waits under every legal schedule,
-- whoever found the chain
pub record TrustsChains (model : Rules) : Type 0 where
  pub waits :
      (leg : Leg) → IsSound leg.opening →
      (schedule : Schedule) → IsLegal model leg schedule →
      (k group t : ℕ) (x : Life) → Chain model leg nobody group k →
      after model leg k t ≡ Live x → x.group ≡ group →
      IsTrue (waits model leg schedule k group)

-- each leg of a run opens soundly
pub record OpensSoundly (model : Rules) : Type 0 where
  pub sound : (run : Run) → AreInRange run.bounds run.boots → IsSound (leg_of model run).opening

-- at each moment of a run under a whole-call model, each function on a stack has one version,
-- at the level of its call and at the task's present level
pub record KeepsOneVersion (model : Rules) : Type 0 where
  pub opening :
      IsTrue model.whole_call → (run : Run) → AreInRange run.bounds run.boots →
      RunsOneVersion (leg_of model run).opening
  pub now :
      IsTrue model.whole_call → (run : Run) → AreInRange run.bounds run.boots →
      (t : ℕ) (x : LegTask) → shown model (leg_of model run) t ≡ Live x →
      All (HasOneVersion run.patches x.level) x.frames

-- over a whole run under a whole-call model no stay of a task in a patch's functions runs both sides of the patch,
-- so the count of mixed stays is 0
pub record MixesNoStay (model : Rules) : Type 0 where
  pub none_mixed :
      IsTrue model.whole_call → (run : Run) → AreInRange run.bounds run.boots →
      (patch t : ℕ) →
      All (λ stay. IsFalse (is_mixed stay)) (stays (moments model patch t (first_leg model run) run.events))
  pub count_is_0 :
      IsTrue model.whole_call → (run : Run) → AreInRange run.bounds run.boots →
      mixed_count model (first_leg model run) run.events ≡ 0
