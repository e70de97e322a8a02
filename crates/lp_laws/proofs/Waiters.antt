-- Whoever waits has a number in range, and where a leg isn't complete somebody waits.
use Rattle.std.proofs.Common.{◌≡◌, ℕ, ◌≤◌, Bool, false, IsTrue, nat_eq, refl, subst}
use Rattle.std.proofs.lemmas.Bool.{eqb-false}
use Rattle.lp_model.specs.Rules.{Rules, IsLawful}
use Rattle.lp_definitions.specs.Leg.{Leg, after}
use Rattle.lp_definitions.specs.Schedule.{level, waits, complete, first_check}
use Rattle.lp_definitions.specs.Sound.{IsSound}
use Rattle.lp_laws.proofs.GroupsInRange.{GroupsAreInRange, group_in_range}
use Rattle.lp_laws.proofs.NextTasks.{numbered}
use Rattle.lp_definitions.proofs.Quantifiers.{each_live-not}
use Rattle.lp_laws.proofs.Waiting.{waits-is, waits-from}

module _ (model : Rules) (lawful : IsLawful model) (leg : Leg) where
  abbrev first : ℕ → ℕ → Bool
  first = waits model leg (first_check model leg)

  -- a group that waits has a number in range
  pub waiting_in_range : GroupsAreInRange leg.opening → (k group : ℕ) → IsTrue (first k group) → group ≤ leg.bounds.tasks
  waiting_in_range in_range k group w =
      let v = waits-is model leg (first_check model leg) k group w in
      subst (λ g. g ≤ leg.bounds.tasks) v.member (group_in_range model lawful leg in_range k v.task v.life v.live)

  -- where not all is complete a group waits
  pub someone_waits : IsSound leg.opening → (k : ℕ) → complete model leg (first_check model leg) k ≡ false → (group : ℕ) × IsTrue (first k group)
  unfolding complete
  someone_waits sound k e =
      let r = each_live-not leg.bounds (after model leg k) (λ t x. nat_eq (level leg (first_check model leg) k x) leg.target) e in
      let number = numbered model.child_group leg sound k r.0 r.1 r.2 in
      (r.1.group, waits-from model leg (first_check model leg) k r.1.group (record { task = r.0; life = r.1; positive = number.0; within = number.1; live = r.2; member = refl; off = eqb-false _ _ r.3 }))
