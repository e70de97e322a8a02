-- Who waits in a leg, and its certificates.
use Rattle.std.proofs.Common.{◌≡◌, ℕ, suc, ◌+◌, Bool, true, false, not, ◌&&◌, length, map, filter, take, nat_eq, refl, sym, ap, ap₂, ◌∙◌}
use mathlib.Core.Path.{fun_ext}
use Rattle.std.specs.List.{range_with_len}
use Rattle.std.proofs.lemmas.Bool.{false≢true, and_parts}
use Rattle.lp_model.specs.Rules.{Rules}
use Rattle.lp_definitions.specs.Leg.{State, Leg, after}
use Rattle.lp_definitions.specs.Schedule.{leg_task, waits, first_check}
use Rattle.lp_definitions.specs.Run.{shown}
use Rattle.lp_machine.specs.Machine.{complete_in, waits_in, state_of}
use Rattle.lp_definitions.proofs.Quantifiers.{each_live-at, some_live-is, some_live-map}
use Rattle.lp_definitions.specs.declared.cert.Claim.TheVariants.{Waiting, Floor}
use Rattle.lp_definitions.specs.Certificates.{lines, waiting_groups, waiting_certs, floor_certs}
use Rattle.lp_cert.proofs.Making.{cert_for}

waits_same : (model : Rules) (leg : Leg) (g : ℕ) → waits_in (state_of model leg) g ≡ waits model leg (first_check model leg) (length leg.events) g
unfolding shown waits
waits_same model leg g = some_live-map leg.bounds (leg_task leg (first_check model leg) (length leg.events)) (after model leg (length leg.events)) (λ t y. nat_eq y.group g && not (nat_eq y.level leg.target))

-- nobody, where all is complete
pub none_waits : (s : State) → complete_in s ≡ true → (g : ℕ) → waits_in s g ≡ false
none_waits s complete g = by (waits_in s g) refl
  where
    by : (b : Bool) → waits_in s g ≡ b → waits_in s g ≡ false
    by false out = out
    by true there =
        let who = some_live-is s.bounds s.tasks (λ t x. nat_eq x.group g && not (nat_eq x.level s.target)) there in
        let on = each_live-at s.bounds s.tasks (λ t x. nat_eq x.level s.target) complete who.task who.life who.positive who.within who.live in
        absurd (false≢true (ap not (sym on) ∙ (and_parts (nat_eq who.life.group g) (not (nat_eq who.life.level s.target)) who.passed).1))

module _ (model : Rules) (leg : Leg) (tasks : leg.bounds.tasks ≡ 65535) where
  abbrev n : ℕ
  n = length leg.events

  groups_are : waiting_groups model leg n ≡ filter (waits_in (state_of model leg)) (range_with_len 0 65536)
  groups_are =
      ap₂ (λ test m. filter test (range_with_len 0 (suc m))) (fun_ext (λ g. sym (waits_same model leg g))) tasks

  pub waiting_are : waiting_certs model leg n ≡ map (cert_for Waiting leg.number (leg.number + n) (lines model leg n)) (filter (waits_in (state_of model leg)) (range_with_len 0 65536))
  waiting_are = ap (map (cert_for Waiting leg.number (leg.number + n) (lines model leg n))) groups_are

  pub floor_are : floor_certs model leg n ≡ map (cert_for Floor leg.number (leg.number + n) (lines model leg n)) (take 1 (filter (waits_in (state_of model leg)) (range_with_len 0 65536)))
  floor_are = ap (λ gs. map (cert_for Floor leg.number (leg.number + n) (lines model leg n)) (take 1 gs)) groups_are
