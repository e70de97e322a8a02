-- The fold steps by an event of the leg.
use Rattle.std.proofs.Common.{◌≡◌, ℕ, suc, ◌+◌, List, Option, Some, slice_get, sym, ap, ◌∙◌, arith}
use Rattle.lp_patch.specs.Patches.{Patches}
use Rattle.lp_model.specs.Rules.{Rules, IsLawful}
use Rattle.lp_definitions.specs.declared.event.Event.{Event}
use Rattle.lp_definitions.specs.Leg.{Leg, accepted}
use Rattle.lp_machine.specs.Machine.{LegTasks}
use Rattle.lp_machine.specs.inside.Unswitched.{accept_unswitched, take_own_effect, unswitched}
use Rattle.lp_tasks.specs.Openings.{IsOpening}
use Rattle.lp_machine.specs.Table.{Engine, bounds_of, leg_tasks}
use Rattle.lp_checker.specs.declared.fold.Fold.{Fold}
use Rattle.lp_checker.specs.Folds.{leg_with}
use Rattle.lp_checker.specs.inside.Folds.{IsAt}
use Rattle.lp_checker.proofs.Folding.{now, next_is, accepted_is}

module _ (model : Rules) (lawful : IsLawful model) (opening : Engine) (events : List Event) where
  abbrev leg : Leg
  leg = leg_with opening events

  -- the fold of an opening
  pub opened : (fold : Fold) → IsOpening opening → fold.number ≡ opening.number → fold.target.0 ≡ opening.target → fold.patches ≡ opening.patches → leg_tasks fold.tasks ≡ leg_tasks opening.table → IsAt model opening events 0 fold
  unfolding unswitched
  opened fold sound number target patches tasks = record { sound = sound; number = omega (arith, number); target = target; patches = patches; tasks = tasks }

  -- a fold that nothing was taken into
  pub stays : (k : ℕ) (old new : Fold) → IsAt model opening events k old → new.number ≡ old.number → new.target ≡ old.target → new.patches ≡ old.patches → leg_tasks new.tasks ≡ leg_tasks old.tasks → IsAt model opening events k new
  stays k old new at number target patches tasks =
      record {
        sound = at.sound;
        number = number ∙ at.number;
        target = ap (λ l. l.0) target ∙ at.target;
        patches = patches ∙ at.patches;
        tasks = tasks ∙ at.tasks;
      }

  module _ (k : ℕ) (old : Fold) (event : Event) (at : IsAt model opening events k old) (comes : slice_get events k ≡ Some event) where
    accepts_as : accept_unswitched (bounds_of old.patches) (leg_tasks old.tasks) (Some event) ≡ accept_unswitched leg.bounds (now model leg lawful at.sound.sound k) (slice_get events k)
    accepts_as =
        ap (λ (p : Patches). accept_unswitched (bounds_of p) (leg_tasks old.tasks) (Some event)) at.patches
        ∙ ap (λ (s : LegTasks). accept_unswitched leg.bounds s (Some event)) at.tasks
        ∙ ap (accept_unswitched leg.bounds (now model leg lawful at.sound.sound k)) (sym comes)

    pub told : (o : Option Event) → o ≡ accept_unswitched (bounds_of old.patches) (leg_tasks old.tasks) (Some event) → o ≡ accepted model leg k
    told o e = e ∙ accepts_as ∙ accepted_is model leg lawful at.sound.sound k

    pub one_on : (new : Fold) → new.number ≡ suc old.number → new.target ≡ old.target → new.patches ≡ old.patches → leg_tasks new.tasks ≡ take_own_effect model.child_group (suc old.number) (accept_unswitched (bounds_of old.patches) (leg_tasks old.tasks) (Some event)) (leg_tasks old.tasks) → IsAt model opening events (suc k) new
    one_on new number target patches tasks =
        record {
          sound = at.sound;
          number = omega (arith, number, at.number);
          target = ap (λ l. l.0) target ∙ at.target;
          patches = patches ∙ at.patches;
          tasks =
              tasks
              ∙ ap (λ o. take_own_effect model.child_group (suc old.number) o (leg_tasks old.tasks)) accepts_as
              ∙ ap (λ n. take_own_effect model.child_group (suc n) (accept_unswitched leg.bounds (now model leg lawful at.sound.sound k) (slice_get events k)) (leg_tasks old.tasks)) at.number
              ∙ ap (λ (s : LegTasks). take_own_effect model.child_group (suc (opening.number + k)) (accept_unswitched leg.bounds (now model leg lawful at.sound.sound k) (slice_get events k)) s) at.tasks
              ∙ next_is model leg lawful at.sound.sound k;
        }
