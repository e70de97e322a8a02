-- Where the fold of a leg stands.
use Rattle.std.specs.Prelude.{◌≡◌, ℕ, ◌+◌, List}
use Rattle.lp_model.specs.Rules.{Rules}
use Rattle.lp_definitions.specs.declared.event.Event.{Event}
use Rattle.lp_machine.specs.inside.Unswitched.{unswitched}
use Rattle.lp_tasks.specs.Openings.{IsOpening}
use Rattle.lp_machine.specs.Table.{Engine, leg_tasks}
use Rattle.lp_checker.specs.declared.fold.Fold.{Fold}
use Rattle.lp_checker.specs.Folds.{leg_with}

-- the fold has taken the first k events, with nobody switching
pub record IsAt (model : Rules) (opening : Engine) (events : List Event) (k : ℕ) (fold : Fold) : Type 0 where
  pub sound : IsOpening opening
  pub number : fold.number ≡ opening.number + k
  pub target : fold.target.0 ≡ opening.target
  pub patches : fold.patches ≡ opening.patches
  pub tasks : leg_tasks fold.tasks ≡ unswitched model.child_group (leg_with opening events) k
