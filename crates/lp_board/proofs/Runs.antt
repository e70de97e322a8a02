-- The run of a desk, one event longer.
use Rattle.std.proofs.Common.{◌≡◌, List, [], ◌∷◌, ◌++◌, sym, subst}
use Rattle.lp_model.specs.Rules.{Rules, IsLawful}
use Rattle.lp_definitions.specs.declared.event.Event.{Event}
use Rattle.lp_definitions.specs.Leg.{State}
use Rattle.lp_machine.specs.Steps.{StandsIn}
use Rattle.lp_machine.specs.Machine.{next}
use Rattle.lp_machine_laws.proofs.Runs.{steps_as_defined}
use Rattle.lp_board.specs.Names.{Name, run_of, state_after}

-- where a run of this model stands is the state after its events
pub stands-there : (name : Name) (model : Rules) (events : List Event) (s : State) → name.model ≡ model → StandsIn model (run_of name events) s → s ≡ state_after name events
unfolding state_after
stands-there name model events s same stands = (subst (λ m. StandsIn m (run_of name events) s) (sym same) stands).there

-- and after one event more it is where the machine steps
pub after-more : (name : Name) (model : Rules) → IsLawful model → (events : List Event) (s : State) (event : Event) → name.model ≡ model → StandsIn model (run_of name events) s → next model s event ≡ state_after name (events ++ event ∷ [])
after-more name model lawful events s event same stands =
    stands-there name model (events ++ event ∷ []) (next model s event) same (((steps_as_defined model lawful).steps s event).reaches (run_of name events) stands)
