-- How the events of a trace are dealt out. Only private clauses cite this file.
use Rattle.std.specs.Prelude.{◌≡◌, ℕ, ◌<◌, Vec, List, [], ◌∷◌, ◌++◌, length, slice_index_or}
use Rattle.lp_definitions.specs.declared.event.Event.{Event}
use Rattle.lp_threads.specs.Plays.{events_of, events_of_control}

-- each task's script has its events, and the control's has all others
pub record IsDealt {A : Type 0} (events : List Event) (tasks : List (Vec Event A)) (control : List Event) : Type 0 where
  pub scripts : (task : ℕ) (d : Vec Event A) → task < length tasks → (slice_index_or tasks task d).items ≡ events_of task events
  pub rest : control ≡ events_of_control events

-- the script that an event belongs to has it as one more, and the others stay
pub record AreMore {A : Type 0} (tasks : List (Vec Event A)) (control : List Event) (event : Event) (after : List (Vec Event A)) (rest : List Event) : Type 0 where
  pub scripts : (task : ℕ) (d : Vec Event A) → task < length tasks → (slice_index_or after task d).items ≡ (slice_index_or tasks task d).items ++ events_of task (event ∷ [])
  pub others : rest ≡ control ++ events_of_control (event ∷ [])
