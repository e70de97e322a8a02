-- What a move of a task does.
use Rattle.std.proofs.Common.{◌≡◌, ℕ, true, [], Some, None, nat_eq, refl, subst}
use Rattle.lp_stack.specs.declared.number.TaskId.{TaskId}
use Rattle.lp_stack.specs.declared.view.Mode.{Mode}
use Rattle.lp_stack.specs.declared.view.Mode.TheVariants.{Asleep, Kernel}
use Rattle.lp_model.specs.Rules.{Rules}
use Rattle.lp_definitions.specs.declared.event.Event.{Event}
use Rattle.lp_definitions.specs.declared.event.Event.TheVariants.{Call, Ret, Sleep, Wake, Enter, Exit, Idle, Resched, Fork, Die, Walk, Stop, Enable, Disable, Reverse}
use Rattle.lp_definitions.specs.Leg.{LegTask}
use Rattle.lp_definitions.specs.Tasks.{Grouping, Fate, change}
use Rattle.lp_machine.specs.Machine.{own_effect, put_in}
use Rattle.lp_machine.specs.Table.{Engine, state_in}
use Rattle.lp_machine.proofs.EngineLemmas.{is_unchecked}
use Rattle.lp_transition.specs.Blames.{refused_first, frame_blame}
use Rattle.lp_transition.specs.inside.Moves.{moved_by}
use Rattle.lp_transition.proofs.Unchanged.{touches}

-- an event that puts a task into a mode, and does nothing else
pub record IsMove (event : Event) (to : TaskId × Mode) : Type 0 where
  pub quiet : is_unchecked event ≡ true
  pub touches : (u : ℕ) → touches event u ≡ nat_eq u to.0.0
  pub effect : (grouping : Grouping) (number : ℕ) (now : ℕ → Fate LegTask) → own_effect grouping number event now ≡ change to.0.0 (put_in to.1) now
  -- nobody is refused
  pub finds : (model : Rules) (e : Engine) (group : ℕ) → frame_blame (refused_first model (state_in e) event [] group) ≡ None

pub a-move : (event : Event) (to : TaskId × Mode) → moved_by event ≡ Some to → IsMove event to
a-move (Sleep t) to is =
    let h : (t, Asleep) ≡ to = cc in
    subst (IsMove (Sleep t)) h (record { quiet = refl; touches = λ u. refl; effect = λ grouping number now. refl; finds = λ model e group. refl })
a-move (Wake t) to is =
    let h : (t, Kernel) ≡ to = cc in
    subst (IsMove (Wake t)) h (record { quiet = refl; touches = λ u. refl; effect = λ grouping number now. refl; finds = λ model e group. refl })
a-move (Enter t) to is =
    let h : (t, Kernel) ≡ to = cc in
    subst (IsMove (Enter t)) h (record { quiet = refl; touches = λ u. refl; effect = λ grouping number now. refl; finds = λ model e group. refl })
a-move (Call t f) to is = cc
a-move (Ret t) to is = cc
a-move (Exit t) to is = cc
a-move (Idle t) to is = cc
a-move (Resched t) to is = cc
a-move (Fork p c how) to is = cc
a-move (Die t) to is = cc
a-move Walk to is = cc
a-move Stop to is = cc
a-move Enable to is = cc
a-move Disable to is = cc
a-move Reverse to is = cc
