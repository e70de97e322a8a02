-- When a count of stays is that of a run.
use Rattle.std.specs.Prelude.{◌≡◌, ℕ, suc, ◌-◌, ◌<◌, ◌≤◌, Bool, true, false, not, List, [], ◌∷◌, length, Option, Some, slice_get}
use Rattle.std.specs.List.{list_any}
use Rattle.std.specs.Option.{option_map}
use Rattle.lp_symbols.specs.declared.sym_id.SymId.{SymId}
use Rattle.lp_stack.specs.declared.number.Level.{Level}
use Rattle.lp_stack.specs.declared.number.TaskId.{TaskId}
use Rattle.lp_stack.specs.declared.frame.Frame.{Frame}
use Rattle.lp_patch.specs.Patches.{Patches}
use Rattle.lp_model.specs.Rules.{Rules, IsLawful}
use Rattle.lp_definitions.specs.declared.event.Event.{Event}
use Rattle.lp_definitions.specs.declared.event.Event.TheVariants.{Call, Ret}
use Rattle.lp_definitions.specs.declared.reply.What.{What}
use Rattle.lp_definitions.specs.declared.reply.What.TheVariants.{Ran, Refused}
use Rattle.lp_definitions.specs.Run.{Run, AreInRange, plus, first_leg, leg_of, reply}
use Rattle.lp_definitions.specs.Stays.{stack, moments, stays, stay_count, mixed_count}
use Rattle.lp_stays.specs.Invariant.{Ongoing, Tally, kept}

-- ---- The stay under way

-- the last of a list, or else
abbrev pub last_of : {A : Type 0} → A → List A → A
last_of other [] = other
last_of other (x ∷ xs) = last_of x xs

-- nothing, where no call of the patch is on the stack now
abbrev pub if_inside : List Bool → List (List Bool) → List Bool
if_inside [] found = []
if_inside (side ∷ sides) found = last_of [] found

-- the sides of the last stay, where it isn't over: a call of the patch is on the stack at the last moment
abbrev pub under_way : List (List Bool) → List Bool
under_way moments = if_inside (last_of [] moments) (stays moments)

-- what is kept of a task and a patch is so after these moments
pub record Shows (x : Ongoing) (moments : List (List Bool)) : Type 0 where
  pub frames : x.frames ≡ length (last_of [] moments)
  pub old : x.old ≡ list_any not (under_way moments)
  pub new : x.new ≡ list_any (λ side. side) (under_way moments)

-- ---- The count

-- the count is that of the run, which is one over all task numbers
pub record Counts (model : Rules) (run : Run) (count : Tally) : Type 0 where
  pub patches : count.patches ≡ run.patches
  pub tasks : run.bounds.tasks ≡ 65535
  pub calls : count.calls ≤ length run.events
  pub stays : count.stays ≡ stay_count model (first_leg model run) run.events
  pub mixed : count.mixed ≡ mixed_count model (first_leg model run) run.events
  pub present :
      (below t : ℕ) → below < length run.patches → t < 65536 →
      Shows (kept count below t) (moments model (suc below) t (first_leg model run) run.events)

-- the count is that of every run of these patches over all task numbers that has no event yet
abbrev pub IsFirst : Patches → Tally → Type 0
IsFirst patches count =
    (model : Rules) (run : Run) → run.patches ≡ patches → run.bounds.tasks ≡ 65535 → run.events ≡ [] → Counts model run count

-- ---- An event

-- the function of the last frame
abbrev pub top_of : List Frame → Option SymId
top_of frames = option_map (λ frame. frame.func) (slice_get frames (length frames - 1))

-- the event moves a stack: it is a call that ran, or a return that was accepted
abbrev pub moves : Event → What → Bool
moves (Call task func) (Ran level) = true
moves (Ret task) (Refused why) = false
moves (Ret task) _ = true
moves _ _ = false

-- the event comes next, and did what the run's reply says
pub record IsNext (model : Rules) (run : Run) (event : Event) (what : What) : Type 0 where
  pub in_range : AreInRange run.bounds run.boots
  pub replied : what ≡ (reply model (leg_of model run) event).what

-- of whichever run the one was the count, the other is that of the run with the event
abbrev pub CountsOne : Event → What → Tally → Tally → Type 0
CountsOne event what before after =
    (model : Rules) → IsLawful model → (run : Run) →
    Counts model run before → IsNext model run event what → Counts model (plus run event) after

-- with a call that ran at a level
abbrev pub CountsCall : TaskId → SymId → Level → Tally → Tally → Type 0
CountsCall task func level before after = CountsOne (Call task func) (Ran level) before after

-- with an accepted return, in each run in which the task's last frame is of the function
abbrev pub CountsReturn : TaskId → SymId → Tally → Tally → Type 0
CountsReturn task func before after =
    (what : What) → moves (Ret task) what ≡ true →
    (model : Rules) → IsLawful model → (run : Run) → top_of (stack model (leg_of model run) task.0) ≡ Some func →
    Counts model run before → IsNext model run (Ret task) what → Counts model (plus run (Ret task)) after

-- with an event that moves no stack each count is still that of its run
abbrev pub KeepsCounts : Type 0
KeepsCounts = (event : Event) (what : What) (count : Tally) → moves event what ≡ false → CountsOne event what count count
