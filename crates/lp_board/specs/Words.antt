-- What a board shows of the tasks.
use Rattle.std.specs.Prelude.{ℕ, Bool, not, min, List, Option, Some, None, if◌then◌else◌, nat_lt}
use Rattle.std.specs.List.{filter_map, range_with_len}
use Rattle.lp_stack.specs.declared.number.TaskId.{TaskId}
use Rattle.lp_definitions.specs.Tasks.{Fate, Unused, Live, Dead}
use Rattle.lp_definitions.specs.Leg.{LegTask, State}
use Rattle.lp_machine.specs.Machine.{complete_in}
use Rattle.lp_board.specs.declared.shown.Shown.{Shown}
use Rattle.lp_board.specs.declared.shown.Shown.TheVariants.{Absent, Settled, Unpatched, Patched}

-- a live task on a level, while a transition is under way or not, whose lower level is this one
abbrev pub shown_on : (in_transition : Bool) → (lower : ℕ) → (level : ℕ) → Shown
shown_on in_transition lower level = if in_transition then (if nat_lt lower level then Patched else Unpatched) else Settled

-- what is shown of a task number of this fate
abbrev pub shown_of : (in_transition : Bool) → (lower : ℕ) → Fate LegTask → Shown
shown_of in_transition lower Unused = Absent
shown_of in_transition lower (Live x) = shown_on in_transition lower x.level
shown_of in_transition lower Dead = Absent

-- a transition is under way: some live task is off the target
abbrev pub is_in_transition : State → Bool
is_in_transition s = not (complete_in s)

-- the lower of the two levels between which the transition switches
abbrev pub lower_level : State → ℕ
lower_level s = min s.from s.target

-- what is shown of a task. In a transition a live task is on one of its two levels, and it is patched on the higher one
-- (Linux livepatch: a task's patch state is -1, 0 or 1)
abbrev pub shown_word : State → ℕ → Shown
shown_word s t = shown_of (is_in_transition s) (lower_level s) (s.tasks t)

-- a task with what is shown of it, where it is live
abbrev pub if_live : ℕ → Shown → Option (TaskId × Shown)
if_live t Absent = None
if_live t shown = Some (record { 0 = t }, shown)

-- the live tasks with what is shown of them, by increasing number
unfoldable pub all_shown : (ℕ → Shown) → List (TaskId × Shown)
all_shown shown = filter_map (λ t. if_live t (shown t)) (range_with_len 0 65536)
