-- Kinds of events, the numbers of refusals, and groups as replies list them.
use Rattle.std.specs.Prelude.{ℕ, Bool, true, false, List, map}
use Rattle.lp_stack.specs.declared.number.GroupId.{GroupId}
use Rattle.lp_model.specs.declared.check.ForkKind.{ForkKind}
use Rattle.lp_definitions.specs.declared.event.Event.{Event}
use Rattle.lp_definitions.specs.declared.event.Event.TheVariants.{Fork, Walk, Stop, Enable, Disable, Reverse}
use Rattle.lp_definitions.specs.declared.refusal.Refusal.{Refusal}
use Rattle.lp_definitions.specs.declared.refusal.Refusal.TheVariants.{UnknownTask, UnknownSymbol, TaskRange, TaskUsed, WrongClass, WrongMode, StackFull, StackEmpty, StackNotEmpty, InTransition, NotInTransition, AlreadyThere}

-- every stack is looked at: while the tasks run, as Linux livepatch does from time to time,
-- or with all CPUs stopped, as Ksplice does
abbrev pub is_scan : Event → Bool
is_scan Walk = true
is_scan Stop = true
is_scan _ = false

-- a transition begins or turns round
abbrev pub is_control : Event → Bool
is_control Enable = true
is_control Disable = true
is_control Reverse = true
is_control _ = false

-- a fork, by the numbers of the two tasks
abbrev pub fork : (parent child : ℕ) → ForkKind → Event
fork parent child how = Fork (record { 0 = parent }) (record { 0 = child }) how

-- the number of a refusal
abbrev pub refusal_number : Refusal → ℕ
refusal_number UnknownTask = 1
refusal_number UnknownSymbol = 2
refusal_number TaskRange = 3
refusal_number TaskUsed = 4
refusal_number WrongClass = 5
refusal_number WrongMode = 6
refusal_number StackFull = 7
refusal_number StackEmpty = 8
refusal_number StackNotEmpty = 9
refusal_number InTransition = 10
refusal_number NotInTransition = 11
refusal_number AlreadyThere = 12

-- groups by their numbers
abbrev pub group_numbers : List GroupId → List ℕ
group_numbers groups = map (λ group. group.0) groups
