-- The stays of tasks in a patch's functions, and whether both sides of the patch ran in one,
-- which a consistency model is there to exclude.
-- A call runs the new side of a patch if its level has the patch, else the old side.
use Rattle.std.specs.Prelude.{ℕ, Bool, not, ◌&&◌, List, [], ◌∷◌, ◌++◌, map, length, filter, flat_map, count_by, nat_le}
use Rattle.std.specs.List.{list_any, range_with_len}
use Rattle.lp_stack.specs.declared.frame.Frame.{Frame}
use Rattle.lp_patch.specs.Patches.{Patches, patch_has}
use Rattle.lp_model.specs.Rules.{Rules}
use Rattle.lp_definitions.specs.declared.event.Event.{Event}
use Rattle.lp_definitions.specs.Tasks.{on_live}
use Rattle.lp_definitions.specs.Leg.{Leg}
use Rattle.lp_definitions.specs.Run.{shown, next_leg}

-- the sides on which the patch's calls on a stack run: true where the call's level has the patch
abbrev pub sides : Patches → ℕ → List Frame → List Bool
sides patches patch frames =
    map (λ frame. nat_le patch frame.level.0) (filter (λ frame. patch_has patches patch frame.func.0) frames)

-- the present stack of a task
abbrev pub stack : Rules → Leg → ℕ → List Frame
stack model leg t = on_live [] (λ x. x.frames) (shown model leg t)

-- the sides of the patch's calls on the task's stack, before the first event and after each
unfoldable pub moments : Rules → ℕ → ℕ → Leg → List Event → List (List Bool)
moments model patch t leg [] = sides leg.patches patch (stack model leg t) ∷ []
moments model patch t leg (event ∷ events) =
    sides leg.patches patch (stack model leg t) ∷ moments model patch t (next_leg model leg event) events

-- one moment more in front of the first stay
abbrev pub join_first : List Bool → List (List Bool) → List (List Bool)
join_first now [] = now ∷ []
join_first now (stay ∷ stays) = (now ++ stay) ∷ stays

-- a moment, the moments after it, and their stays
abbrev pub before_stays : List Bool → List (List Bool) → List (List Bool) → List (List Bool)
before_stays [] after stays = stays
before_stays (side ∷ now) [] stays = (side ∷ now) ∷ []
before_stays (side ∷ now) ([] ∷ after) stays = (side ∷ now) ∷ stays
before_stays (side ∷ now) ((next ∷ sides) ∷ after) stays = join_first (side ∷ now) stays

-- the stays: each greatest run of moments with such calls on the stack, as the list of all their sides
unfoldable pub stays : List (List Bool) → List (List Bool)
stays [] = []
stays (now ∷ after) = before_stays now after (stays after)

-- both sides ran in the stay
abbrev pub is_mixed : List Bool → Bool
is_mixed stay = list_any (λ side. side) stay && list_any not stay

-- all stays of all tasks, counted for each patch by itself
unfoldable pub all_stays : Rules → Leg → List Event → List (List Bool)
all_stays model leg events =
    let patches = range_with_len 1 (length leg.patches) in
    let of_task = λ (t : ℕ). flat_map (λ patch. stays (moments model patch t leg events)) patches in
    flat_map of_task (range_with_len 1 leg.bounds.tasks)

-- how many stays there are, and how many are mixed, as a report tells
abbrev pub stay_count : Rules → Leg → List Event → ℕ
stay_count model leg events = length (all_stays model leg events)

abbrev pub mixed_count : Rules → Leg → List Event → ℕ
mixed_count model leg events = count_by is_mixed (all_stays model leg events)
