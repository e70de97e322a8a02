-- What a count of stays keeps.
use Rattle.std.specs.Prelude.{◌≡◌, ℕ, ◌+◌, ◌*◌, ◌≤◌, Bool, false, List, length, slice_index_or}
use Rattle.lp_patch.specs.Patches.{Patches}

-- the stay that a task is in: how many calls of the patch's functions are on its stack, none outside of stays, and whether
-- one of the stay's calls ran the old side, and one the new
pub record Ongoing : Type 0 where
  pub frames : ℕ
  pub old : Bool
  pub new : Bool

-- outside of stays
abbrev pub outside : Ongoing
outside = record { frames = 0; old = false; new = false }

-- how many calls were counted, how many stays and mixed stays there were, and for each patch, one after the other, the stay
-- that each task is in
pub record Tally : Type 0 where
  pub patches : Patches
  pub calls : ℕ
  pub stays : ℕ
  pub mixed : ℕ
  pub present : List Ongoing

-- where a task's stay stands, for the patch below which there are so many
abbrev pub place : ℕ → ℕ → ℕ
place below t = below * 65536 + t

abbrev pub kept : Tally → ℕ → ℕ → Ongoing
kept count below t = slice_index_or count.present (place below t) outside

-- what every count keeps: a place for each patch and task number, and counts that fit
pub record IsKept (count : Tally) : Type 0 where
  pub wide : length count.present ≡ length count.patches * 65536
  pub few : count.calls ≤ 1000000
  pub stays : count.stays ≤ 16 * count.calls
  pub mixed : count.mixed ≤ 16 * count.calls
