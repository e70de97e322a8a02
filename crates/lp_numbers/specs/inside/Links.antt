-- How the members of groups are kept: the first member of each group, and the next one and the one before it of each member.
use Rattle.std.specs.Prelude.{◌≡◌, ℕ, zero, suc, ◌-◌, ◌<◌, ◌≤◌, Bool, true, false, List, [], ◌∷◌, ◌++◌, length, map, replicate, if◌then◌else◌, nat_eq, not, slice_index}
use Rattle.std.specs.List.{list_any}
use Rattle.lp_numbers.specs.Groups.{Groups}
use Rattle.lp_numbers.specs.Numbers.{Numbers, has}

-- the links of all numbers, 0 where none is written yet
unfoldable pub all_links : List ℕ → List ℕ
all_links links = links ++ replicate (65536 - length links) 0

-- no more links than numbers, and room for one of each
pub record HasLinks (links : List ℕ) (capacity : ℕ) : Type 0 where
  pub few : length links ≤ 65536
  pub room : 65536 ≤ capacity

-- whether a number is in a list
abbrev pub among : ℕ → List ℕ → Bool
among n list = list_any (nat_eq n) list

-- the numbers from one on, each the next of the one before it, up to 0; as many as are counted at most
unfoldable pub walk : List ℕ → ℕ → ℕ → List ℕ
walk next zero at = []
walk next (suc count) at = if nat_eq at 0 then [] else at ∷ walk next count (slice_index next at)

-- the numbers from one on
abbrev pub list_from : List ℕ → ℕ → List ℕ
list_from next at = walk next 65536 at

-- the groups that tables stand for
unfoldable pub groups_of : List ℕ → List ℕ → Groups
groups_of first next = map (list_from next) first

-- `next` leads through the list from a number on, and `before` leads back to where it began; no number is in it twice
abbrev pub IsChain : List ℕ → List ℕ → ℕ → ℕ → List ℕ → Type 0
IsChain next before back at [] = at ≡ 0
IsChain next before back at (n ∷ rest) =
    (at ≡ n) × (0 < n) × (n < 65536) × (slice_index before n ≡ back) × (among n rest ≡ false) × IsChain next before n (slice_index next n) rest

-- the tables lead through a list for each group, and no number is in two of them
pub record AreLists (first next before : List ℕ) (lists : ℕ → List ℕ) : Type 0 where
  pub chained : (group : ℕ) → IsChain next before 0 (slice_index first group) (lists group)
  pub apart : (group other n : ℕ) → among n (lists group) ≡ true → among n (lists other) ≡ true → group ≡ other

-- tables of full length that lead through the list of each group
pub record IsLinked (first next before : List ℕ) : Type 0 where
  pub firsts : length first ≡ 65536
  pub nexts : length next ≡ 65536
  pub befores : length before ≡ 65536
  pub lists : AreLists first next before (λ group. list_from next (slice_index first group))

-- the set has the groups that have a first member
abbrev pub AreNamed : List ℕ → Numbers → Type 0
AreNamed first groups = (group : ℕ) → has groups group ≡ not (nat_eq (slice_index first group) 0)

-- linked tables, with the set of the groups that have a member
pub record AreMembers (first next before : List ℕ) (groups : Numbers) : Type 0 where
  pub linked : IsLinked first next before
  pub named : AreNamed first groups
