use Rattle.std.proofs.Common.{◌≡◌, ◌<◌, ◌≤◌, ℕ, None, false, is_some, map, take, length}
use Rattle.lp_numbers.specs.Numbers.{has}
use Rattle.lp_definitions.specs.Tasks.{first_of}
use Rattle.lp_transition.specs.Blames.{or_blame}
use Rattle.lp_transition.specs.inside.Blames.{blame_at, found_by, told_of}
use Rattle.lp_transition.proofs.engine.blames.decide_all.Given as goal

-- what the verdicts so far find, and the groups of which they refuse a member
abbrev pub invariant-loop-verdict : goal.invariant-loop-verdict
invariant-loop-verdict l = record {
  few : length l.of_group ≤ 65536;
  blames : (group : ℕ) → group < 65536 → blame_at l.of_group group ≡ or_blame (blame_at l.fn.of_group group) (found_by l.tasks group (take l.verdict-index l.verdicts));
  decides : (group : ℕ) → group < 65536 → has l.refused group ≡ is_some (first_of (map (told_of l.tasks group) (take l.verdict-index l.verdicts)));
  others : (group : ℕ) → has l.noted group ≡ false → blame_at l.of_group group ≡ None;
}
