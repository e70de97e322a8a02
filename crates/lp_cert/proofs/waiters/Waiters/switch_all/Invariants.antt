use Rattle.std.proofs.Common.{◌≡◌, ℕ, take}
use Rattle.lp_definitions.specs.Events.{group_numbers}
use Rattle.lp_cert.specs.inside.Waiters.{after_switch, lines_at}
use Rattle.lp_cert.proofs.waiters.Waiters.switch_all.Given as goal

-- the groups so far wait no longer
abbrev pub invariant-loop-group : goal.invariant-loop-group
invariant-loop-group l =
    (group : ℕ) → lines_at l.self group ≡ after_switch (group_numbers (take l.group-index l.groups)) (lines_at l.fn.self) group
