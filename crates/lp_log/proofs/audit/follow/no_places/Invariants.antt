use Rattle.std.proofs.Common.{◌≡◌, ℕ, length, None}
use Rattle.lp_log.specs.inside.Cursors.{place_at}
use Rattle.lp_log.proofs.audit.follow.no_places.Given as goal

-- no place so far
abbrev pub invariant-loop-task : goal.invariant-loop-task
invariant-loop-task l = record { wide : length l.places.items ≡ l._task; none : (task : ℕ) → place_at l.places.items task ≡ None }
