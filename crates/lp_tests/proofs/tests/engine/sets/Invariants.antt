use Rattle.std.proofs.Common.{◌≡◌, length, All}
use Rattle.lp_tests.proofs.tests.engine.sets.Given as goal

abbrev pub invariant-loop-ids : goal.invariant-loop-ids
invariant-loop-ids l = All (λ set. length set ≡ length l.symbols) l.sets.items
