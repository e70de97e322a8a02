use Rattle.std.proofs.Common.{◌≡◌, max, map, drop}
use Rattle.lp_compare.specs.Comparison.{births_in, greatest}
use Rattle.lp_compare.proofs.first_end.most_births.Given as goal

abbrev pub invariant-loop-place : goal.invariant-loop-place
invariant-loop-place l = max l.most (greatest (map births_in (drop l.place l.certs))) ≡ greatest (map births_in l.certs)
