use Rattle.std.proofs.Common.{◌≡◌, ◌+◌, ◌<◌, ℕ, length, slice_index_or}
use Rattle.lp_cert.specs.inside.Parts.{IsWithout}
use Rattle.lp_cert.proofs.chains.Chains.run.Given as goal

-- the places so far, and the next list
abbrev pub invariant-loop-place : goal.invariant-loop-place
invariant-loop-place l = record {
  wide : length l.run ≡ 16;
  next : IsWithout l.self.lists l.fn.id.0 (l.first + l.place) l.at.0;
  each : (k : ℕ) → k < l.place → IsWithout l.self.lists l.fn.id.0 (l.first + k) (slice_index_or l.run k 0);
}
