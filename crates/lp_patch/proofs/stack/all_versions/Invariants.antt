use Rattle.std.proofs.Common.{◌≡◌, ℕ, ◌<◌, length, [], slice_index_or}
use Rattle.lp_patch.specs.inside.Stacks.{IsRow}
use Rattle.lp_patch.proofs.stack.all_versions.Given as goal

-- the rows of the functions so far
abbrev pub invariant-loop-func : goal.invariant-loop-func
invariant-loop-func l = record {
  count : length l.rows.items ≡ l.func;
  right : (func : ℕ) → func < l.func → IsRow l.sets func (slice_index_or l.rows.items func []);
}
