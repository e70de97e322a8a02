use Rattle.std.proofs.Common.{◌≡◌, take}
use Rattle.lp_c.specs.Arrays.{symbols_of}
use Rattle.lp_c.proofs.patches.ids_of.Given as goal

-- the functions so far
abbrev pub invariant-loop-function : goal.invariant-loop-function
invariant-loop-function l = l.ids.items ≡ symbols_of (take l.function-index l.functions)
