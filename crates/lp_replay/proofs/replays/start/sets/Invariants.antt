use Rattle.std.proofs.Common.{◌≡◌, length, map, take}
use Rattle.lp_text.specs.Traces.{functions}
use Rattle.lp_replay.specs.Outcome.{patch_of}
use Rattle.lp_replay.proofs.replays.start.sets.Given as goal

-- the patches so far
abbrev pub invariant-loop-functions : goal.invariant-loop-functions
invariant-loop-functions l = l.sets.items ≡ map (patch_of (length l.symbols)) (functions (take l.functions-index l.patches))
