use Rattle.std.proofs.Common.{◌≡◌, map, take}
use Rattle.lp_stack.specs.TaskView.{seen}
use Rattle.lp_patch.specs.Aimed.{aimed}
use Rattle.lp_transition.specs.Scan.{verdict_of}
use Rattle.lp_scan.proofs.plain.scan_plain.Given as goal

-- the verdicts so far
abbrev pub invariant-loop-view : goal.invariant-loop-view
invariant-loop-view g l = l.found.items ≡ map (verdict_of g.M.Consistency.rules l.kind (aimed l.aim)) (map seen (take l.view-index l.views))
