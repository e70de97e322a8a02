use Rattle.std.proofs.Common.{◌<◌, length}
use Rattle.std.proofs.lemmas.List.Sorted.{All-permutation}
use Rattle.lp_checker.specs.declared.marks.Look.{Look}
use Rattle.lp_checker.proofs.marks.looks_at.Goals as goal

pub loop-i-preserved : goal.loop-i-preserved
loop-i-preserved c = c.in_ok-add_looks.ensures (length c.args.lines.now) c.loop-i-test.true c.loop-i.invariant

pub returns : goal.returns
returns c = All-permutation (λ (look : Look). look.line < length c.args.lines.now) c.loop-i.looks.items _ c.sort_unstable.ensures.permutation c.loop-i.invariant
