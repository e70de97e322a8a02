use Rattle.std.proofs.Common.{map, drop}
use Rattle.std.specs.List.{flat_map}
use Rattle.lp_text.specs.Words.{line_of}
use Rattle.lp_text.specs.Traces.{boot_words}
use Rattle.lp_text.specs.inside.Writing.{Left, seen_of}
use Rattle.lp_text.proofs.write.put_boots.Given as goal

abbrev pub invariant-loop-task : goal.invariant-loop-task
invariant-loop-task g l =
    Left (seen_of g.W.Write.contents l.fn.writer) (seen_of g.W.Write.contents l.writer) (flat_map line_of (map boot_words l.fn.boots)) (flat_map line_of (map boot_words (drop l.task-index l.fn.boots)))
