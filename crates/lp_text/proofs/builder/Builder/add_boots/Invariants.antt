use Rattle.std.proofs.Common.{◌≡◌, ◌++◌, take}
use Rattle.lp_text.specs.Traces.{boot_words}
use Rattle.lp_text.proofs.Goes.{Goes}
use Rattle.lp_text.proofs.builder.Builder.add_boots.Given as goal

abbrev pub invariant-loop-task : goal.invariant-loop-task
invariant-loop-task l =
    Goes (boot_words) l.initial.self.place l.initial.self.parser l.boots l.self.place l.self.size l.self.parser l.task-index × (l.self.parser ≡ record l.initial.self.parser { boots = l.initial.self.parser.boots ++ take l.task-index l.boots })
