use Rattle.std.proofs.Common.{◌≡◌, take}
use Rattle.lp_text.specs.Traces.{name, patch_words}
use Rattle.lp_text.proofs.Folds.{patches_so_far}
use Rattle.lp_text.proofs.Goes.{Goes}
use Rattle.lp_text.proofs.builder.Builder.add_patch.Given as goal

abbrev pub invariant-loop-func : goal.invariant-loop-func
invariant-loop-func l =
    Goes (λ func. patch_words l.initial.self.parser.form l.number (name l.symbols func)) l.initial.self.place l.initial.self.parser l.patch l.self.place l.self.size l.self.parser l.func-index × (l.self.parser ≡ record l.initial.self.parser { patches = patches_so_far l.initial.self.parser.patches (take l.func-index l.patch) })
