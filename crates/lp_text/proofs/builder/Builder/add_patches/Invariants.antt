use Rattle.lp_text.proofs.Goes.{PatchesGo}
use Rattle.lp_text.proofs.builder.Builder.add_patches.Given as goal

abbrev pub invariant-loop-i : goal.invariant-loop-i
invariant-loop-i l = PatchesGo l.symbols l.initial.self.place l.initial.self.parser l.patches l.self.place l.self.size l.self.parser l.i
