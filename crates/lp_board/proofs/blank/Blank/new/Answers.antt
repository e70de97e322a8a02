use Rattle.std.proofs.Common.{◌≡◌, Option, None, Some, Result, Ok, Err, IfSome, ap, arith, true≢false}
use Rattle.std.proofs.lemmas.Grind.{common_steps}
use Rattle.std.specs.Prelude.{is_ok}
use Rattle.lp_transition.specs.declared.engine.boot.BootFault.{BootFault}
use Rattle.lp_board.proofs.blank.Blank.new.Goals as goal

-- what an engine was made for wasn't refused
made : {A : Type 0} (refusal : Option BootFault) (a : A) (P : BootFault → Type 0) → IfSome refusal (λ fault. ◌≡◌ {A = Result A BootFault} (Ok a) (Err fault)) → IfSome refusal P
made None a P so = tt
made (Some fault) a P so = absurd (true≢false (ap is_ok so))

pub after-requires-clause-patches : goal.after-requires-clause-patches
after-requires-clause-patches c = grind (arith, common_steps)

pub after-requires-clause-opening : goal.after-requires-clause-opening
after-requires-clause-opening c = grind (arith, common_steps)

pub returns-in-Ok-after-clause-refused : goal.returns-in-Ok-after-clause-refused
returns-in-Ok-after-clause-refused g c = λ _. made _ c.in-Ok.core _ c.in-Ok.ensures.refused

pub returns-in-Err-after-clause-refused : goal.returns-in-Err-after-clause-refused
returns-in-Err-after-clause-refused g c = λ _. made _ c.in-Ok.core _ c.in-Ok.ensures.refused
