use Rattle.std.proofs.Common.{rules, ◌≡◌, ◌+◌, ◌++◌, ◌∷◌, [], arith, length}
use Rattle.std.proofs.lemmas.Grind.{common_steps}
use Rattle.std.proofs.lemmas.List.{length-append}
use Rattle.std.proofs.lemmas.List.Elements.{All-push}
use Rattle.lp_board.specs.Readers.{Knows}
use Rattle.lp_board.proofs.blank.seat_all.Goals as goal

pub loop-made-preserved : goal.loop-made-preserved
loop-made-preserved g c =
    let before = c.loop-made.all.items in
    let items : c.push.new.self.items ≡ before ++ c.new.result ∷ [] = search rules in
    let count : length (before ++ c.new.result ∷ []) ≡ c.loop-made._made + 1 = omega (arith, length-append before (c.new.result ∷ []), c.loop-made.invariant.1) in
    rw items (All-push (λ (b : Knows). b ≡ record { seen = []; known = [] }) before c.new.result c.loop-made.invariant.0 c.new.ensures, count)

pub returns-then-is_err-clause-refused : goal.returns-then-is_err-clause-refused
returns-then-is_err-clause-refused c = grind (arith, common_steps)
