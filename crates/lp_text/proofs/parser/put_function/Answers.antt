use Rattle.std.proofs.Common.{arith, ◌-◌}
use Rattle.std.proofs.lemmas.Grind.{common_steps}
use Rattle.lp_text.proofs.Parsers.{put_last}
use Rattle.lp_text.proofs.parser.put_function.Goals as goal

pub returns-in-Ok : goal.returns-in-Ok
returns-in-Ok c =
    put_last c.args.patches.now.items (c.args.number - 1) c.index_mut.result.now c.push.new.self c.args.func (omega arith) (omega arith) c.index_mut.ensures.value c.in-Ok.ensures.items

pub returns-then-number-len : goal.returns-then-number-len
returns-then-number-len c = grind (arith, common_steps)
