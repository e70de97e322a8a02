use Rattle.std.proofs.Common.{arith, ◌∙◌}
use Rattle.lp_trace.proofs.Counting.{few_tens, some_tens}
use Rattle.lp_trace.proofs.place.place_tens.Goals as goal

pub returns-clause-digits : goal.returns-clause-digits
returns-clause-digits c = c.place_number.ensures.placed ∙ some_tens c.args.tens (omega arith)

pub returns-clause-few : goal.returns-clause-few
returns-clause-few c = few_tens c.args.tens c.place_number.result c.place_number.new.text (omega arith) (omega arith) c.place_number.ensures.placed
