use Rattle.std.proofs.Common.{arith, ◌++◌, ◌∙◌, ap, sym, take}
use Rattle.std.proofs.lemmas.Fmt.{decimal_digit}
use Rattle.std.proofs.lemmas.List.{take_more_set}
use Rattle.itoa.proofs.Decimal.{decimal_two}
use Rattle.lp_trace.proofs.place.place_two.Goals as goal

pub returns-then-number-lt10-clause-placed : goal.returns-then-number-lt10-clause-placed
returns-then-number-lt10-clause-placed c =
    take_more_set c.args.text.now c.args.at _ (omega arith)
    ∙ ap (λ l. take c.args.at c.args.text.now ++ l) (sym (decimal_digit c.args.number c.if-number-lt10.true))

pub returns-clause-placed : goal.returns-clause-placed
returns-clause-placed c =
    c.place_pair.ensures.placed
    ∙ ap (λ l. take c.args.at c.args.text.now ++ l) (sym (decimal_two c.args.number c.if-number-lt10.false c.requires.small))
