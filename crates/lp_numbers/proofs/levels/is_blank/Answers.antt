use Rattle.std.proofs.lemmas.Bool.{eqb-true, eq-eqb}
use Rattle.lp_numbers.proofs.Rows.{row_has-zero}
use Rattle.lp_numbers.proofs.ThreeLevels.{three_level-end, three_level-none}
use Rattle.lp_numbers.proofs.levels.is_blank.Goals as goal

pub returns : goal.returns
returns c = (
  λ blank k. row_has-zero c.args.words.now k (three_level-end c.args.words.now c.args.summary.now c.args.top c.requires (eqb-true c.args.top 0 blank) _),
  λ none. eq-eqb c.args.top 0 (three_level-none c.args.words.now c.args.summary.now c.args.top c.requires (λ i. (c.type_inv.words i).fits) (λ i. (c.type_inv.summary i).fits) c.ranges.top.fits none),
)
