use Rattle.lp_compare.proofs.Texts.{text_is}
use Rattle.lp_compare.proofs.comparison.Comparison.text.Goals as goal

pub returns : goal.returns
returns c =
    text_is c.args.self.now _ _ _ _ c.leg_word.result.now c.as_slice.result.now c.new-text.ensures.bytes c.in_ok-push_line.ensures c.leg_word.ensures c.in_ok-push_line-2.ensures c.as_slice.ensures c.in_ok-push_rows.ensures
