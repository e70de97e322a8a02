use Rattle.std.proofs.Common.{string_bytes, ◌∙◌, arith}
use Rattle.std.proofs.lemmas.Grind.{common_steps}
use Rattle.lp_compare.proofs.Texts.{line_end}
use Rattle.lp_compare.proofs.text.push_line.Goals as goal

pub returns : goal.returns
returns c =
    c.in_ok-push_str-4.ensures.bytes ∙ line_end (string_bytes c.args.text.now) (string_bytes c.loop-word.text) c.args.first.now c.args.words.now c.loop-word.word-index c.loop-word-test.false c.loop-word.invariant

pub loop-word-preserved : goal.loop-word-preserved
loop-word-preserved c = grind (arith, common_steps)
