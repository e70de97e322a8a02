use Rattle.std.proofs.Common.{◌++◌, ◌∷◌, [], ap, ◌∙◌}
use Rattle.serde_json.specs.Written.{compact_text, has_float}
use Rattle.lp_compare.specs.Text.{json}
use Rattle.lp_compare.proofs.Texts.{no_float}
use Rattle.lp_compare.proofs.comparison.Comparison.json.Goals as goal

pub returns : goal.returns
unfolding json
returns c =
    c.in_ok-push_str.ensures.bytes
    ∙ ap (λ bytes. bytes ++ 10 ∷ []) (c.in_ok-text.ensures.text (ap has_float c.in_ok-value.ensures ∙ no_float c.args.self.now) ∙ ap compact_text c.in_ok-value.ensures)
