use Rattle.std.proofs.Common.{◌≡◌, ◌++◌, ◌∷◌, [], ◌∙◌, ap, sym, codes}
use Rattle.lp_text.proofs.QuickReasons.{line_on, number_on, numbers_on}
use Rattle.lp_text.proofs.quick_reason.born_rest.Goals as goal

pub returns : goal.returns
returns c =
    let from_at : c.in_ok-parent.third.now ≡ numbers_on (c.in_ok-at.at ∷ []) c.in_ok-more.more.now = number_on c.in_ok-at.at [] c.in_ok-parent.third.now c.in_ok-at.last.now c.in_ok-more.more.now c.in_ok-at.ensures.whole c.in_ok-more.ensures in
    let from_parent : c.in_ok-group.second.now ≡ numbers_on (c.in_ok-parent.parent ∷ c.in_ok-at.at ∷ []) c.in_ok-more.more.now = number_on c.in_ok-parent.parent (c.in_ok-at.at ∷ []) c.in_ok-group.second.now c.in_ok-parent.third.now c.in_ok-more.more.now c.in_ok-parent.ensures.whole from_at in
    let from_group : c.args.text.now ≡ numbers_on (c.in_ok-group.group ∷ c.in_ok-parent.parent ∷ c.in_ok-at.at ∷ []) c.in_ok-more.more.now = number_on c.in_ok-group.group (c.in_ok-parent.parent ∷ c.in_ok-at.at ∷ []) c.args.text.now c.in_ok-group.second.now c.in_ok-more.more.now c.in_ok-group.ensures.whole from_parent in
    ((c.in_ok-group.ensures.member, c.in_ok-parent.ensures.member, c.in_ok-at.ensures.event), ap (λ t. codes "born" ++ t) from_group ∙ sym (line_on (codes "born") (c.in_ok-group.group ∷ c.in_ok-parent.parent ∷ c.in_ok-at.at ∷ []) c.in_ok-more.more.now))
