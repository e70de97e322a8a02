use Rattle.std.proofs.Common.{◌≡◌, ◌++◌, ◌∷◌, [], ◌∙◌, ap, sym, codes}
use Rattle.lp_text.proofs.QuickReasons.{line_on, number_on, numbers_on}
use Rattle.lp_text.proofs.quick_reason.hold_rest.Goals as goal

pub returns : goal.returns
returns c =
    let from_to : c.in_ok-from.fifth.now ≡ numbers_on (c.in_ok-to.to ∷ []) c.in_ok-more.more.now = number_on c.in_ok-to.to [] c.in_ok-from.fifth.now c.in_ok-to.last.now c.in_ok-more.more.now c.in_ok-to.ensures.whole c.in_ok-more.ensures in
    let from_from : c.in_ok-serial.fourth.now ≡ numbers_on (c.in_ok-from.from ∷ c.in_ok-to.to ∷ []) c.in_ok-more.more.now = number_on c.in_ok-from.from (c.in_ok-to.to ∷ []) c.in_ok-serial.fourth.now c.in_ok-from.fifth.now c.in_ok-more.more.now c.in_ok-from.ensures.whole from_to in
    let from_serial : c.in_ok-task.third.now ≡ numbers_on (c.in_ok-serial.serial ∷ c.in_ok-from.from ∷ c.in_ok-to.to ∷ []) c.in_ok-more.more.now = number_on c.in_ok-serial.serial (c.in_ok-from.from ∷ c.in_ok-to.to ∷ []) c.in_ok-task.third.now c.in_ok-serial.fourth.now c.in_ok-more.more.now c.in_ok-serial.ensures.whole from_from in
    let from_task : c.in_ok-group.second.now ≡ numbers_on (c.in_ok-task.task ∷ c.in_ok-serial.serial ∷ c.in_ok-from.from ∷ c.in_ok-to.to ∷ []) c.in_ok-more.more.now = number_on c.in_ok-task.task (c.in_ok-serial.serial ∷ c.in_ok-from.from ∷ c.in_ok-to.to ∷ []) c.in_ok-group.second.now c.in_ok-task.third.now c.in_ok-more.more.now c.in_ok-task.ensures.whole from_serial in
    let from_group : c.args.text.now ≡ numbers_on (c.in_ok-group.group ∷ c.in_ok-task.task ∷ c.in_ok-serial.serial ∷ c.in_ok-from.from ∷ c.in_ok-to.to ∷ []) c.in_ok-more.more.now = number_on c.in_ok-group.group (c.in_ok-task.task ∷ c.in_ok-serial.serial ∷ c.in_ok-from.from ∷ c.in_ok-to.to ∷ []) c.args.text.now c.in_ok-group.second.now c.in_ok-more.more.now c.in_ok-group.ensures.whole from_task in
    ((c.in_ok-group.ensures.member, c.in_ok-task.ensures.member, c.in_ok-serial.ensures.event, c.in_ok-from.ensures.event, c.in_ok-to.ensures.event), ap (λ t. codes "hold" ++ t) from_group ∙ sym (line_on (codes "hold") (c.in_ok-group.group ∷ c.in_ok-task.task ∷ c.in_ok-serial.serial ∷ c.in_ok-from.from ∷ c.in_ok-to.to ∷ []) c.in_ok-more.more.now))
