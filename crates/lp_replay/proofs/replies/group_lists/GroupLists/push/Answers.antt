use Rattle.std.proofs.Common.{◌≡◌, ◌+◌, ◌≤◌, [], ◌∷◌, ◌++◌, length, ap, ap₂, ◌∙◌, arith}
use Rattle.std.proofs.lemmas.Grind.{common_steps}
use Rattle.std.proofs.lemmas.List.{length-append}
use Rattle.lp_definitions.specs.Events.{group_numbers}
use Rattle.lp_replay.specs.inside.GroupLists.{lists_from}
use Rattle.lp_replay.proofs.ListsOfGroups.{ends_added, lists_added}
use Rattle.lp_replay.proofs.replies.group_lists.GroupLists.push.Goals as goal

pub invariant_of-self-2 : goal.invariant_of-self-2
invariant_of-self-2 c =
    let i = c.self.inside in
    let whole = c.extend_from_slice.new.self in
    let ends = c.push_reserved.ensures.items ∙ ap (λ l. l ++ c.len.result ∷ []) c.reserve.ensures.items in
    let more : length i.groups.items ≤ c.len.result = omega (arith, c.len.ensures, ap length c.in_ok-extend_from_slice.ensures.items, length-append i.groups.items c.args.list.now) in
    let count : c.len.result ≡ length whole.items = omega (arith, c.len.ensures) in
    rw (ends, ← count) (ends_added 0 i.ends.items (length i.groups.items) c.len.result more c.self.invariant)

pub returns-clause-ok : goal.returns-clause-ok
returns-clause-ok c =
    let i = c.self.inside in
    let ends = c.push_reserved.ensures.items ∙ ap (λ l. l ++ c.len.result ∷ []) c.reserve.ensures.items in
    let end : c.len.result ≡ length i.groups.items + length c.args.list.now = omega (arith, c.len.ensures, ap length c.in_ok-extend_from_slice.ensures.items, length-append i.groups.items c.args.list.now) in
    ap₂ (lists_from 0) ends c.in_ok-extend_from_slice.ensures.items
    ∙ lists_added 0 i.ends.items i.groups.items c.args.list.now c.len.result c.self.invariant end
    ∙ ap (λ l. l ++ group_numbers c.args.list.now ∷ []) c.self.view_is

pub invariant_of-self-in_err-extend_from_slice : goal.invariant_of-self-in_err-extend_from_slice
invariant_of-self-in_err-extend_from_slice c = grind (arith, common_steps)
