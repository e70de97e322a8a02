use Rattle.std.proofs.Common.{◌≤◌, length, arith}
use Rattle.lp_replay.proofs.ListsOfGroups.{after_last, after_next, none_at}
use Rattle.lp_replay.proofs.replies.group_lists.GroupLists.place_after.Goals as goal

pub returns-then-place-len : goal.returns-then-place-len
returns-then-place-len c = after_next c.args.self.now c.args.place

pub returns : goal.returns
returns c =
    let i = c.self.inside in
    let past : length i.ends.items ≤ c.args.place = omega (arith, c.len.ensures, c.if-place-len.false) in
    rw (← c.self.view_is) (after_last _ c.args.place (none_at 0 i.ends.items i.groups.items c.args.place past))
