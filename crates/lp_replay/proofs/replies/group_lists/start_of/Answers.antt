use Rattle.std.proofs.Common.{◌≡◌, ◌<◌, ◌-◌, suc, length, sym, ap, ◌∙◌, arith}
use Rattle.lp_replay.specs.inside.GroupLists.{start_of}
use Rattle.lp_replay.proofs.ListsOfGroups.{start_after}
use Rattle.lp_replay.proofs.replies.group_lists.start_of.Goals as goal

pub returns-else-place-eq0 : goal.returns-else-place-eq0
returns-else-place-eq0 c =
    let one : suc (c.args.place - 1) ≡ c.args.place = omega (arith, c.if-place-eq0.false) in
    let below : c.args.place - 1 < length c.args.ends.now = omega (arith, c.requires, one) in
    sym (start_after 0 c.args.ends.now (c.args.place - 1) below) ∙ ap (start_of 0 c.args.ends.now) one
