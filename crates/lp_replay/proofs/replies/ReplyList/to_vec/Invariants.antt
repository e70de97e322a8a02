use Rattle.std.proofs.Common.{◌≡◌, ◌≤◌, ◌++◌, drop}
use Rattle.lp_replay.specs.Replies.{replies_of}
use Rattle.lp_replay.proofs.replies.ReplyList.to_vec.Given as goal

abbrev pub invariant-loop-packed : goal.invariant-loop-packed
invariant-loop-packed l =
    (l.next ≤ l.packed-index)
    × (l.replies.items ++ replies_of (drop l.packed-index l.packed-items) (drop l.next l.self-inside.groups) ≡ replies_of l.packed-items l.self-inside.groups)
