use Rattle.std.proofs.Common.{ap₂}
use Rattle.lp_replay.specs.Replies.{replies_of}
use Rattle.lp_replay.proofs.replies.ReplyList.with_capacity.Goals as goal

pub returns : goal.returns
unfolding replies_of
returns c = ap₂ replies_of c.in_ok-with_capacity.ensures.items c.new.ensures
