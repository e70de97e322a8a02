use Rattle.lp_replay.proofs.Codes.{reply_coded}
use Rattle.lp_replay.proofs.replies.packed.PackedReply.of.Goals as goal

pub returns : goal.returns
returns c = reply_coded c.args.reply.what c.args.reply.completed c.code_of.result c.from.result c.code_of.ensures.code c.from.ensures
