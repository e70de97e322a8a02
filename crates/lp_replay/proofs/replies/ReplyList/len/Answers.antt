use Rattle.std.proofs.Common.{◌∙◌, sym, ap, length}
use Rattle.lp_replay.proofs.ReplyLists.{length-replies}
use Rattle.lp_replay.proofs.replies.ReplyList.len.Goals as goal

pub returns : goal.returns
returns c = ap length c.as_slice.ensures.value ∙ sym (length-replies c.self.inside.short.items c.self.inside.groups) ∙ ap length c.self.view_is
