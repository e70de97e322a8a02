use Rattle.std.proofs.Common.{ap₂, ◌∙◌}
use Rattle.lp_replay.specs.inside.GroupLists.{lists_from}
use Rattle.lp_replay.proofs.ListsOfGroups.{none_from}
use Rattle.lp_replay.proofs.replies.group_lists.GroupLists.new.Goals as goal

pub returns : goal.returns
returns c = ap₂ (lists_from 0) c.new-2.ensures.items c.new.ensures.items ∙ none_from 0 _
