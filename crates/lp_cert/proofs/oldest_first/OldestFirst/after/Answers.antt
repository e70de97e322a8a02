use Rattle.std.proofs.Common.{[], get_or, option_to_list, ap₂, ◌-◌}
use Rattle.lp_cert.proofs.PartLemmas.{before_tail}
use Rattle.lp_cert.proofs.oldest_first.OldestFirst.after.Goals as goal

pub returns : goal.returns
returns c =
    let lists = c.args.chains.now.lists in
    before_tail (option_to_list c.args.ongoing) (get_or lists c.args.list.0 []) (get_or lists c.args.shared.0 []) _ c.requires.tail (ap₂ (λ m n. m - n) c.count.ensures.all c.count-2.ensures.all)
