use Rattle.std.proofs.Common.{length, sym, subst, ◌∙◌}
use Rattle.std.specs.List.{AllByRecursion}
use Rattle.lp_tasks.proofs.AscendingLemmas.{members-passing}
use Rattle.lp_cert.specs.inside.Waiters.{IsBare, StandsAt}
use Rattle.lp_cert.proofs.Keeping.{waiting_stand}
use Rattle.lp_cert.proofs.waiters.are_bare.Goals as goal

pub loop-number-init : goal.loop-number-init
loop-number-init c =
    let reasons = c.args.reasons.now in
    let all = c.into_iter-number-iterator.ensures.into_iter_gives ∙ members-passing c.args.groups.now in
    record {
      stand = subst (AllByRecursion (StandsAt (length reasons.scans) reasons)) (sym all) (waiting_stand c.args.groups.now reasons c.requires);
      bare = subst (AllByRecursion (IsBare reasons)) all;
    }
