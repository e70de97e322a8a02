use Rattle.std.proofs.Common.{subst}
use Rattle.lp_definitions.specs.Sound.{IsSound}
use Rattle.lp_machine.specs.Table.{Engine, state_in}
use Rattle.lp_transition.proofs.Told.{changes_tell}
use Rattle.lp_transition.proofs.engine.Core.weigh_changed_scan.Goals as goal

pub weigh_found-requires-clause-told : goal.weigh_found-requires-clause-told
weigh_found-requires-clause-told g c =
    let sound = subst (λ (o : Engine). IsSound (state_in o)) c.self.view_is c.self.invariant.engine.sound in
    changes_tell g.M.Consistency.rules c.args.self.now c.args.kind c.requires.scan sound c.in_ok-found.found.items c.in_ok-found.ensures.told
