use Rattle.std.proofs.Common.{◌∙◌, subst}
use Rattle.lp_definitions.specs.Sound.{IsSound}
use Rattle.lp_machine.specs.Table.{Engine, state_in}
use Rattle.lp_transition.proofs.AskedScans.{all-enough}
use Rattle.lp_transition.proofs.Told.{all_tells}
use Rattle.lp_transition.proofs.engine.Core.weigh_scan.Goals as goal

pub weigh_found-requires-clause-found : goal.weigh_found-requires-clause-found
weigh_found-requires-clause-found g c = all-enough g.M.Consistency.rules c.args.kind (state_in c.args.self.now) c.in_ok-copied.copied.items (c.in_ok-copied.ensures.items ∙ c.requires.found)

pub weigh_found-requires-clause-told : goal.weigh_found-requires-clause-told
weigh_found-requires-clause-told g c =
    let sound = subst (λ (o : Engine). IsSound (state_in o)) c.self.view_is c.self.invariant.engine.sound in
    all_tells g.M.Consistency.rules c.args.self.now c.args.kind c.requires.scan sound c.in_ok-copied.copied.items (c.in_ok-copied.ensures.items ∙ c.requires.found)
