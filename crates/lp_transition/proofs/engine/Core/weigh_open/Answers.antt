use Rattle.std.proofs.Common.{◌∙◌, subst}
use Rattle.lp_transition.specs.Blames.{is_open}
use Rattle.lp_transition.specs.Scan.{MayLeaveOut}
use Rattle.lp_machine.specs.Table.{Engine, state_in}
use Rattle.lp_definitions.specs.Sound.{IsSound}
use Rattle.lp_transition.proofs.AskedScans.{among-enough}
use Rattle.lp_transition.proofs.Told.{open_tells}
use Rattle.lp_transition.proofs.Blames.{blamed_out}
use Rattle.lp_transition.specs.inside.Invariant.{told_scan}
use Rattle.lp_transition.proofs.engine.Core.weigh_open.Goals as goal

pub weigh_found-requires-clause-found : goal.weigh_found-requires-clause-found
weigh_found-requires-clause-found g c =
    let i = c.self.inside in
    let e : Engine = record { number = i.events; from = i.from.0; target = i.target.0; patches = i.patches; table = i.tasks; blames = i.blames; last_scan = told_scan i.unchanged } in
    among-enough g.M.Consistency.rules c.args.kind (state_in c.args.self.now) (is_open c.args.self.now) c.in_ok-copied.copied.items
    (subst (λ (o : Engine). MayLeaveOut g.M.Consistency.rules c.args.kind (state_in o) (is_open o)) c.self.view_is (blamed_out g.M.Consistency.rules g.met.M.Consistency.lawful e c.args.kind c.self.invariant.engine.sound c.self.invariant.blamed))
    (c.in_ok-copied.ensures.items ∙ c.requires.found)

pub weigh_found-requires-clause-told : goal.weigh_found-requires-clause-told
weigh_found-requires-clause-told g c =
    let i = c.self.inside in
    let sound = subst (λ (o : Engine). IsSound (state_in o)) c.self.view_is c.self.invariant.engine.sound in
    open_tells g.M.Consistency.rules c.args.self.now c.args.kind c.requires.scan sound c.in_ok-copied.copied.items (c.in_ok-copied.ensures.items ∙ c.requires.found)
