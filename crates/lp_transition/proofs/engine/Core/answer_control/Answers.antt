use Rattle.lp_transition.proofs.Turned.{answer_by_sets}
use Rattle.lp_transition.specs.inside.Invariant.{told_scan}
use Rattle.lp_transition.proofs.engine.Core.answer_control.Goals as goal

pub returns : goal.returns
returns g c =
    let i = c.self.inside in
    answer_by_sets g.M.Consistency.rules (record { number = i.events; from = i.from.0; target = i.target.0; patches = i.patches; table = i.tasks; blames = i.blames; last_scan = told_scan i.unchanged }) c.args.self.now i.waiting c.live_set.result.now c.args.event c.nobody_turns.result c.self.view_is c.self.invariant.engine c.live_set.ensures c.requires.accepted c.requires.control c.nobody_turns.ensures
