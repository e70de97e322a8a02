use Rattle.lp_transition.proofs.ScanLemmas.{views-in_order}
use Rattle.lp_transition.specs.inside.Invariant.{told_scan}
use Rattle.lp_transition.proofs.engine.Core.views.Goals as goal

pub returns : goal.returns
returns g c =
    let i = c.self.inside in
    let in_order = views-in_order (record { number = i.events; from = i.from.0; target = i.target.0; patches = i.patches; table = i.tasks; blames = i.blames; last_scan = told_scan i.unchanged }) i.waiting c.self.invariant.engine in
    rw (← c.self.view_is) (rw in_order at c.views_in.ensures)
