use Rattle.std.proofs.Common.{ℕ, ◌∙◌}
use mathlib.Core.Path.{fun_ext}
use Rattle.lp_transition.proofs.ScanLemmas.{waits-in_order}
use Rattle.lp_transition.specs.inside.Invariant.{told_scan}
use Rattle.lp_transition.proofs.engine.Core.waiting.Goals as goal

pub returns : goal.returns
returns g c =
    let i = c.self.inside in
    let in_order = waits-in_order (record { number = i.events; from = i.from.0; target = i.target.0; patches = i.patches; table = i.tasks; blames = i.blames; last_scan = told_scan i.unchanged }) i.waiting c.self.invariant.engine in
    let same = fun_ext (λ (group : ℕ). c.in_ok-groups.ensures group ∙ in_order group) in
    rw (← c.self.view_is) (rw same at c.group_list.ensures)
