use Rattle.std.proofs.Common.{◌<◌, ap, subst, sym, ◌∙◌}
use Rattle.lp_machine.specs.Table.{Engine}
use Rattle.lp_transition.specs.Weigh.{Weighed}
use Rattle.lp_transition.specs.Scan.{scan_event}
use Rattle.lp_transition.proofs.ScanAnswers.{weighs}
use Rattle.lp_transition.proofs.Replies.{weighed_reply}
use Rattle.lp_transition.specs.inside.Invariant.{told_scan}
use Rattle.lp_transition.proofs.engine.Core.weigh_found.Goals as goal

pub returns-clause-weighed : goal.returns-clause-weighed
returns-clause-weighed g c =
    let i = c.self.inside in
    let room = subst (λ (o : Engine). o.number < 1000000) (sym c.self.view_is) c.requires.room in
    let step = rw (c.scan_event.ensures, c.in_ok-what.ensures, c.as_slice.ensures.value) at c.scan.ensures in
    weighs g.M.Consistency.rules g.met.M.Consistency.lawful (record { number = i.events; from = i.from.0; target = i.target.0; patches = i.patches; table = i.tasks; blames = i.blames; last_scan = told_scan i.unchanged }) c.args.self.now i.waiting c.args.kind c.args.verdicts.items c.completes.result c.scan.result c.self.view_is c.self.invariant.engine c.requires.scan c.requires.found c.requires.told room (rw c.as_slice-2.ensures.value at c.completes.ensures) step

pub returns-clause-reply : goal.returns-clause-reply
returns-clause-reply g c = weighed_reply g.M.Consistency.rules g.met.M.Consistency.lawful c.args.self.now c.scan.result (scan_event c.args.kind) (returns-clause-weighed g c) (ap (λ (w : Weighed). w.event) c.scan.ensures ∙ c.scan_event.ensures)
