use Rattle.std.proofs.Common.{◌≡◌, map, subst}
use Rattle.std.proofs.lemmas.Result.{IfOk-weaker}
use Rattle.lp_stack.specs.TaskView.{seen}
use Rattle.lp_transition.specs.Blames.{is_open}
use Rattle.lp_transition.specs.Scan.{verdicts_among}
use Rattle.lp_machine.specs.Table.{state_in}
use Rattle.lp_transition.proofs.AskedScans.{asked-among}
use Rattle.lp_log.specs.Logs.{Logged}
use Rattle.lp_log.proofs.log.Log.look.Goals as goal

pub returns : goal.returns
returns g c =
    let rules = g.M.Consistency.rules in
    let e = c.self.inside.core in
    let asked = map seen c.in_ok-views.views.items in
    IfOk-weaker c.scan_shared.result _ _
    (λ found is.
    subst (λ (l : Logged). found.items ≡ verdicts_among rules c.args.kind (state_in l.core) (is_open l.core)) c.self.view_is
    (asked-among rules c.args.kind (state_in e) (is_open e) asked found.items c.in_ok-views.ensures is))
    (rw (c.aim-aim.ensures, c.as_slice.ensures.value) at c.scan_shared.ensures)
