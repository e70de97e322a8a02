use Rattle.std.proofs.Common.{map}
use Rattle.lp_stack.specs.TaskView.{seen}
use Rattle.lp_transition.specs.Blames.{is_open}
use Rattle.lp_machine.specs.Table.{state_in}
use Rattle.lp_transition.proofs.AskedScans.{asked-among}
use Rattle.lp_tests.proofs.tests.engine.open.open_scan.Goals as goal

pub weigh_open-requires-clause-found : goal.weigh_open-requires-clause-found
weigh_open-requires-clause-found g c =
    let rules = g.M.Consistency.rules in
    let found = rw (c.aim.ensures, c.as_slice.ensures.value) at c.in_ok-found.ensures in
    rw c.as_slice-2.ensures.value (asked-among rules c.args.kind (state_in c.args.core.now) (is_open c.args.core.now) (map seen c.in_ok-views.views.items) c.in_ok-found.found.items c.in_ok-views.ensures found)
