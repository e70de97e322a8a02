use Rattle.std.proofs.Common.{◌≡◌, ◌∙◌, map, subst, arith}
use Rattle.std.proofs.lemmas.Grind.{common_steps}
use Rattle.lp_model.specs.declared.check.CheckKind.TheVariants.{Walk}
use Rattle.lp_stack.specs.TaskView.{seen}
use Rattle.lp_transition.specs.Blames.{is_open}
use Rattle.lp_transition.specs.Scan.{verdicts_among}
use Rattle.lp_machine.specs.Table.{state_in}
use Rattle.lp_transition.proofs.AskedScans.{asked-among}
use Rattle.lp_log.specs.Logs.{Logged}
use Rattle.lp_log.proofs.log.Log.weigh_judged.Goals as goal

pub weigh_open-requires-clause-found : goal.weigh_open-requires-clause-found
weigh_open-requires-clause-found g c =
    let rules = g.M.Consistency.rules in
    let e = c.self.inside.core in
    let found = rw (c.aim-aim.ensures, c.as_slice.ensures.value) at c.in_ok-found.ensures in
    let among = asked-among rules Walk (state_in e) (is_open e) (map seen c.in_ok-views.views.items) c.in_ok-found.found.items c.in_ok-views.ensures found in
    c.as_slice-2.ensures.value ∙ subst (λ (l : Logged). c.in_ok-found.found.items ≡ verdicts_among rules Walk (state_in l.core) (is_open l.core)) c.self.view_is among

pub returns-clause-full : goal.returns-clause-full
returns-clause-full g c = grind (arith, common_steps)
