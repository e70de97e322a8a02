use Rattle.std.proofs.Common.{sym, ap, ◌∙◌}
use Rattle.lp_definitions.specs.declared.reply.Reply.{Reply}
use Rattle.lp_transition.specs.Weigh.{is_switched}
use Rattle.lp_transition.specs.inside.ScanSteps.{is_judged, is_unrefused}
use Rattle.lp_transition.proofs.ScanSwitches.{none_switched}
use Rattle.lp_transition.proofs.engine.switches.switch_scanned.Goals as goal

pub returns-then-not-is_switched : goal.returns-then-not-is_switched
returns-then-not-is_switched c =
    let still = sym (c.is_switched.ensures ∙ ap (λ (r : Reply). is_switched r.what) c.reply.ensures) ∙ c.if-not-is_switched.true in
    none_switched (is_judged c.args.step.now.verdicts) (is_unrefused c.args.refused.now) c.args.target.0 c.args.tasks.now c.args.waiting.now (c.requires still)
