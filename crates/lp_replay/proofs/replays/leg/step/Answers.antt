use Rattle.lp_replay.proofs.Legs.{scan_opens, step_opens}
use Rattle.lp_replay.proofs.replays.leg.step.Goals as goal

pub returns-in-Ok : goal.returns-in-Ok
returns-in-Ok g c = λ run stands.
    step_opens g.M.Consistency.rules run c.args.event c.args.core.now c.step.new.self c.in-Ok.reply c.opens_leg.result c.opens_leg.ensures c.in-Ok.ensures.step stands

pub returns-in-Some : goal.returns-in-Some
returns-in-Some g c = λ run stands.
    scan_opens g.M.Consistency.rules run c.args.event c.in-Some.kind c.args.core.now c.step_quiet_scan.new.self c.step_quiet_scan.result c.in-Some.ensures.scan.1 c.step_quiet_scan.ensures.step stands
