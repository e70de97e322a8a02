use Rattle.std.proofs.Common.{arith, length-append}
use Rattle.std.proofs.lemmas.Result.{IfOk-weaker}
use Rattle.lp_replay.proofs.Legs.{longer}
use Rattle.lp_replay.proofs.replays.leg.opened_after.Goals as goal

pub step_all-requires : goal.step_all-requires
step_all-requires g c = let h = c.requires in (h.0, h.1, omega (arith, h.2))

pub opened_by-requires : goal.opened_by-requires
opened_by-requires g c =
    let h = c.requires in
    (longer h.0 c.args.before.now, c.in_ok-step_all.ensures h.0 h.1, omega (arith, h.2, length-append h.0.events c.args.before.now))

pub returns : goal.returns
returns g c = IfOk-weaker c.opened_by.result _ _ (λ found h run stands. h (longer run c.args.before.now) (c.in_ok-step_all.ensures run stands)) c.opened_by.ensures
