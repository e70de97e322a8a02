use Rattle.std.proofs.Common.{refl, subst, sym}
use Rattle.lp_cert.specs.Explained.{IsExplained}
use Rattle.lp_cert.proofs.Explaining.{explained_first}
use Rattle.lp_replay.specs.Outcome.{run_of}
use Rattle.lp_replay.proofs.Recording.{none_recorded}
use Rattle.lp_replay.proofs.replays.recorder.Recorder.new.Goals as goal

pub returns : goal.returns
returns g c =
    let model = g.M.Consistency.rules in
    let run = run_of c.args.trace.now in
    let first : IsExplained model run c.in_ok-explained.explained = subst (IsExplained model run) (sym c.in_ok-explained.ensures) (explained_first model run c.in_ok-core.core.value refl c.in_ok-core.ensures.stands c.in_ok-core.ensures.unscanned c.in_ok-core.ensures.blameless) in
    none_recorded model run (record { explained = c.in_ok-explained.explained; replies = c.in_ok-replies.replies; stays = c.in_ok-stays.stays }) first c.in_ok-replies.ensures refl
    (c.in_ok-stays.ensures.first model run (sym c.in_ok-patches.ensures) refl refl)
