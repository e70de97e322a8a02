use Rattle.std.proofs.Common.{◌∙◌, subst, sym}
use Rattle.lp_cert.specs.Explained.{made_in}
use Rattle.lp_cert.proofs.Tellings.{legs_made}
use Rattle.lp_replay.specs.inside.Recording.{IsRecorded, Recorded}
use Rattle.lp_replay.proofs.replays.recorder.Recorder.finish.Goals as goal

pub returns : goal.returns
returns g c = λ run is.
    let model = g.M.Consistency.rules in
    let kept : Recorded = record { explained = c.self.inside.explained; replies = c.self.inside.replies; stays = c.self.inside.stays } in
    let is_kept : IsRecorded model run kept = subst (IsRecorded model run) (sym c.self.view_is) is in
    record {
      replied = is_kept.replied;
      legs = c.in_ok-into_ends.ensures ∙ legs_made model run (made_in kept.explained) is_kept.explained.made.of_run;
      stays = c.stays.ensures ∙ is_kept.counts.stays;
      mixed = c.mixed.ensures ∙ is_kept.counts.mixed;
    }
