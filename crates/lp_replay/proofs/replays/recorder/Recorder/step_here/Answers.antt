use Rattle.std.proofs.Common.{List, subst, sym}
use Rattle.lp_definitions.specs.Run.{plus}
use Rattle.lp_definitions.specs.declared.reply.Reply.{Reply}
use Rattle.lp_stays.proofs.Stepping.{unmoved}
use Rattle.lp_replay.specs.inside.Recording.{IsRecorded, Recorded}
use Rattle.lp_replay.proofs.Recording.{stepped}
use Rattle.lp_replay.proofs.replays.recorder.Recorder.step_here.Goals as goal

pub returns : goal.returns
returns g c = λ run is.
    let model = g.M.Consistency.rules in
    let given = c.in_ok-reply.reply in
    let before : Recorded = record { explained = c.self.inside.explained; replies = c.self.inside.replies; stays = c.self.inside.stays } in
    let is_kept : IsRecorded model run before = subst (IsRecorded model run) (sym c.self.view_is) is in
    let after : List Reply → Recorded = λ replies. record { explained = c.step.new.self; replies = replies; stays = before.stays } in
    let counts = unmoved c.args.event given.what before.stays (c.requires.unmoved given.what) model g.met.M.Consistency.lawful run in
    subst (λ replies. IsRecorded model (plus run c.args.event) (after replies)) (sym c.in_ok-push.ensures.ok)
    (stepped model run c.args.event before given c.step.new.self before.stays is_kept c.in_ok-reply.ensures.step (c.in_ok-reply.ensures.explained run) counts)
