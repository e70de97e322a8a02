use Rattle.std.proofs.Common.{◌≡◌, false, subst, sym}
use Rattle.lp_definitions.specs.declared.event.Event.{Event}
use Rattle.lp_definitions.specs.declared.event.Event.TheVariants.{Call}
use Rattle.lp_definitions.specs.declared.reply.What.TheVariants.{Ran}
use Rattle.lp_stays.specs.Counts.{moves}
use Rattle.lp_stays.proofs.Stepping.{unmoved}
use Rattle.lp_replay.specs.inside.Recording.{IsRecorded, Recorded}
use Rattle.lp_replay.proofs.Recording.{not_ran, stepped}
use Rattle.lp_replay.proofs.replays.recorder.Recorder.call.Goals.{in-Ran, in_default}
use Rattle.lp_replay.proofs.replays.recorder.Recorder.call.Goals as goal

pub returns : goal.returns
returns g c = λ run is.
    let model = g.M.Consistency.rules in
    let lawful = g.met.M.Consistency.lawful in
    let event : Event = Call c.args.task c.args.func in
    let given = c.in_ok-reply.reply in
    let before : Recorded = record { explained = c.self.inside.explained; replies = c.self.inside.replies; stays = c.self.inside.stays } in
    let is_kept : IsRecorded model run before = subst (IsRecorded model run) (sym c.self.view_is) is in
    elim c.match-reply.branch [
      | in-Ran w ↦
          let ran : given.what ≡ Ran w.in-Ran.level = w.in-Ran.is in
          rw (c.in_ok-push.ensures.ok, w.self-inside-is) (stepped model run event before given c.step.new.self w.call.new.self is_kept c.in_ok-reply.ensures.step (c.in_ok-reply.ensures.explained run) (λ counts next. w.call.ensures.counts model lawful run counts (rw ran at next)))
      | in_default w ↦
          let none : moves event given.what ≡ false = not_ran c.args.task c.args.func given.what w.in_default.not-Ran in
          rw (c.in_ok-push.ensures.ok, w.self-inside-is) (stepped model run event before given c.step.new.self before.stays is_kept c.in_ok-reply.ensures.step (c.in_ok-reply.ensures.explained run) (unmoved event given.what before.stays none model lawful run))
    ]
