use Rattle.std.proofs.Common.{◌≡◌, true, false, Option, subst, sym, ◌∙◌}
use Rattle.lp_symbols.specs.declared.sym_id.SymId.{SymId}
use Rattle.lp_definitions.specs.declared.event.Event.{Event}
use Rattle.lp_definitions.specs.declared.event.Event.TheVariants.{Ret}
use Rattle.lp_stays.specs.Counts.{moves}
use Rattle.lp_stays.proofs.Stepping.{empty_return, unmoved}
use Rattle.lp_replay.specs.inside.Recording.{IsRecorded, Recorded}
use Rattle.lp_replay.proofs.Recording.{no_some, stepped}
use Rattle.lp_replay.proofs.replays.recorder.Recorder.ret.Goals.{in-Some+then-is_accepted, in-Some+else-is_accepted, in_default}
use Rattle.lp_replay.proofs.replays.recorder.Recorder.ret.Goals as goal

pub returns : goal.returns
returns g c = λ run is.
    let model = g.M.Consistency.rules in
    let lawful = g.met.M.Consistency.lawful in
    let event : Event = Ret c.args.task in
    let given = c.in_ok-reply.reply in
    let left : Option SymId = c.last_function-left.result in
    let before : Recorded = record { explained = c.self.inside.explained; replies = c.self.inside.replies; stays = c.self.inside.stays } in
    let is_kept : IsRecorded model run before = subst (IsRecorded model run) (sym c.self.view_is) is in
    let top = (rw c.core.ensures at c.last_function-left.ensures) run is_kept.explained.stands in
    elim c.match-left.branch [
      | in-Some+then-is_accepted w ↦
          let moved : moves event given.what ≡ true = sym (w.is_accepted.ensures c.args.task) ∙ w.if-is_accepted.true in
          let last = sym top ∙ w.in-Some.is in
          rw (c.in_ok-push.ensures.ok, w.self-inside-is) (stepped model run event before given c.step.new.self w.ret.new.self is_kept c.in_ok-reply.ensures.step (c.in_ok-reply.ensures.explained run) (w.ret.ensures.counts given.what moved model lawful run last))
      | in-Some+else-is_accepted w ↦
          let none : moves event given.what ≡ false = sym (w.is_accepted.ensures c.args.task) ∙ w.if-is_accepted.false in
          rw (c.in_ok-push.ensures.ok, w.self-inside-is) (stepped model run event before given c.step.new.self before.stays is_kept c.in_ok-reply.ensures.step (c.in_ok-reply.ensures.explained run) (unmoved event given.what before.stays none model lawful run))
      | in_default w ↦
          let last = sym top ∙ no_some left w.in_default.not-Some in
          rw (c.in_ok-push.ensures.ok, w.self-inside-is) (stepped model run event before given c.step.new.self before.stays is_kept c.in_ok-reply.ensures.step (c.in_ok-reply.ensures.explained run) (λ counts next. empty_return model lawful run before.stays counts c.args.task given.what last next))
    ]
