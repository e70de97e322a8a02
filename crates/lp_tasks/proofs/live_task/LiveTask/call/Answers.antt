use Rattle.std.proofs.Common.{◌≡◌, length, refl, ap, ◌∙◌, arith}
use Rattle.std.proofs.lemmas.Bool.{eq-eqb}
use Rattle.lp_definitions.specs.Leg.{LegTask}
use Rattle.lp_tasks.specs.inside.Deep.{deep_at}
use Rattle.lp_tasks.proofs.KeptLemmas.{pushed-recorded, pushed-room}
use Rattle.lp_tasks.proofs.live_task.LiveTask.call.Goals as goal

pub push-requires-2 : goal.push-requires-2
push-requires-2 c =
    let own = c.as_slice.ensures.value ∙ ap (λ (x : LegTask). x.frames) c.self.view_is in
    rw own (pushed-room c.args.self.now (deep_at c.args.deep.now c.args.task.0) c.requires.room)

pub returns-clause-recorded : goal.returns-clause-recorded
returns-clause-recorded c =
    let own = c.as_slice.ensures.value ∙ ap (λ (x : LegTask). x.frames) c.self.view_is in
    let full : length c.args.self.now.frames ≡ 6 = rw (← c.self.view_is) (omega (arith, c.self.invariant, c.if-len-lt-OWN_FRAMES.false, c.len.ensures.value)) in
    let said = c.push-2.ensures c.args.task.0 in
    pushed-recorded c.args.self.now (deep_at c.args.deep.now c.args.task.0) (deep_at c.push-2.new.self c.args.task.0) _ full c.requires.recorded (rw (own, eq-eqb c.args.task.0 c.args.task.0 refl) at said)
