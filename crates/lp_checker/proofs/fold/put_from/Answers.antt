use Rattle.std.proofs.Common.{◌≡◌, if◌then◌else◌, nat_eq, sym, ◌∙◌}
use Rattle.std.proofs.lemmas.Result.{on_ok_weaker}
use Rattle.lp_definitions.specs.Tasks.{Live, Dead}
use Rattle.lp_machine.specs.Table.{leg_tasks}
use Rattle.lp_tasks.proofs.TableLemmas.{live_from_slot}
use Rattle.lp_checker.proofs.OpeningTasks.{positive, one_set, dead_at}
use Rattle.lp_checker.proofs.fold.put_from.Goals as goal

pub put-requires-clause-positive : goal.put-requires-clause-positive
put-requires-clause-positive c = positive c.args.opening.now c.args.task.0 c.in-Some.live c.requires.opening.sound (sym c.in_ok-live.ensures ∙ c.in-Some.is)

pub returns-in-Some : goal.returns-in-Some
returns-in-Some c =
    let t = c.args.task.0 in
    let table = c.args.opening.now.table in
    let x = c.in-Some.live in
    let live = live_from_slot table t x (sym c.in_ok-live.ensures ∙ c.in-Some.is) in
    on_ok_weaker c.put.result
    (λ (e : leg_tasks c.put.new.self ≡ (λ u. if nat_eq u t then Live x else leg_tasks c.args.tasks.now u)). one_set t (leg_tasks c.put.new.self) (leg_tasks c.args.tasks.now) (leg_tasks table) (Live x) live e)
    c.put.ensures.put

pub returns-in-None : goal.returns-in-None
returns-in-None c =
    let table = c.args.opening.now.table in
    one_set c.args.task.0 (leg_tasks c.bury.new.self) (leg_tasks c.args.tasks.now) (leg_tasks table) Dead (dead_at table c.args.task.0 (sym c.in-None.is ∙ c.in_ok-live.ensures) (sym c.used.ensures ∙ c.if-used.true)) c.bury.ensures
