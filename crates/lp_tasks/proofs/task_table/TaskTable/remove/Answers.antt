use Rattle.std.proofs.Common.{◌<◌, List, Option, None, ap, arith}
use Rattle.lp_definitions.specs.Leg.{LegTask}
use Rattle.lp_tasks.specs.inside.Slots.{padded}
use Rattle.lp_tasks.specs.inside.Deep.{deep_at}
use Rattle.lp_tasks.proofs.KeptLemmas.{stack-here, stack-other, tasks-removed, kept-removed}
use Rattle.lp_tasks.proofs.SlotLemmas.{group-member, group-stranger}
use Rattle.lp_tasks.proofs.task_table.TaskTable.remove.Goals as goal

pub leave-requires : goal.leave-requires
leave-requires c =
    let t = c.args.task.0 in
    let group = rw (← c.self.view_is) at c.group_of-group.ensures in
    record {
      member = group-member c.self.inside.members t c.group_of-group.result _ group (λ other. c.self.invariant.grouped other t);
      stranger = group-stranger c.self.inside.members t c.group_of-group.result _ group (λ other. c.self.invariant.grouped other t);
    }

pub invariant_of-self : goal.invariant_of-self
invariant_of-self c =
    let i = c.self.inside in
    let t = c.args.task.0 in
    let small : t < 65536 = omega arith in
    record {
      few = c.empty.ensures.few;
      room = omega (arith, c.empty.ensures.room, c.self.invariant.room);
      kept = rw (c.empty.ensures.emptied, c.remove-2.ensures.after) (kept-removed (padded i.slots.items) (deep_at i.deep) i.live i.used i.members c.self.invariant.kept t small (deep_at c.remove.new.self) (stack-other (deep_at c.remove.new.self) (deep_at i.deep) t None c.remove.ensures) (stack-here (deep_at c.remove.new.self) (deep_at i.deep) t None c.remove.ensures) c.leave.new.members (rw (← c.remove-2.ensures.after) c.remove-2.ensures.numbers) c.leave.ensures);
    }

pub returns-clause-removed : goal.returns-clause-removed
returns-clause-removed c =
    let i = c.self.inside in
    let t = c.args.task.0 in
    let small : t < 65536 = omega arith in
    rw (← c.self.view_is, c.empty.ensures.emptied) (ap (λ (slots : List (Option LegTask)). record { slots = slots; used = i.used }) (tasks-removed (padded i.slots.items) (deep_at i.deep) i.live i.used i.members c.self.invariant.kept t small (deep_at c.remove.new.self) (stack-other (deep_at c.remove.new.self) (deep_at i.deep) t None c.remove.ensures) (stack-here (deep_at c.remove.new.self) (deep_at i.deep) t None c.remove.ensures)))
