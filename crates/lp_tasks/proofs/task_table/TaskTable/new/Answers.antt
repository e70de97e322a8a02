use Rattle.std.proofs.Common.{◌≡◌, ℕ, None, length, ap, ap₂, get_or, ◌∙◌, arith}
use Rattle.lp_tasks.specs.inside.Slots.{padded}
use Rattle.lp_tasks.specs.inside.Deep.{deep_at, with_deep}
use Rattle.lp_tasks.proofs.SlotLemmas.{length-padded, padded-past}
use Rattle.lp_tasks.proofs.KeptLemmas.{kept-empty, task-with_stacks}
use Rattle.lp_tasks.proofs.task_table.TaskTable.new.Goals as goal

pub invariant_of-result : goal.invariant_of-result
invariant_of-result c =
    let slots = c.in_ok-with_capacity.field-0.items in
    let none : length slots ≡ 0 = ap length c.in_ok-with_capacity.ensures.items in
    record {
      few = omega arith;
      room = c.in_ok-with_capacity.ensures.capacity;
      kept = kept-empty (padded slots) (deep_at c.in_ok-new.field-0) c.in_ok-new-2.field-0 c.in_ok-new-3.field-0 c.in_ok-new-4.field-0 (length-padded slots (omega arith)) c.in_ok-new-3.ensures.numbers (λ t. padded-past slots t (omega arith)) c.in_ok-new.ensures c.in_ok-new-2.ensures.empty c.in_ok-new-4.ensures;
    }

pub returns : goal.returns
returns c =
    let slots = c.in_ok-with_capacity.field-0.items in
    let none : length slots ≡ 0 = ap length c.in_ok-with_capacity.ensures.items in
    let empty : (t : ℕ) → get_or (padded slots) t None ≡ None = λ t. padded-past slots t (omega arith) in
    let kept = kept-empty (padded slots) (deep_at c.in_ok-new.field-0) c.in_ok-new-2.field-0 c.in_ok-new-3.field-0 c.in_ok-new-4.field-0 (length-padded slots (omega arith)) c.in_ok-new-3.ensures.numbers empty c.in_ok-new.ensures c.in_ok-new-2.ensures.empty c.in_ok-new-4.ensures in
    record {
      wide = record { slots = kept.slots_wide; used = c.in_ok-new-3.ensures.numbers };
      no_task = λ t. task-with_stacks (padded slots) (deep_at c.in_ok-new.field-0) t ∙ ap₂ with_deep (empty t) (c.in_ok-new.ensures t);
      none_used = c.in_ok-new-3.ensures.empty;
    }
