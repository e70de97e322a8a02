use Rattle.std.proofs.Common.{◌<◌, ◌≤◌, inl, inr, None, length, set, refl, sym, ap, ◌∙◌, arith}
use Rattle.std.proofs.lemmas.Bool.{cases_lt, false≢true}
use Rattle.std.proofs.lemmas.List.{set-get_or}
use Rattle.lp_tasks.specs.inside.Slots.{padded}
use Rattle.lp_tasks.proofs.SlotLemmas.{padded-set, padded-past}
use Rattle.lp_tasks.proofs.task_table.empty.Goals as goal

pub returns-in-Some-clause-emptied : goal.returns-in-Some-clause-emptied
returns-in-Some-clause-emptied c =
    let slots = c.args.slots.now.items in
    let made : c.from.result < length slots = omega (arith, c.in-Some.ensures.variant.0 refl) in
    padded-set slots c.from.result None made ∙ ap (λ t. set (padded slots) t None) c.from.ensures

pub returns-in_default-clause-emptied : goal.returns-in_default-clause-emptied
returns-in_default-clause-emptied c =
    let slots = c.args.slots.now.items in
    let past : length slots ≤ c.args.task.0 = elim (cases_lt c.from.result (length slots)) [
      | inl made ↦ absurd (false≢true (c.in_default.ensures.variant.1 (omega arith)))
      | inr past ↦ omega arith
    ] in
    sym (ap (set (padded slots) c.args.task.0) (sym (padded-past slots c.args.task.0 past)) ∙ set-get_or (padded slots) c.args.task.0 None)
