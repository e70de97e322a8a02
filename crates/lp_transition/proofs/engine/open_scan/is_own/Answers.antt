use Rattle.std.proofs.Common.{◌≡◌, None, sym, ◌∙◌}
use Rattle.lp_machine.specs.Table.{slot}
use Rattle.lp_transition.proofs.OwnGroups.{own-lone, own-none}
use Rattle.lp_transition.proofs.engine.open_scan.is_own.Goals as goal

pub returns-in-Some : goal.returns-in-Some
returns-in-Some c = λ lone. own-lone c.args.tasks.now c.args.number (c.is_alone.ensures.0 lone)

pub returns-in-None : goal.returns-in-None
returns-in-None c = λ nobody.
    let empty : slot c.args.tasks.now c.args.number ≡ None = sym c.get.ensures.value ∙ c.in-None.is in
    own-none c.args.tasks.now c.args.number empty (c.is_empty_group.ensures.0 nobody)
