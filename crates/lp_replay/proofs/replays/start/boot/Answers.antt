use Rattle.std.proofs.Common.{◌≡◌, ◌∙◌, ap, subst, None}
use Rattle.lp_transition.specs.Boot.{boot_refusal}
use Rattle.lp_machine.specs.Steps.{StandsIn}
use Rattle.lp_machine.specs.Table.{state_in}
use Rattle.lp_replay.proofs.Starting.{boots_well, starts}
use Rattle.lp_replay.proofs.replays.start.boot.Goals as goal

pub unreachable-requires : goal.unreachable-requires
unreachable-requires g c =
    let is = c.boots.ensures.limits in
    let well : boot_refusal c.boots.result.now ≡ None = ap boot_refusal c.boots.ensures.value ∙ boots_well c.args.trace.now.boots is.boots is.boots_differ in
    cc (c.in-Err-TaskRange.ensures.memory well)

pub unreachable-requires-in-Err-TaskDoubled : goal.unreachable-requires-in-Err-TaskDoubled
unreachable-requires-in-Err-TaskDoubled g c =
    let is = c.boots.ensures.limits in
    let well : boot_refusal c.boots.result.now ≡ None = ap boot_refusal c.boots.ensures.value ∙ boots_well c.args.trace.now.boots is.boots is.boots_differ in
    cc (c.in-Err-TaskDoubled.ensures.memory well)

pub returns-in-Ok-clause-stands : goal.returns-in-Ok-clause-stands
returns-in-Ok-clause-stands g c =
    let same = starts c.args.trace.now c.args.patches c.boots.result.now c.boots.ensures.limits c.requires c.boots.ensures.value in
    subst (λ run. StandsIn g.M.Consistency.rules run (state_in c.in-Ok.core)) same c.in-Ok.ensures.stands
