use Rattle.std.proofs.Common.{◌≡◌, ◌∙◌, None, ap, arith, inl}
use Rattle.lp_transition.specs.Boot.{boot_refusal}
use Rattle.lp_transition.specs.declared.engine.boot.BootFault.TheVariants.{NoMemory}
use Rattle.lp_board.specs.declared.launch.LaunchFault.TheVariants.{Boot}
use Rattle.lp_replay.proofs.Starting.{boots_well}
use Rattle.lp_threads.proofs.playing.play.Goals as goal

-- no boot task of a trace is at fault
pub of_launch-requires : goal.of_launch-requires
of_launch-requires g c =
    let is = c.boots.ensures.limits in
    let well : boot_refusal c.boots.result.now ≡ None = ap boot_refusal c.boots.ensures.value ∙ boots_well c.args.trace.now.boots is.boots is.boots_differ in
    let same = c.in-Err.ensures.memory (record { some = omega arith; few = omega arith }) well in
    let fault : c.in-Err.fault ≡ Boot NoMemory = cc in
    inl fault
