use Rattle.std.proofs.Common.{rules, ◌≡◌, ◌∙◌, [], ap}
use Rattle.lp_machine.specs.Steps.{StandsIn}
use Rattle.lp_definitions.specs.Run.{Run}
use Rattle.lp_machine.specs.Table.{Engine, state_in}
use Rattle.lp_transition.specs.Blames.{blame_of}
use Rattle.livepatch.specs.Simulated.{run_with}
use Rattle.livepatch.proofs.Keeping.{kept_first}
use Rattle.livepatch.proofs.simulator.Simulator.over.Goals as goal

pub invariant_of-result : goal.invariant_of-result
invariant_of-result g c =
    let model = g.M.Consistency.rules in
    let core : c.in_ok-core.core.value ≡ c.args.core = c.in_ok-core.ensures.ok in
    let patches : c.in_ok-patches.patches ≡ c.args.core.patches = search rules in
    let boots : c.in_ok-boots.boots.items ≡ c.args.boots.now = c.in_ok-boots.ensures.items in
    let none : c.new-3.result.items ≡ [] = c.new-3.ensures.items in
    let run : Run = run_with c.in_ok-patches.patches c.in_ok-boots.boots.items c.new-3.result.items in
    let stands : StandsIn model run (state_in c.in_ok-core.core.value) = rw (core, patches, boots, none) c.requires.stands in
    kept_first model run c.in_ok-core.core.value c.in_ok-explained.explained none stands (ap (λ (e : Engine). e.last_scan.kind) core ∙ c.requires.unscanned) (λ group. ap (λ (e : Engine). blame_of e group) core ∙ c.requires.blameless group) c.in_ok-explained.ensures
