use Rattle.std.proofs.Common.{List, is_some, map, take, ap, ◌∙◌}
use Rattle.std.proofs.lemmas.List.{take_all}
use Rattle.lp_model.specs.declared.verdict.Verdict.{Verdict}
use Rattle.lp_definitions.specs.Tasks.{first_of}
use Rattle.lp_transition.specs.inside.Blames.{told_of}
use Rattle.lp_transition.proofs.BlameLists.{AreDecided, decided_next, told_any}
use Rattle.lp_transition.proofs.engine.blames.decide_all.Goals as goal

pub loop-verdict-preserved : goal.loop-verdict-preserved
loop-verdict-preserved c =
    let i = c.loop-verdict.verdict-index in
    let vs = c.args.verdicts.now in
    let inv = c.loop-verdict.invariant in
    let so_far : AreDecided c.args.tasks.now (take i vs) c.args.of_group.now c.loop-verdict.of_group c.loop-verdict.noted c.loop-verdict.refused = record { few = inv.few; blames = inv.blames; decides = inv.decides; others = inv.others } in
    let next = decided_next c.args.tasks.now vs i _ c.args.of_group.now c.loop-verdict.of_group c.decide.new.of_group c.loop-verdict.noted c.decide.new.noted c.loop-verdict.refused c.decide.new.refused c.loop-verdict-test.true so_far c.decide.ensures in
    record { few = next.few; blames = next.blames; decides = next.decides; others = next.others }

pub returns-clause-refused : goal.returns-clause-refused
returns-clause-refused c = λ group few.
    let whole = take_all c.loop-verdict.verdict-index c.args.verdicts.now c.loop-verdict-test.false in
    c.loop-verdict.invariant.decides group few
    ∙ ap (λ (vs : List Verdict). is_some (first_of (map (told_of c.args.tasks.now group) vs))) whole
    ∙ told_any c.args.tasks.now group c.args.verdicts.now
