use Rattle.std.proofs.Common.{arith, map, ◌∙◌, ap}
use Rattle.std.proofs.lemmas.Grind.{common_steps}
use Rattle.std.proofs.lemmas.List.{length-map}
use Rattle.lp_text.specs.Build.{of_parts}
use Rattle.lp_text.proofs.Making.{made_trace}
use Rattle.lp_text.proofs.of.make.Goals as goal

pub returns-in-Ok-fill-clause-made : goal.returns-in-Ok-fill-clause-made
returns-in-Ok-fill-clause-made c =
    let same = c.in-Ok-fill.ensures.added ∙ ap (λ t. of_parts t.form c.args.symbols.now (map (λ patch. patch.now) c.args.patches.now) c.args.boots.now c.args.events.now) c.in-Ok.ensures.0 in
    made_trace (of_parts c.args.form c.args.symbols.now (map (λ patch. patch.now) c.args.patches.now) c.args.boots.now c.args.events.now) c.fill.new.builder.parser c.into_trace.result c.fill.new.builder.place c.fill.new.builder.size c.in-Ok-fill.ensures.built same (omega (arith, c.in-Ok-fill.ensures.some, length-map c.args.patches.now (λ patch. patch.now))) c.into_trace.ensures

pub into_trace-requires-clause-patched : goal.into_trace-requires-clause-patched
into_trace-requires-clause-patched c = grind (arith, common_steps)
