use Rattle.std.proofs.Common.{map, arith}
use Rattle.std.proofs.lemmas.Grind.{common_steps}
use Rattle.lp_text.specs.Build.{of_parts}
use Rattle.lp_text.proofs.Making.{symbols_err, patches_err, boots_err, events_give}
use Rattle.lp_text.proofs.of.fill.Goals as goal

pub returns-in-Err-clause-gives : goal.returns-in-Err-clause-gives
returns-in-Err-clause-gives c =
    symbols_err (of_parts c.args.builder.now.parser.form c.args.symbols.now (map (λ patch. patch.now) c.args.patches.now) c.args.boots.now c.args.events.now) c.args.builder.now.parser c.args.builder.now.place c.args.builder.now.size c.requires.early c.requires.built c.in-Err.fault c.in-Err.ensures.gives

pub returns-in-Err-add_patches-clause-gives : goal.returns-in-Err-add_patches-clause-gives
returns-in-Err-add_patches-clause-gives c =
    patches_err (of_parts c.args.builder.now.parser.form c.args.symbols.now (map (λ patch. patch.now) c.args.patches.now) c.args.boots.now c.args.events.now) c.args.builder.now.parser c.args.builder.now.place c.args.builder.now.size c.requires.early c.requires.built c.add_symbols.new.self.parser c.add_symbols.new.self.place c.add_symbols.new.self.size c.in_default.ensures.gives c.in_default.ensures.built c.in_default.ensures.added c.in-Err-add_patches.fault c.in-Err-add_patches.ensures.gives

pub returns-in-Err-add_boots-clause-gives : goal.returns-in-Err-add_boots-clause-gives
returns-in-Err-add_boots-clause-gives c =
    boots_err (of_parts c.args.builder.now.parser.form c.args.symbols.now (map (λ patch. patch.now) c.args.patches.now) c.args.boots.now c.args.events.now) c.args.builder.now.parser c.args.builder.now.place c.args.builder.now.size c.requires.early c.requires.built c.add_symbols.new.self.parser c.add_symbols.new.self.place c.add_symbols.new.self.size c.in_default.ensures.gives c.in_default.ensures.built c.in_default.ensures.added c.add_patches.new.self.parser c.add_patches.new.self.place c.add_patches.new.self.size c.in_default-add_patches.ensures.gives c.in_default-add_patches.ensures.built c.in_default-add_patches.ensures.added c.in-Err-add_boots.fault c.in-Err-add_boots.ensures.gives

pub returns-clause-gives : goal.returns-clause-gives
returns-clause-gives c =
    events_give (of_parts c.args.builder.now.parser.form c.args.symbols.now (map (λ patch. patch.now) c.args.patches.now) c.args.boots.now c.args.events.now) c.args.builder.now.parser c.args.builder.now.place c.args.builder.now.size c.requires.early c.requires.built c.add_symbols.new.self.parser c.add_symbols.new.self.place c.add_symbols.new.self.size c.in_default.ensures.gives c.in_default.ensures.built c.in_default.ensures.added c.add_patches.new.self.parser c.add_patches.new.self.place c.add_patches.new.self.size c.in_default-add_patches.ensures.gives c.in_default-add_patches.ensures.built c.in_default-add_patches.ensures.added c.add_boots.new.self.parser c.add_boots.new.self.place c.add_boots.new.self.size c.in_default-add_boots.ensures.gives c.in_default-add_boots.ensures.built c.in_default-add_boots.ensures.added (λ _. c.add_events.new.self.parser) c.add_events.result c.add_events.ensures.gives

pub add_events-requires-clause-patched : goal.add_events-requires-clause-patched
add_events-requires-clause-patched c = grind (arith, common_steps)

pub add_boots-requires-clause-patched : goal.add_boots-requires-clause-patched
add_boots-requires-clause-patched c = grind (arith, common_steps)
