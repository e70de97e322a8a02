use Rattle.std.proofs.Common.{◌∷◌, []}
use Rattle.lp_text.specs.declared.form.TraceForm.TheVariants.{Single}
use Rattle.lp_text.specs.Build.{of_parts}
use Rattle.lp_text.proofs.Making.{gives_trace}
use Rattle.lp_text.proofs.trace.Trace.of.Goals as goal

pub returns-clause-only : goal.returns-clause-only
returns-clause-only c = gives_trace c.make.result (of_parts Single c.args.symbols.now (c.args.patch.now ∷ []) c.args.boots.now c.args.events.now) c.make.ensures.exact
