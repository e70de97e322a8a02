use Rattle.std.proofs.Common.{map}
use Rattle.lp_text.specs.declared.form.TraceForm.TheVariants.{Stacked}
use Rattle.lp_text.specs.Build.{of_parts}
use Rattle.lp_text.proofs.Making.{gives_trace}
use Rattle.lp_text.proofs.trace.Trace.of_stack.Goals as goal

pub returns-clause-only : goal.returns-clause-only
returns-clause-only c = gives_trace c.make.result (of_parts Stacked c.args.symbols.now (map (λ patch. patch.now) c.args.patches.now) c.args.boots.now c.args.events.now) c.make.ensures.exact
