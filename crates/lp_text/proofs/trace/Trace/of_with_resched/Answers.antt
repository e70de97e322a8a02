use Rattle.std.proofs.Common.{map}
use Rattle.lp_text.specs.declared.form.TraceForm.TheVariants.{WithResched}
use Rattle.lp_text.specs.Build.{of_parts}
use Rattle.lp_text.proofs.Making.{gives_trace}
use Rattle.lp_text.proofs.trace.Trace.of_with_resched.Goals as goal

pub returns-clause-only : goal.returns-clause-only
returns-clause-only c = gives_trace c.make.result (of_parts WithResched c.args.symbols.now (map (λ patch. patch.now) c.args.patches.now) c.args.boots.now c.args.events.now) c.make.ensures.exact
