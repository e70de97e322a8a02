use Rattle.std.proofs.Common.{Result, Ok, Err, sym, ap, ◌∙◌}
use Rattle.lp_text.specs.declared.fault.ReadFault.{ReadFault}
use Rattle.lp_text.specs.Traces.{TraceValue}
use Rattle.lp_text.proofs.Sound.{sound}
use Rattle.lp_text.proofs.Complete.{gives_it}
use Rattle.lp_text.proofs.trace.Trace.read.Goals as goal

pub into_trace-requires : goal.into_trace-requires
into_trace-requires c = (sound c.args.text.now c.in-Ok.parser c.in-Ok.ensures.exact).0

pub returns-in-Ok-clause-found : goal.returns-in-Ok-clause-found
returns-in-Ok-clause-found c = rw c.into_trace.ensures (sound c.args.text.now c.in-Ok.parser c.in-Ok.ensures.exact)

pub returns-in-Ok-clause-only : goal.returns-in-Ok-clause-only
returns-in-Ok-clause-only c = λ trace t e.
    let read : Result TraceValue ReadFault = Ok c.into_trace.result in
    gives_it (λ u. u) read c.args.text.now (c.in-Ok.ensures.exact ∙ ap (λ u. Ok u) (sym c.into_trace.ensures)) trace t e

pub returns-in-Err-clause-only : goal.returns-in-Err-clause-only
returns-in-Err-clause-only c = λ trace t e.
    let read : Result TraceValue ReadFault = Err c.in-Err.fault in
    gives_it (λ u. u) read c.args.text.now c.in-Err.ensures.exact trace t e
