use Rattle.std.proofs.Common.{subst}
use Rattle.lp_text.specs.Input.{ReadsAll}
use Rattle.lp_text.specs.StreamContract.{stream_end}
use Rattle.lp_text.proofs.Sound.{sound}
use Rattle.lp_text.proofs.StreamContract.{reads_by}
use Rattle.lp_text.proofs.trace.Trace.read_from.Goals as goal

pub into_trace-requires : goal.into_trace-requires
into_trace-requires g c =
    let found = c.in_ok-parser.ensures.found in
    (sound found.0 c.in_ok-parser.parser found.2).0

pub returns-clause-found : goal.returns-clause-found
returns-clause-found g c =
    let found = c.in_ok-parser.ensures.found in
    let trace = sound found.0 c.in_ok-parser.parser found.2 in
    rw c.into_trace.ensures (trace.0, subst (λ text. ReadsAll (g.R.Read.remaining c.args.reader.now.stream) (g.R.Read.remaining c.parse_all.new.reader.stream) text) trace.1 found.1)

pub returns-in_err-parser-clause-reads : goal.returns-in_err-parser-clause-reads
returns-in_err-parser-clause-reads g c =
    reads_by stream_end c.in_err-parser.field-0.0 c.from_residual.result c.from_residual.ensures.1 c.args.reader.now c.parse_all.new.reader c.in_err-parser.ensures.reads

pub returns-clause-reads : goal.returns-clause-reads
returns-clause-reads g c = c.in_ok-parser.ensures.reads
