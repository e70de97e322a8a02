use Rattle.lp_text.specs.Traces.{text_of}
use Rattle.lp_text.proofs.Writing.{writes_of, writes_to_end}
use Rattle.lp_text.proofs.trace.Trace.write.Goals as goal

pub returns : goal.returns
returns g c =
    let text = text_of c.args.self.now in record {
      written = writes_of g.W.Write.contents c.args.writer.now c.put_trace.new.writer text c.put_trace.result c.put_trace.ensures;
      writes = writes_to_end g.W.Write.contents c.args.writer.now c.put_trace.new.writer text c.put_trace.result c.put_trace.ensures;
    }
