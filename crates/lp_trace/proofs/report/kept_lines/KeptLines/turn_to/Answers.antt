use Rattle.std.proofs.Common.{◌<◌, ℕ, length, option_to_list, take, arith}
use Rattle.lp_text.specs.CertTexts.{cert_lines}
use Rattle.lp_trace.proofs.KeptLines.{turned_first, turned_text, turned_there}
use Rattle.lp_trace.proofs.Reports.{block_of}
use Rattle.lp_trace.proofs.report.kept_lines.KeptLines.turn_to.Goals as goal

pub returns-clause-lines : goal.returns-clause-lines
returns-clause-lines c = λ cert found.
    let other : ℕ = c.args.self.now.place in
    let below : other < length c.args.certs.now = omega (arith, c.requires.earlier) in
    let beside = block_of cert_lines c.args.certs.now other below in
    let count : ℕ = length c.args.self.now.starts.items in
    turned_text cert beside.0 c.add-next.new.self.starts.items c.add-next.new.self.text.items c.args.self.now.starts.items _ c.lines_beside-shared.result.1 (option_to_list c.add-next.result) c.add-next.new.lines (c.lines_beside-shared.ensures.lines cert beside.0 found beside.1) (omega (arith, c.lines_beside-shared.ensures.few))
    (c.add-next.ensures.lines _ (c.truncate.ensures.first (take count beside.0.lines) (c.requires.first.first beside.0 beside.1)))

pub returns-clause-first : goal.returns-clause-first
returns-clause-first c =
    let other : ℕ = c.args.self.now.place in
    let below : other < length c.args.certs.now = omega (arith, c.requires.earlier) in
    let beside = block_of cert_lines c.args.certs.now other below in
    let count : ℕ = length c.args.self.now.starts.items in
    record {
      there = λ cert found. turned_there cert beside.0 c.add-next.new.self.starts.items c.add-next.new.self.text.items c.args.self.now.starts.items _ c.lines_beside-shared.result.1 (option_to_list c.add-next.result) c.add-next.new.lines (c.lines_beside-shared.ensures.lines cert beside.0 found beside.1) (omega (arith, c.lines_beside-shared.ensures.few))
          (c.add-next.ensures.lines _ (c.truncate.ensures.first (take count beside.0.lines) (c.requires.first.first beside.0 beside.1)));
      first = λ cert found. turned_first cert beside.0 c.add-next.new.self.starts.items c.add-next.new.self.text.items c.args.self.now.starts.items _ c.lines_beside-shared.result.1 (option_to_list c.add-next.result) c.add-next.new.lines (c.lines_beside-shared.ensures.lines cert beside.0 found beside.1) (omega (arith, c.lines_beside-shared.ensures.few))
          (c.add-next.ensures.lines _ (c.truncate.ensures.first (take count beside.0.lines) (c.requires.first.first beside.0 beside.1)));
    }
