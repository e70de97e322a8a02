use Rattle.std.proofs.Common.{◌≤◌, length, arith}
use Rattle.std.proofs.lemmas.Grind.{common_steps}
use Rattle.lp_trace.proofs.KeptLines.{all_kept, first_kept}
use Rattle.lp_trace.proofs.report.kept_lines.KeptLines.truncate.Goals as goal

pub returns-in-Some-clause-first : goal.returns-in-Some-clause-first
returns-in-Some-clause-first c = λ lines kept.
    let found = rw c.deref.ensures.value at c.in-Some.ensures.lookup in
    first_kept lines c.args.self.now.starts.items _ c.args.self.now.text.items _ c.args.count c.in-Some.start.now kept found.3.0 found.1 c.truncate-in-Some.ensures.items c.truncate.ensures

pub returns-in_default-clause-first : goal.returns-in_default-clause-first
returns-in_default-clause-first c = λ lines kept.
    let few : length c.args.self.now.starts.items ≤ c.args.count = grind (arith, common_steps) in
    all_kept lines c.args.self.now.starts.items c.args.self.now.text.items c.args.count kept few
