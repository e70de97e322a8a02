use Rattle.std.proofs.Common.{subst}
use Rattle.lp_transition.specs.Scan.{scan_event}
use Rattle.lp_transition.specs.Blames.{AreBlamesAfter}
use Rattle.lp_transition.specs.LastScan.{IsLastScanAfter}
use Rattle.lp_transition.proofs.engine.Core.commit_scan.Goals as goal

pub returns-clause-blames : goal.returns-clause-blames
returns-clause-blames g c =
    let rules = g.M.Consistency.rules in
    subst (λ found. AreBlamesAfter rules c.args.self.now (scan_event c.args.kind) found c.take.new.self) c.in_ok-scan.ensures.verdicts
    (subst (λ event. AreBlamesAfter rules c.args.self.now event c.in_ok-scan.scan.verdicts c.take.new.self) c.in_ok-scan.ensures.event c.take.ensures.blames)

pub returns-clause-last_scan : goal.returns-clause-last_scan
returns-clause-last_scan g c = subst (λ event. IsLastScanAfter g.M.Consistency.rules c.args.self.now event c.take.new.self) c.in_ok-scan.ensures.event c.take.ensures.last_scan
