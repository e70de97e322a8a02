use Rattle.std.proofs.Common.{◌≡◌, Option}
use Rattle.std.proofs.lemmas.Result.{IfOk-weaker}
use Rattle.lp_stack.specs.declared.number.GroupId.{GroupId}
use Rattle.lp_definitions.specs.declared.line.Line.TheVariants.{Hold, Busy}
use Rattle.lp_definitions.specs.declared.cert_fault.CertFault.{CertFault}
use Rattle.lp_checker.specs.inside.Cursors.{leg_in}
use Rattle.lp_checker.specs.inside.Sections.{timed}
use Rattle.lp_definitions.specs.Judgement.{line_test}
use Rattle.lp_checker.proofs.lines.fault_of.Goals as goal

pub returns-in-Hold-clause-fault : goal.returns-in-Hold-clause-fault
returns-in-Hold-clause-fault g c =
    let test = line_test g.M.Consistency.rules (leg_in c.args.cursor.now.range) (timed c.args.section) in
    rw c.in-Hold.is (IfOk-weaker c.hold_fault.result (λ (fault : Option CertFault). (group : GroupId) → fault ≡ test (Hold group c.in-Hold.task c.in-Hold.serial c.in-Hold.from c.in-Hold.to)) (λ fault. fault ≡ test (Hold c.in-Hold.group c.in-Hold.task c.in-Hold.serial c.in-Hold.from c.in-Hold.to)) (λ fault h. h c.in-Hold.group) c.hold_fault.ensures.fault)

pub returns-in-Busy-clause-fault : goal.returns-in-Busy-clause-fault
returns-in-Busy-clause-fault g c =
    let test = line_test g.M.Consistency.rules (leg_in c.args.cursor.now.range) (timed c.args.section) in
    rw c.in-Busy.is (IfOk-weaker c.busy_fault.result (λ (fault : Option CertFault). (group : GroupId) → fault ≡ test (Busy group c.in-Busy.task c.in-Busy.at)) (λ fault. fault ≡ test (Busy c.in-Busy.group c.in-Busy.task c.in-Busy.at)) (λ fault h. h c.in-Busy.group) c.busy_fault.ensures.fault)
