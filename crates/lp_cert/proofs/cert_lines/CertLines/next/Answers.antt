use Rattle.std.proofs.Common.{drop, length, ap, sym, ◌∙◌, arith}
use Rattle.std.specs.List.{slice_get}
use Rattle.lp_cert.specs.Parts.{busy_scan_lines}
use Rattle.lp_cert.specs.inside.Parts.{reasons_left}
use Rattle.lp_cert.proofs.LineLemmas.{first_line, lines_left, all_done, one_line, busy_line, busy_fits, others_fit, run_has}
use Rattle.lp_cert.proofs.cert_lines.CertLines.next.Goals as goal

pub returns-in_err-line-clause-line : goal.returns-in_err-line-clause-line
returns-in_err-line-clause-line c =
    let i = c.self.inside in
    let over = all_done i.scans.now (busy_scan_lines i.run) (busy_scan_lines c.next.new.self) (reasons_left i.reasons) (reasons_left c.next_reason.new.reasons) c.in_default.ensures.lines c.in_default.ensures.none c.in_err-line.ensures.reasons c.in_err-line.ensures.none in
    rw (← c.self.view_is) (c.from_residual.ensures ∙ ap (λ ls. slice_get ls 0) (sym over.0))

pub returns-in_err-line-clause-left : goal.returns-in_err-line-clause-left
returns-in_err-line-clause-left c =
    let i = c.self.inside in
    let over = all_done i.scans.now (busy_scan_lines i.run) (busy_scan_lines c.next.new.self) (reasons_left i.reasons) (reasons_left c.next_reason.new.reasons) c.in_default.ensures.lines c.in_default.ensures.none c.in_err-line.ensures.reasons c.in_err-line.ensures.none in
    rw (← c.self.view_is) (over.1 ∙ ap (drop 1) (sym over.0))

pub invariant_of-self-in-One : goal.invariant_of-self-in-One
invariant_of-self-in-One c =
    let i = c.self.inside in
    others_fit (length i.scans.now) (reasons_left i.reasons) (reasons_left c.next_reason.new.reasons) c.in_ok-line.field-0 c.in_ok-line.ensures.reasons c.self.invariant

pub part_of-scans-requires-clause-order : goal.part_of-scans-requires-clause-order
part_of-scans-requires-clause-order c =
    let i = c.self.inside in
    let fits = busy_fits (length i.scans.now) (reasons_left i.reasons) (reasons_left c.next_reason.new.reasons) c.in_ok-line.field-0 c.in-Busy.group c.in-Busy.task c.in-Busy.first c.in-Busy.end c.in_ok-line.ensures.reasons c.in-Busy.is c.self.invariant in
    omega (arith, fits.0)

pub part_of-scans-requires-clause-within : goal.part_of-scans-requires-clause-within
part_of-scans-requires-clause-within c =
    let i = c.self.inside in
    let fits = busy_fits (length i.scans.now) (reasons_left i.reasons) (reasons_left c.next_reason.new.reasons) c.in_ok-line.field-0 c.in-Busy.group c.in-Busy.task c.in-Busy.first c.in-Busy.end c.in_ok-line.ensures.reasons c.in-Busy.is c.self.invariant in
    fits.1

pub invariant_of-self-in-Busy : goal.invariant_of-self-in-Busy
invariant_of-self-in-Busy c =
    let i = c.self.inside in
    others_fit (length i.scans.now) (reasons_left i.reasons) (reasons_left c.next_reason.new.reasons) c.in_ok-line.field-0 c.in_ok-line.ensures.reasons c.self.invariant

pub returns-in-One-clause-line : goal.returns-in-One-clause-line
returns-in-One-clause-line c =
    let i = c.self.inside in
    rw (← c.self.view_is)
    (ap (λ ls. slice_get ls 0)
    (sym (one_line i.scans.now (busy_scan_lines i.run) (busy_scan_lines c.next.new.self) (reasons_left i.reasons) (reasons_left c.next_reason.new.reasons) c.in_default.ensures.lines c.in_default.ensures.none c.in_ok-line.field-0 c.in-One.line c.in_ok-line.ensures.reasons c.in-One.is)))

pub returns-in-One-clause-left : goal.returns-in-One-clause-left
returns-in-One-clause-left c =
    let i = c.self.inside in
    rw (← c.self.view_is)
    (ap (drop 1)
    (sym (one_line i.scans.now (busy_scan_lines i.run) (busy_scan_lines c.next.new.self) (reasons_left i.reasons) (reasons_left c.next_reason.new.reasons) c.in_default.ensures.lines c.in_default.ensures.none c.in_ok-line.field-0 c.in-One.line c.in_ok-line.ensures.reasons c.in-One.is)))

pub returns-in-Busy-clause-line : goal.returns-in-Busy-clause-line
returns-in-Busy-clause-line c =
    let i = c.self.inside in
    let b = c.in-Busy in
    let fits = busy_fits (length i.scans.now) (reasons_left i.reasons) (reasons_left c.next_reason.new.reasons) c.in_ok-line.field-0 b.group b.task b.first b.end c.in_ok-line.ensures.reasons b.is c.self.invariant in
    let all = busy_line i.scans.now (busy_scan_lines i.run) (busy_scan_lines c.next.new.self) (reasons_left i.reasons) (reasons_left c.next_reason.new.reasons) c.in_default.ensures.lines c.in_default.ensures.none
    c.in_ok-line.field-0 b.group b.task b.first b.end c.part_of-scans.result.now c.next-in-Busy.result (busy_scan_lines c.next-in-Busy.new.self) c.in_ok-line.ensures.reasons b.is c.part_of-scans.ensures c.next-in-Busy.ensures.lines in
    rw (← c.self.view_is)
    (first_line c.next-in-Busy.result _ _ all (run_has b.group b.task i.scans.now c.part_of-scans.result.now b.first b.end c.next-in-Busy.result _ c.part_of-scans.ensures fits c.next-in-Busy.ensures.none))

pub returns-in-Busy-clause-left : goal.returns-in-Busy-clause-left
returns-in-Busy-clause-left c =
    let i = c.self.inside in
    let b = c.in-Busy in
    let fits = busy_fits (length i.scans.now) (reasons_left i.reasons) (reasons_left c.next_reason.new.reasons) c.in_ok-line.field-0 b.group b.task b.first b.end c.in_ok-line.ensures.reasons b.is c.self.invariant in
    let all = busy_line i.scans.now (busy_scan_lines i.run) (busy_scan_lines c.next.new.self) (reasons_left i.reasons) (reasons_left c.next_reason.new.reasons) c.in_default.ensures.lines c.in_default.ensures.none
    c.in_ok-line.field-0 b.group b.task b.first b.end c.part_of-scans.result.now c.next-in-Busy.result (busy_scan_lines c.next-in-Busy.new.self) c.in_ok-line.ensures.reasons b.is c.part_of-scans.ensures c.next-in-Busy.ensures.lines in
    rw (← c.self.view_is)
    (lines_left c.next-in-Busy.result _ _ all (run_has b.group b.task i.scans.now c.part_of-scans.result.now b.first b.end c.next-in-Busy.result _ c.part_of-scans.ensures fits c.next-in-Busy.ensures.none))
