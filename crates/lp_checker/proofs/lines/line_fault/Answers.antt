use Rattle.std.proofs.Common.{add-one, sym, ap, ◌∙◌, arith}
use Rattle.std.proofs.lemmas.Grind.{common_steps}
use Rattle.std.proofs.lemmas.List.{drop_all}
use Rattle.std.proofs.Math.Seq.{drop-cons}
use Rattle.lp_checker.specs.inside.Cursors.{leg_in}
use Rattle.lp_checker.proofs.PartLines.{faults_from, fault_here, no_fault_here, in_time, follows}
use Rattle.lp_checker.proofs.lines.line_fault.Goals as goal

pub slice_bounds-own-start : goal.slice_bounds-own-start
slice_bounds-own-start g c =
    let here = drop-cons c.args.sections.now c.loop-section.section-index (record { group = record { 0 = 0 }; begin = 0; until = 0; start = 0; end = 0 }) c.loop-section-test.true in
    let its = in_time _ c.args.cursor.now.range.end _ _ _ here c.loop-section.invariant.times in
    omega (arith, its.2, its.3)

pub slice_bounds-own-end : goal.slice_bounds-own-end
slice_bounds-own-end g c =
    let here = drop-cons c.args.sections.now c.loop-section.section-index (record { group = record { 0 = 0 }; begin = 0; until = 0; start = 0; end = 0 }) c.loop-section-test.true in
    let its = in_time _ c.args.cursor.now.range.end _ _ _ here c.loop-section.invariant.times in
    omega (arith, its.2, its.3)

pub slice_bounds-own-count : goal.slice_bounds-own-count
slice_bounds-own-count g c =
    let here = drop-cons c.args.sections.now c.loop-section.section-index (record { group = record { 0 = 0 }; begin = 0; until = 0; start = 0; end = 0 }) c.loop-section-test.true in
    let its = in_time _ c.args.cursor.now.range.end _ _ _ here c.loop-section.invariant.times in
    omega (arith, its.2, its.3)

pub returns-then-is_some-clause-fault : goal.returns-then-is_some-clause-fault
returns-then-is_some-clause-fault g c =
    let here = drop-cons c.args.sections.now c.loop-section.section-index _ c.loop-section-test.true in
    let own = rw c.loop-section.invariant.range at c.in_ok-fault.ensures.fault in
    sym (c.loop-section.invariant.rest ∙ fault_here g.M.Consistency.rules (leg_in c.args.cursor.now.range) c.args.lines.now _ _ _ c.in_ok-fault.fault here own c.if-is_some.ensures)

pub loop-section-preserved : goal.loop-section-preserved
loop-section-preserved g c =
    let here = drop-cons c.args.sections.now c.loop-section.section-index _ c.loop-section-test.true in
    let own = rw c.loop-section.invariant.range at c.in_ok-fault.ensures.fault in
    rw add-one (record {
      range = c.section_fault.ensures.range ∙ c.loop-section.invariant.range;
      times = (_, follows _ c.args.cursor.now.range.end _ _ _ here c.loop-section.invariant.times);
      rest = c.loop-section.invariant.rest ∙ no_fault_here g.M.Consistency.rules (leg_in c.args.cursor.now.range) c.args.lines.now _ _ _ c.in_ok-fault.fault here own c.if-is_some.ensures;
    })

pub section_fault-requires : goal.section_fault-requires
section_fault-requires g c =
    let here = drop-cons c.args.sections.now c.loop-section.section-index (record { group = record { 0 = 0 }; begin = 0; until = 0; start = 0; end = 0 }) c.loop-section-test.true in
    let its = in_time _ c.args.cursor.now.range.end _ _ _ here c.loop-section.invariant.times in
    rw c.loop-section.invariant.range its.1

pub returns-clause-fault : goal.returns-clause-fault
returns-clause-fault g c = sym (c.loop-section.invariant.rest ∙ ap (faults_from g.M.Consistency.rules (leg_in c.args.cursor.now.range) c.args.lines.now) (drop_all c.loop-section.section-index c.args.sections.now (omega (arith, c.loop-section-test.false))))

pub offset_bounds-lines-section : goal.offset_bounds-lines-section
offset_bounds-lines-section g c = grind (arith, common_steps)
