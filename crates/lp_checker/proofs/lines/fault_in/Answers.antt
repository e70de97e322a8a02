use Rattle.std.proofs.Common.{List, map, add-one, sym, ap, ◌∙◌, arith}
use Rattle.std.proofs.lemmas.List.{drop_all}
use Rattle.lp_definitions.specs.Tasks.{first_of}
use Rattle.lp_definitions.specs.declared.line.Line.{Line}
use Rattle.lp_definitions.specs.declared.line.Line.TheVariants.{Hold}
use Rattle.lp_checker.specs.inside.Cursors.{leg_in}
use Rattle.lp_checker.specs.inside.Sections.{timed}
use Rattle.lp_definitions.specs.Judgement.{line_test}
use Rattle.lp_checker.proofs.MarkLines.{line_here, line_passed, passes_sound}
use Rattle.lp_checker.proofs.lines.fault_in.Goals as goal

pub loop-i-preserved-then-is_sound : goal.loop-i-preserved-then-is_sound
loop-i-preserved-then-is_sound g c =
    let leg = leg_in c.args.cursor.now.range in
    rw add-one (record {
      range = c.loop-i.invariant.range;
      rest = c.loop-i.invariant.rest ∙ passes_sound g.M.Consistency.rules leg (timed c.args.section) c.args.lines.now c.args.marks.now c.loop-i.i (Hold (record { 0 = 0 }) (record { 0 = 0 }) 0 0 0) _ c.loop-i-test.true (c.is_sound.ensures c.if-is_sound.true) c.requires.marks;
    })

pub bounds-marks-i : goal.bounds-marks-i
bounds-marks-i g c = omega (arith, c.requires.marks.all, c.loop-i-test.true)

pub returns-clause-fault : goal.returns-clause-fault
returns-clause-fault g c =
    let test = line_test g.M.Consistency.rules (leg_in c.args.cursor.now.range) (timed c.args.section) in
    sym (c.loop-i.invariant.rest ∙ ap (λ (lines : List Line). first_of (map test lines)) (drop_all c.loop-i.i c.args.lines.now (omega (arith, c.loop-i-test.false))))

pub fault_of-requires : goal.fault_of-requires
fault_of-requires g c = rw c.loop-i.invariant.range c.requires.within

pub returns-then-is_some-clause-fault : goal.returns-then-is_some-clause-fault
returns-then-is_some-clause-fault g c =
    let test = line_test g.M.Consistency.rules (leg_in c.args.cursor.now.range) (timed c.args.section) in
    let own = rw c.loop-i.invariant.range at c.in_ok-fault.ensures.fault in
    sym (c.loop-i.invariant.rest ∙ line_here test c.args.lines.now c.loop-i.i _ c.in_ok-fault.fault c.loop-i-test.true own c.if-is_some.ensures)

pub loop-i-preserved : goal.loop-i-preserved
loop-i-preserved g c =
    let test = line_test g.M.Consistency.rules (leg_in c.args.cursor.now.range) (timed c.args.section) in
    let own = rw c.loop-i.invariant.range at c.in_ok-fault.ensures.fault in
    rw add-one (record {
      range = c.fault_of.ensures.range ∙ c.loop-i.invariant.range;
      rest = c.loop-i.invariant.rest ∙ line_passed test c.args.lines.now c.loop-i.i _ c.in_ok-fault.fault c.loop-i-test.true own c.if-is_some.ensures;
    })
