use Rattle.std.proofs.Common.{◌∙◌, Option, option_to_list, refl, subst}
use Rattle.lp_definitions.specs.declared.line.Line.{Line}
use Rattle.lp_trace.specs.inside.KeptLines.{AreAdded}
use Rattle.lp_trace.proofs.KeptLines.{next_left, none_added, none_left, one_added}
use Rattle.lp_trace.proofs.report.kept_lines.KeptLines.add.Goals as goal

pub loop-next-init : goal.loop-next-init
loop-next-init c = record {
  added = λ before kept. none_added before c.args.lines.now c.next-next.new.self c.next-next.result _ _ kept (next_left c.args.lines.now c.next-next.new.self c.next-next.result c.next-next.ensures.line c.next-next.ensures.left);
  none = none_left c.args.lines.now c.next-next.new.self c.next-next.result c.next-next.ensures.line c.next-next.ensures.left;
  place = refl;
}

pub loop-next-preserved : goal.loop-next-preserved
loop-next-preserved c =
    let l = c.loop-next in
    let after = c.next-next-in-Some in
    record {
      added = λ before kept.
          one_added before c.args.lines.now l.lines after.new.self c.in-Some.line after.result l.self.starts.items _ l.self.text.items _
          (subst (λ (next : Option Line). AreAdded before c.args.lines.now (option_to_list next) l.lines l.self.starts.items l.self.text.items) c.in-Some.is (l.invariant.added before kept))
          (c.if-not-push.ensures.taken refl)
          (next_left l.lines after.new.self after.result after.ensures.line after.ensures.left);
      none = none_left l.lines after.new.self after.result after.ensures.line after.ensures.left;
      place = c.push.ensures.place ∙ l.invariant.place;
    }
