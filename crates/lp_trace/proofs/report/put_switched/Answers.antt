use Rattle.lp_trace.proofs.Pages.{puts_err, held_prefix, held_start, held_err, held_next, held_last}
use Rattle.lp_trace.proofs.Reports.{groups_at, groups_end, switched_split}
use Rattle.lp_text.specs.inside.Writing.{seen_of}
use Rattle.lp_trace.proofs.report.put_switched.Goals as goal

pub returns-in_err-put_all : goal.returns-in_err-put_all
returns-in_err-put_all g c =
    puts_err _ _ c.args.page.now.held.items _ _ c.from_residual.result c.from_residual.ensures.0 (held_prefix _ _ c.args.page.now.held.items _ _ _ (switched_split c.args.event.now c.args.groups.now c.args.end.now) c.in_err-put_all.ensures)

pub loop-group-init : goal.loop-group-init
loop-group-init g c =
    held_next _ (seen_of g.W.Write.contents c.args.writer.now) _ _ c.args.page.now.held.items _ _ _ c.put_all.new.self.held.items (switched_split c.args.event.now c.args.groups.now c.args.end.now) (held_start _ _) c.in_ok-put_all.ensures

pub returns-in_err-put_group : goal.returns-in_err-put_group
returns-in_err-put_group g c =
    puts_err _ _ c.args.page.now.held.items _ _ c.from_residual-in_err-put_group.result c.from_residual-in_err-put_group.ensures.0 (held_err _ (seen_of g.W.Write.contents c.loop-group.writer) _ _ c.loop-group.page.held.items _ _ _ (groups_at c.args.groups.now c.loop-group.group-index _ c.args.end.now c.loop-group-test.true) c.loop-group.invariant c.in_err-put_group.ensures)

pub loop-group-preserved : goal.loop-group-preserved
loop-group-preserved g c =
    held_next _ (seen_of g.W.Write.contents c.loop-group.writer) _ _ c.loop-group.page.held.items _ _ _ c.put_group.new.page.held.items (groups_at c.args.groups.now c.loop-group.group-index _ c.args.end.now c.loop-group-test.true) c.loop-group.invariant c.in_ok-put_group.ensures

pub returns : goal.returns
returns g c =
    held_last _ (seen_of g.W.Write.contents c.loop-group.writer) _ _ c.args.page.now.held.items c.loop-group.page.held.items _ c.args.end.now c.put.result (groups_end c.args.groups.now c.loop-group.group-index c.args.end.now c.loop-group-test.false) c.loop-group.invariant _ c.put.ensures
