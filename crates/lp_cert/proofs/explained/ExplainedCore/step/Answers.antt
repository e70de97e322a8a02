use Rattle.std.proofs.Common.{sym, subst, ◌∙◌}
use Rattle.lp_cert.specs.Explained.{IsExplained}
use Rattle.lp_cert.proofs.Explaining.{explained_passed, on_ok_two, taken_explained, taken_unchanged}
use Rattle.lp_cert.proofs.Passed.{unscanned}
use Rattle.lp_cert.proofs.PlainEvents.{plain_blames}
use Rattle.lp_cert.proofs.explained.ExplainedCore.step.Goals as goal

pub returns-then-is_quiet-clause-explained : goal.returns-then-is_quiet-clause-explained
returns-then-is_quiet-clause-explained g c =
    let model = g.M.Consistency.rules in
    let i = c.self.inside in
    let passed = rw c.deref_mut-core.ensures.value at c.let_pass.ensures.made in
    let quiet = sym c.is_quiet.ensures ∙ c.if-is_quiet.true in
    on_ok_two _ _ _ _ (λ reply step blames last. λ run is.
    explained_passed model run c.args.event i.core.value c.step_plain.new.self reply step i.maker (plain_blames model i.core.value c.args.event c.step_plain.new.self (unscanned c.args.event quiet) blames) last (passed c.args.event quiet) (subst (IsExplained model run) (sym c.self.view_is) is))
    c.step_plain.result (rw c.deref_mut-core.ensures.value at c.step_plain.ensures.step) (rw c.deref_mut-core.ensures.value at c.step_plain.ensures.blames) (rw c.deref_mut-core.ensures.value at c.step_plain.ensures.last_scan)

pub returns-then-is_control-clause-explained : goal.returns-then-is_control-clause-explained
returns-then-is_control-clause-explained g c =
    let i = c.self.inside in
    taken_explained g.M.Consistency.rules c.args.event i.core.value c.take_weighed.new.core i.maker c.note_passed.new.self c.take_weighed.new.self _ c.self.view_is (rw c.deref_mut-core.ensures.value at c.note_passed.ensures)
    c.take_weighed.result (rw c.deref_mut-core.ensures.value at c.take_weighed.ensures.step) (rw c.deref_mut-core.ensures.value at c.take_weighed.ensures.made)

pub returns-then-is_control-clause-unchanged : goal.returns-then-is_control-clause-unchanged
returns-then-is_control-clause-unchanged g c =
    let i = c.self.inside in
    taken_unchanged g.M.Consistency.rules c.args.event i.core.value c.take_weighed.new.core i.maker c.note_passed.new.self c.take_weighed.new.self _ c.self.view_is (rw c.deref_mut-core.ensures.value at c.note_passed.ensures)
    c.take_weighed.result (rw c.deref_mut-core.ensures.value at c.take_weighed.ensures.unchanged) c.take_weighed.ensures.ended c.take_weighed.ensures.current

pub returns-in-Walk-clause-explained : goal.returns-in-Walk-clause-explained
returns-in-Walk-clause-explained g c =
    let i = c.self.inside in
    taken_explained g.M.Consistency.rules c.args.event i.core.value c.take_scan.new.core i.maker c.note_passed.new.self c.take_scan.new.self _ c.self.view_is (rw c.deref_mut-core.ensures.value at c.note_passed.ensures)
    c.take_scan.result (rw c.deref_mut-core.ensures.value at c.take_scan.ensures.step) (rw c.deref_mut-core.ensures.value at c.take_scan.ensures.made)

pub returns-in-Walk-clause-unchanged : goal.returns-in-Walk-clause-unchanged
returns-in-Walk-clause-unchanged g c =
    let i = c.self.inside in
    taken_unchanged g.M.Consistency.rules c.args.event i.core.value c.take_scan.new.core i.maker c.note_passed.new.self c.take_scan.new.self _ c.self.view_is (rw c.deref_mut-core.ensures.value at c.note_passed.ensures)
    c.take_scan.result (rw c.deref_mut-core.ensures.value at c.take_scan.ensures.unchanged) c.take_scan.ensures.ended c.take_scan.ensures.current

pub returns-in-Stop-clause-explained : goal.returns-in-Stop-clause-explained
returns-in-Stop-clause-explained g c =
    let i = c.self.inside in
    taken_explained g.M.Consistency.rules c.args.event i.core.value c.take_scan-in-Stop.new.core i.maker c.note_passed.new.self c.take_scan-in-Stop.new.self _ c.self.view_is (rw c.deref_mut-core.ensures.value at c.note_passed.ensures)
    c.take_scan-in-Stop.result (rw c.deref_mut-core.ensures.value at c.take_scan-in-Stop.ensures.step) (rw c.deref_mut-core.ensures.value at c.take_scan-in-Stop.ensures.made)

pub returns-in-Stop-clause-unchanged : goal.returns-in-Stop-clause-unchanged
returns-in-Stop-clause-unchanged g c =
    let i = c.self.inside in
    taken_unchanged g.M.Consistency.rules c.args.event i.core.value c.take_scan-in-Stop.new.core i.maker c.note_passed.new.self c.take_scan-in-Stop.new.self _ c.self.view_is (rw c.deref_mut-core.ensures.value at c.note_passed.ensures)
    c.take_scan-in-Stop.result (rw c.deref_mut-core.ensures.value at c.take_scan-in-Stop.ensures.unchanged) c.take_scan-in-Stop.ensures.ended c.take_scan-in-Stop.ensures.current

pub returns-in_default-clause-explained : goal.returns-in_default-clause-explained
returns-in_default-clause-explained g c =
    let i = c.self.inside in
    taken_explained g.M.Consistency.rules c.args.event i.core.value c.take_plain.new.core i.maker c.note_passed.new.self c.take_plain.new.self _ c.self.view_is (rw c.deref_mut-core.ensures.value at c.note_passed.ensures)
    c.take_plain.result (rw c.deref_mut-core.ensures.value at c.take_plain.ensures.step) (rw c.deref_mut-core.ensures.value at c.take_plain.ensures.made)

pub returns-in_default-clause-unchanged : goal.returns-in_default-clause-unchanged
returns-in_default-clause-unchanged g c =
    let i = c.self.inside in
    taken_unchanged g.M.Consistency.rules c.args.event i.core.value c.take_plain.new.core i.maker c.note_passed.new.self c.take_plain.new.self _ c.self.view_is (rw c.deref_mut-core.ensures.value at c.note_passed.ensures)
    c.take_plain.result (rw c.deref_mut-core.ensures.value at c.take_plain.ensures.unchanged) c.take_plain.ensures.ended c.take_plain.ensures.current
