use Rattle.std.proofs.Common.{◌≡◌, ℕ, false, length, ◌++◌, refl, ap, ◌∙◌}
use Rattle.lp_stack.specs.declared.number.TaskId.{TaskId}
use Rattle.lp_cert.specs.declared.ongoing.Checked.{Checked}
use Rattle.lp_cert.specs.declared.ongoing.Ongoing.TheVariants.{Hold}
use Rattle.lp_cert.specs.inside.Heads.{IsHead, IsRefusedAlone, busy_reasons}
use Rattle.lp_cert.proofs.HeadLemmas.{alone_new, alone_on, put_there}
use Rattle.lp_cert.proofs.WaiterLemmas.{keeps_trans}
use Rattle.lp_cert.proofs.reasons.Reasons.refuse_alone.Goals as goal
use Rattle.lp_cert.proofs.reasons.Reasons.refuse_alone.Goals.{in-Hold+else-refused, in_default}

pub returns-then-refused-clause-refused : goal.returns-then-refused-clause-refused
returns-then-refused-clause-refused c =
    let i = c.self.inside in
    let stands : IsHead i.chains.lists (length c.as_slice-scans.result.now) c.head-head.result = rw (c.as_slice-scans.ensures.value, c.head-head.ensures, ← c.self.view_is) (rw (← c.self.view_is) at c.requires.head) in
    rw (← c.self.view_is)
    (put_there (λ scans head next. IsRefusedAlone c.args.refused.now c.args.group scans head next i.chains.lists i.chains.lists) _ _ _ _ i.heads c.put.new.self _ _
    c.as_slice-scans.ensures.value (rw (← c.self.view_is) at c.head-head.ensures) c.put.ensures.values
    (alone_on c.as_slice-scans.result.now c.args.group c.args.refused.now c.head-head.result i.chains.lists stands _
    c.in-Hold.task c.in-Hold.serial c.in-Hold.from c.in-Hold.last c.in-Hold.is c.if-refused.true refl))

pub returns-clause-refused : goal.returns-clause-refused
returns-clause-refused c =
    let i = c.self.inside in
    let stands : IsHead i.chains.lists (length c.as_slice-scans.result.now) c.head-head.result = rw (c.as_slice-scans.ensures.value, c.head-head.ensures, ← c.self.view_is) (rw (← c.self.view_is) at c.requires.head) in
    let not_on : (task : TaskId) (serial from : ℕ) (last : Checked) → c.head-head.result.ongoing ≡ Hold task serial from last → c.args.refused.now.frame_stands ≡ false = elim c.match-head.branch [ in-Hold+else-refused w ↦ λ task serial from last is. w.if-refused.false | in_default w ↦ λ task serial from last is. absurd (w.in_default.not-Hold task serial from last is) ] in
    rw (← c.self.view_is)
    (put_there (λ scans head next. IsRefusedAlone c.args.refused.now c.args.group scans head next i.chains.lists c.with_own.new.chains.lists) _ _ _ _ i.heads c.put-2.new.self _ _
    c.as_slice-scans.ensures.value (rw (← c.self.view_is) at c.head-head.ensures) c.put-2.ensures.values
    (alone_new c.as_slice-scans.result.now c.args.group c.args.refused.now c.head-head.result i.chains.lists stands
    (record { ongoing = c.reason_begun.result; older = c.with_own.result }) c.with_own.new.chains.lists c.requires.used not_on c.reason_begun.ensures
    (c.with_own.ensures.list ∙ ap (λ rs. busy_reasons c.args.group c.args.refused.now ++ rs) c.close-before.ensures.list)
    c.with_own.ensures.known
    (keeps_trans i.chains.lists c.close-before.new.chains.lists c.with_own.new.chains.lists c.close-before.ensures.kept c.with_own.ensures.kept)))
