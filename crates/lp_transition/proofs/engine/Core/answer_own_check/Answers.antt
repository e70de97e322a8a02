use Rattle.std.proofs.Common.{◌≡◌, ℕ, ◌<◌, List, [], ◌∷◌, Some, sym, ap, ◌∙◌, arith}
use Rattle.lp_definitions.specs.declared.reply.What.TheVariants.{Switched}
use Rattle.lp_definitions.specs.declared.reply.Reply.{Reply}
use Rattle.lp_machine.specs.Table.{slot}
use Rattle.lp_transition.proofs.Weighing.{answer-stays, answer-switches, switched-where_switches}
use Rattle.lp_tasks.specs.inside.OwnChecks.{own_check_event, at_own_check}
use Rattle.lp_transition.proofs.OwnChecks.{own_check-level, own_check-group, own_check-plain, own_check-checks, own_check-own, own_check-live, own_check-told}
use Rattle.lp_transition.specs.inside.Invariant.{told_scan}
use Rattle.lp_transition.proofs.engine.Core.answer_own_check.Goals as goal

pub returns-then-not-own_check_switches-clause-answer : goal.returns-then-not-own_check_switches-clause-answer
returns-then-not-own_check_switches-clause-answer g c =
    let i = c.self.inside in
    let h : c.args.task.0 < 65536 = omega arith in
    let accepted = rw (← c.self.view_is) at c.requires.accepted in
    let live = own_check-live g.M.Consistency.rules (record { number = i.events; from = i.from.0; target = i.target.0; patches = i.patches; table = i.tasks; blames = i.blames; last_scan = told_scan i.unchanged }) c.args.kind c.args.task accepted in
    let at : slot c.args.self.now.table c.args.task.0 ≡ Some live.task = ap (λ e. slot e.table c.args.task.0) (sym c.self.view_is) ∙ live.there in
    let stays = rw (← c.self.view_is) at (sym (c.if-not-own_check_switches.ensures live.task at)) in
    rw (← c.self.view_is) (c.done.ensures ∙ sym (answer-stays g.M.Consistency.rules g.met.M.Consistency.lawful (record { number = i.events; from = i.from.0; target = i.target.0; patches = i.patches; table = i.tasks; blames = i.blames; last_scan = told_scan i.unchanged }) i.waiting c.self.invariant.engine (rw (← c.self.view_is) at c.requires.room) (own_check_event c.args.kind c.args.task) c.args.kind c.args.task.0 h (at_own_check c.args.kind) (own_check-level c.args.kind) (own_check-group c.args.kind) live.task live.there (own_check-checks _ _ c.args.kind c.args.task c.requires.own_check) (own_check-plain c.args.kind c.args.task) accepted (own_check-own _ _ c.args.kind c.args.task _) (own_check-told g.M.Consistency.rules _ c.args.kind c.args.task) stays))

pub returns-in_err-groups-clause-memory : goal.returns-in_err-groups-clause-memory
returns-in_err-groups-clause-memory g c =
    let i = c.self.inside in
    let h : c.args.task.0 < 65536 = omega arith in
    let accepted = rw (← c.self.view_is) at c.requires.accepted in
    let live = own_check-live g.M.Consistency.rules (record { number = i.events; from = i.from.0; target = i.target.0; patches = i.patches; table = i.tasks; blames = i.blames; last_scan = told_scan i.unchanged }) c.args.kind c.args.task accepted in
    let at : slot c.args.self.now.table c.args.task.0 ≡ Some live.task = ap (λ e. slot e.table c.args.task.0) (sym c.self.view_is) ∙ live.there in
    let switches = rw (← c.self.view_is) at (sym (c.if-not-own_check_switches.ensures live.task at)) in
    let group = c.group_of.ensures live.task live.there in
    let within : live.task.group < 65536 = omega (arith, group) in
    λ _. rw (← c.self.view_is) (switched-where_switches g.M.Consistency.rules g.met.M.Consistency.lawful (record { number = i.events; from = i.from.0; target = i.target.0; patches = i.patches; table = i.tasks; blames = i.blames; last_scan = told_scan i.unchanged }) i.waiting c.self.invariant.engine (rw (← c.self.view_is) at c.requires.room) (own_check_event c.args.kind c.args.task) c.args.kind c.args.task.0 h (at_own_check c.args.kind) (own_check-level c.args.kind) (own_check-group c.args.kind) live.task live.there (own_check-checks _ _ c.args.kind c.args.task c.requires.own_check) (own_check-plain c.args.kind c.args.task) accepted (own_check-own _ _ c.args.kind c.args.task _) (own_check-told g.M.Consistency.rules _ c.args.kind c.args.task) within switches)

pub returns-clause-answer : goal.returns-clause-answer
returns-clause-answer g c =
    let i = c.self.inside in
    let h : c.args.task.0 < 65536 = omega arith in
    let accepted = rw (← c.self.view_is) at c.requires.accepted in
    let live = own_check-live g.M.Consistency.rules (record { number = i.events; from = i.from.0; target = i.target.0; patches = i.patches; table = i.tasks; blames = i.blames; last_scan = told_scan i.unchanged }) c.args.kind c.args.task accepted in
    let at : slot c.args.self.now.table c.args.task.0 ≡ Some live.task = ap (λ e. slot e.table c.args.task.0) (sym c.self.view_is) ∙ live.there in
    let switches = rw (← c.self.view_is) at (sym (c.if-not-own_check_switches.ensures live.task at)) in
    let group = c.group_of.ensures live.task live.there in
    let within : live.task.group < 65536 = omega (arith, group) in
    let answered = answer-switches g.M.Consistency.rules g.met.M.Consistency.lawful (record { number = i.events; from = i.from.0; target = i.target.0; patches = i.patches; table = i.tasks; blames = i.blames; last_scan = told_scan i.unchanged }) i.waiting c.self.invariant.engine (rw (← c.self.view_is) at c.requires.room) (own_check_event c.args.kind c.args.task) c.args.kind c.args.task.0 h (at_own_check c.args.kind) (own_check-level c.args.kind) (own_check-group c.args.kind) live.task live.there (own_check-checks _ _ c.args.kind c.args.task c.requires.own_check) (own_check-plain c.args.kind c.args.task) accepted (own_check-own _ _ c.args.kind c.args.task _) (own_check-told g.M.Consistency.rules _ c.args.kind c.args.task) within c.is_only-waits_alone.result c.is_only-waits_alone.ensures switches in
    rw (← c.self.view_is)
    (ap {A = List ℕ} {B = Reply} (λ list. record { what = Switched list; completed = c.is_only-waits_alone.result }) (c.in_ok-groups.ensures ∙ ap {A = ℕ} {B = List ℕ} (λ k. k ∷ []) group)
    ∙ sym answered)
