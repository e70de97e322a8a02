use Rattle.std.proofs.Common.{◌<◌, ◌+◌, refl, ap, sym, add-one, arith, ℕ, is_none}
use Rattle.lp_definitions.specs.declared.event.Event.TheVariants.{Call}
use Rattle.lp_definitions.specs.Tasks.{change}
use Rattle.lp_machine.specs.Table.{Engine, leg_tasks}
use Rattle.lp_machine.specs.Machine.{calling}
use Rattle.lp_machine.proofs.Accept.{call-room}
use Rattle.lp_transition.proofs.Effects.{takes_change, with_scan, with_table}
use Rattle.lp_transition.proofs.Unchanged.{core_changes, notes_before}
use Rattle.std.proofs.lemmas.List.Elements.{Contains-append_left}
use Rattle.lp_transition.proofs.Blames.{leaves_changed, blamed_out}
use Rattle.lp_transition.proofs.LastScans.{last_changes}
use Rattle.lp_transition.specs.inside.Blames.{blame_at}
use Rattle.lp_transition.specs.inside.Invariant.{told_scan}
use Rattle.lp_transition.proofs.engine.Core.take_call.Goals as goal

pub call-requires : goal.call-requires
call-requires g c = λ x there.
    let i = c.self.inside in
    call-room g.M.Consistency.rules (record { number = i.events; from = i.from.0; target = i.target.0; patches = i.patches; table = i.tasks; blames = i.blames; last_scan = told_scan i.unchanged }) c.args.task c.args.func x (rw (← c.self.view_is) at c.requires.accepted) there

pub invariant_of-self : goal.invariant_of-self
invariant_of-self g c =
    let h : c.args.task.0 < 65536 = omega arith in
    let i = c.self.inside in
    let opens = λ (group : ℕ). is_none (blame_at i.blames group) in
    let e : Engine = record { number = i.events; from = i.from.0; target = i.target.0; patches = i.patches; table = i.tasks; blames = i.blames; last_scan = told_scan i.unchanged } in
    let taken = with_scan g.M.Consistency.rules c.args.self.now _ (Call c.args.task c.args.func) i.waiting (told_scan c.touch.new.self) (takes_change g.M.Consistency.rules g.met.M.Consistency.lawful (record { number = i.events; from = i.from.0; target = i.target.0; patches = i.patches; table = i.tasks; blames = i.blames; last_scan = told_scan i.unchanged }) c.args.self.now c.call.new.self i.waiting (Call c.args.task c.args.func) c.args.task.0 (calling (i.events + 1) c.args.func) c.self.view_is c.call.ensures c.self.invariant.engine h c.requires.room refl c.requires.accepted (ap (λ n. change c.args.task.0 (calling n c.args.func) (leg_tasks i.tasks)) (sym (add-one i.events))) (λ x. refl) (λ x. refl)) in
    let left = leaves_changed g.M.Consistency.rules g.met.M.Consistency.lawful e c.args.self.now _ i.waiting i.waiting (Call c.args.task c.args.func) c.self.view_is c.self.invariant.engine c.self.invariant.blamed taken c.requires.accepted refl refl (λ group. refl) c.args.task.0 (calling (i.events + 1) c.args.func) (ap (λ n. change c.args.task.0 (calling n c.args.func) (leg_tasks i.tasks)) (sym (add-one i.events))) (λ x. refl) (λ x. refl) (λ x frame there. Contains-append_left x.frames _ frame there) in
    record {
      core =
          core_changes g.M.Consistency.rules e c.args.self.now _ i.waiting i.waiting (Call c.args.task c.args.func) i.unchanged c.touch.new.self c.self.view_is c.self.invariant.core
          taken
          c.requires.accepted c.touch.ensures.kind opens (λ on. blamed_out g.M.Consistency.rules g.met.M.Consistency.lawful (record (with_table c.call.new.self e) { last_scan = told_scan c.touch.new.self }) on taken.kept.sound left.blamed) c.args.task.0 (calling (i.events + 1) c.args.func) refl (notes_before opens i.tasks c.call.new.self c.args.task.0 (calling (i.events + 1) c.args.func) i.unchanged c.touch.new.self c.self.invariant.engine.wide h c.call.ensures (λ x. refl) (c.touch.ensures.changed, c.touch.ensures.may_refuse)) (λ t. refl) (ap (λ n. change c.args.task.0 (calling n c.args.func) (leg_tasks i.tasks)) (sym (add-one i.events))) (λ x. refl);
      groups = c.self.invariant.groups;
      blamed = left.blamed;
    }

pub returns-clause-state : goal.returns-clause-state
returns-clause-state g c =
    let h : c.args.task.0 < 65536 = omega arith in
    let i = c.self.inside in
    (takes_change g.M.Consistency.rules g.met.M.Consistency.lawful (record { number = i.events; from = i.from.0; target = i.target.0; patches = i.patches; table = i.tasks; blames = i.blames; last_scan = told_scan i.unchanged }) c.args.self.now c.call.new.self i.waiting (Call c.args.task c.args.func) c.args.task.0 (calling (i.events + 1) c.args.func) c.self.view_is c.call.ensures c.self.invariant.engine h c.requires.room refl c.requires.accepted (ap (λ n. change c.args.task.0 (calling n c.args.func) (leg_tasks i.tasks)) (sym (add-one i.events))) (λ x. refl) (λ x. refl)).state

pub returns-clause-blames : goal.returns-clause-blames
returns-clause-blames g c =
    let h : c.args.task.0 < 65536 = omega arith in
    let i = c.self.inside in
    let e : Engine = record { number = i.events; from = i.from.0; target = i.target.0; patches = i.patches; table = i.tasks; blames = i.blames; last_scan = told_scan i.unchanged } in
    let taken = takes_change g.M.Consistency.rules g.met.M.Consistency.lawful (record { number = i.events; from = i.from.0; target = i.target.0; patches = i.patches; table = i.tasks; blames = i.blames; last_scan = told_scan i.unchanged }) c.args.self.now c.call.new.self i.waiting (Call c.args.task c.args.func) c.args.task.0 (calling (i.events + 1) c.args.func) c.self.view_is c.call.ensures c.self.invariant.engine h c.requires.room refl c.requires.accepted (ap (λ n. change c.args.task.0 (calling n c.args.func) (leg_tasks i.tasks)) (sym (add-one i.events))) (λ x. refl) (λ x. refl) in
    (leaves_changed g.M.Consistency.rules g.met.M.Consistency.lawful e c.args.self.now _ i.waiting i.waiting (Call c.args.task c.args.func) c.self.view_is c.self.invariant.engine c.self.invariant.blamed taken c.requires.accepted refl refl (λ group. refl) c.args.task.0 (calling (i.events + 1) c.args.func) (ap (λ n. change c.args.task.0 (calling n c.args.func) (leg_tasks i.tasks)) (sym (add-one i.events))) (λ x. refl) (λ x. refl) (λ x frame there. Contains-append_left x.frames _ frame there)).after

pub returns-clause-last_scan : goal.returns-clause-last_scan
returns-clause-last_scan g c =
    let h : c.args.task.0 < 65536 = omega arith in
    let i = c.self.inside in
    let opens = λ (group : ℕ). is_none (blame_at i.blames group) in
    let e : Engine = record { number = i.events; from = i.from.0; target = i.target.0; patches = i.patches; table = i.tasks; blames = i.blames; last_scan = told_scan i.unchanged } in
    let taken = with_scan g.M.Consistency.rules c.args.self.now _ (Call c.args.task c.args.func) i.waiting (told_scan c.touch.new.self) (takes_change g.M.Consistency.rules g.met.M.Consistency.lawful (record { number = i.events; from = i.from.0; target = i.target.0; patches = i.patches; table = i.tasks; blames = i.blames; last_scan = told_scan i.unchanged }) c.args.self.now c.call.new.self i.waiting (Call c.args.task c.args.func) c.args.task.0 (calling (i.events + 1) c.args.func) c.self.view_is c.call.ensures c.self.invariant.engine h c.requires.room refl c.requires.accepted (ap (λ n. change c.args.task.0 (calling n c.args.func) (leg_tasks i.tasks)) (sym (add-one i.events))) (λ x. refl) (λ x. refl)) in
    last_changes g.M.Consistency.rules e c.args.self.now _ i.waiting (Call c.args.task c.args.func) i.unchanged c.touch.new.self c.self.view_is refl refl taken c.args.task.0 (calling (i.events + 1) c.args.func) c.requires.accepted refl refl c.touch.ensures.kind (notes_before opens i.tasks c.call.new.self c.args.task.0 (calling (i.events + 1) c.args.func) i.unchanged c.touch.new.self c.self.invariant.engine.wide h c.call.ensures (λ x. refl) (c.touch.ensures.changed, c.touch.ensures.may_refuse)) (λ t. refl) (ap (λ n. change c.args.task.0 (calling n c.args.func) (leg_tasks i.tasks)) (sym (add-one i.events))) (λ x. refl)
