use Rattle.std.proofs.Common.{refl, ◌<◌, arith, ℕ, is_none}
use Rattle.lp_definitions.specs.declared.event.Event.TheVariants.{Ret}
use Rattle.lp_machine.specs.Machine.{returning}
use Rattle.lp_machine.specs.Table.{Engine}
use Rattle.lp_transition.proofs.Effects.{takes_change, with_scan, with_table}
use Rattle.lp_transition.proofs.Unchanged.{core_changes, notes_before}
use Rattle.lp_transition.proofs.Blames.{with_blames, leaves_returned, blamed_out}
use Rattle.lp_transition.proofs.LastScans.{last_changes}
use Rattle.lp_transition.specs.inside.Blames.{blame_at}
use Rattle.lp_transition.specs.inside.Invariant.{told_scan}
use Rattle.lp_transition.proofs.engine.Core.take_ret.Goals as goal

pub invariant_of-self : goal.invariant_of-self
invariant_of-self g c =
    let h : c.args.task.0 < 65536 = omega arith in
    let i = c.self.inside in
    let opens = λ (group : ℕ). is_none (blame_at c.popped.new.self group) in
    let e : Engine = record { number = i.events; from = i.from.0; target = i.target.0; patches = i.patches; table = i.tasks; blames = i.blames; last_scan = told_scan i.unchanged } in
    let taken = with_scan g.M.Consistency.rules c.args.self.now _ (Ret c.args.task) i.waiting (told_scan c.touch.new.self) (with_blames g.M.Consistency.rules c.args.self.now _ (Ret c.args.task) i.waiting c.popped.new.self (takes_change g.M.Consistency.rules g.met.M.Consistency.lawful (record { number = i.events; from = i.from.0; target = i.target.0; patches = i.patches; table = i.tasks; blames = i.blames; last_scan = told_scan i.unchanged }) c.args.self.now c.ret.new.self i.waiting (Ret c.args.task) c.args.task.0 returning c.self.view_is c.ret.ensures c.self.invariant.engine h c.requires.room refl c.requires.accepted refl (λ x. refl) (λ x. refl))) in
    let left = leaves_returned g.M.Consistency.rules g.met.M.Consistency.lawful e c.args.self.now _ c.ret.new.self i.waiting i.waiting c.args.task c.self.view_is c.self.invariant.engine c.self.invariant.blamed taken c.requires.accepted h c.ret.ensures c.popped.ensures.blames in
    record {
      core =
          core_changes g.M.Consistency.rules e c.args.self.now _ i.waiting i.waiting (Ret c.args.task) i.unchanged c.touch.new.self c.self.view_is c.self.invariant.core
          taken
          c.requires.accepted c.touch.ensures.kind opens (λ on. blamed_out g.M.Consistency.rules g.met.M.Consistency.lawful (record (with_table c.ret.new.self e) { blames = c.popped.new.self; last_scan = told_scan c.touch.new.self }) on taken.kept.sound left.blamed) c.args.task.0 returning refl (notes_before opens i.tasks c.ret.new.self c.args.task.0 returning i.unchanged c.touch.new.self c.self.invariant.engine.wide h c.ret.ensures (λ x. refl) (c.touch.ensures.changed, c.touch.ensures.may_refuse)) (λ t. refl) refl (λ x. refl);
      groups = c.popped.ensures.groups;
      blamed = left.blamed;
    }

pub returns-clause-state : goal.returns-clause-state
returns-clause-state g c =
    let h : c.args.task.0 < 65536 = omega arith in
    let i = c.self.inside in
    (takes_change g.M.Consistency.rules g.met.M.Consistency.lawful (record { number = i.events; from = i.from.0; target = i.target.0; patches = i.patches; table = i.tasks; blames = i.blames; last_scan = told_scan i.unchanged }) c.args.self.now c.ret.new.self i.waiting (Ret c.args.task) c.args.task.0 returning c.self.view_is c.ret.ensures c.self.invariant.engine h c.requires.room refl c.requires.accepted refl (λ x. refl) (λ x. refl)).state

pub returns-clause-blames : goal.returns-clause-blames
returns-clause-blames g c =
    let h : c.args.task.0 < 65536 = omega arith in
    let i = c.self.inside in
    let e : Engine = record { number = i.events; from = i.from.0; target = i.target.0; patches = i.patches; table = i.tasks; blames = i.blames; last_scan = told_scan i.unchanged } in
    let taken = with_blames g.M.Consistency.rules c.args.self.now _ (Ret c.args.task) i.waiting c.popped.new.self (takes_change g.M.Consistency.rules g.met.M.Consistency.lawful (record { number = i.events; from = i.from.0; target = i.target.0; patches = i.patches; table = i.tasks; blames = i.blames; last_scan = told_scan i.unchanged }) c.args.self.now c.ret.new.self i.waiting (Ret c.args.task) c.args.task.0 returning c.self.view_is c.ret.ensures c.self.invariant.engine h c.requires.room refl c.requires.accepted refl (λ x. refl) (λ x. refl)) in
    (leaves_returned g.M.Consistency.rules g.met.M.Consistency.lawful e c.args.self.now _ c.ret.new.self i.waiting i.waiting c.args.task c.self.view_is c.self.invariant.engine c.self.invariant.blamed taken c.requires.accepted h c.ret.ensures c.popped.ensures.blames).after

pub returns-clause-last_scan : goal.returns-clause-last_scan
returns-clause-last_scan g c =
    let h : c.args.task.0 < 65536 = omega arith in
    let i = c.self.inside in
    let opens = λ (group : ℕ). is_none (blame_at c.popped.new.self group) in
    let e : Engine = record { number = i.events; from = i.from.0; target = i.target.0; patches = i.patches; table = i.tasks; blames = i.blames; last_scan = told_scan i.unchanged } in
    let taken = with_scan g.M.Consistency.rules c.args.self.now _ (Ret c.args.task) i.waiting (told_scan c.touch.new.self) (with_blames g.M.Consistency.rules c.args.self.now _ (Ret c.args.task) i.waiting c.popped.new.self (takes_change g.M.Consistency.rules g.met.M.Consistency.lawful (record { number = i.events; from = i.from.0; target = i.target.0; patches = i.patches; table = i.tasks; blames = i.blames; last_scan = told_scan i.unchanged }) c.args.self.now c.ret.new.self i.waiting (Ret c.args.task) c.args.task.0 returning c.self.view_is c.ret.ensures c.self.invariant.engine h c.requires.room refl c.requires.accepted refl (λ x. refl) (λ x. refl))) in
    last_changes g.M.Consistency.rules e c.args.self.now _ i.waiting (Ret c.args.task) i.unchanged c.touch.new.self c.self.view_is refl refl taken c.args.task.0 returning c.requires.accepted refl refl c.touch.ensures.kind (notes_before opens i.tasks c.ret.new.self c.args.task.0 returning i.unchanged c.touch.new.self c.self.invariant.engine.wide h c.ret.ensures (λ x. refl) (c.touch.ensures.changed, c.touch.ensures.may_refuse)) (λ t. refl) refl (λ x. refl)
