use Rattle.std.proofs.Common.{◌≡◌, refl, ◌<◌, suc, arith, ℕ, is_none}
use Rattle.lp_machine.specs.Machine.{own_effect, put_in}
use Rattle.lp_machine.specs.Table.{Engine, leg_tasks}
use Rattle.lp_definitions.specs.Tasks.{change}
use Rattle.lp_machine.proofs.EngineLemmas.{unchecked-control}
use Rattle.lp_transition.proofs.Effects.{takes_change, with_scan, with_table}
use Rattle.lp_transition.proofs.Moves.{a-move}
use Rattle.lp_transition.proofs.Unchanged.{core_changes, notes_before}
use Rattle.lp_transition.proofs.Blames.{leaves_changed, blamed_out}
use Rattle.lp_transition.proofs.LastScans.{last_changes, quiet_unused}
use Rattle.lp_transition.specs.inside.Blames.{blame_at}
use Rattle.lp_transition.specs.inside.Invariant.{told_scan}
use Rattle.lp_transition.proofs.engine.Core.take_move.Goals as goal

pub invariant_of-self : goal.invariant_of-self
invariant_of-self g c =
    let h : c.args.task.0 < 65536 = omega arith in
    let i = c.self.inside in
    let opens = λ (group : ℕ). is_none (blame_at i.blames group) in
    let rules = g.M.Consistency.rules in
    let lawful = g.met.M.Consistency.lawful in
    let e : Engine = record { number = i.events; from = i.from.0; target = i.target.0; patches = i.patches; table = i.tasks; blames = i.blames; last_scan = told_scan i.unchanged } in
    let event = c.args.event in
    let is = a-move event (c.args.task, c.args.mode) c.requires.moves in
    let moved = put_in c.args.mode in
    let own : own_effect rules.child_group (suc e.number) event (leg_tasks e.table) ≡ change c.args.task.0 moved (leg_tasks e.table) = is.effect rules.child_group (suc e.number) (leg_tasks e.table) in
    let quiet = is.quiet in
    let taken = with_scan rules c.args.self.now _ event i.waiting (told_scan c.touch.new.self) (takes_change rules lawful e c.args.self.now c.set_mode.new.self i.waiting event c.args.task.0 moved c.self.view_is c.set_mode.ensures c.self.invariant.engine h c.requires.room quiet c.requires.accepted own (λ x. refl) (λ x. refl)) in
    let plain = unchecked-control rules event quiet in
    let left = leaves_changed rules lawful e c.args.self.now _ i.waiting i.waiting event c.self.view_is c.self.invariant.engine c.self.invariant.blamed taken c.requires.accepted plain refl (is.finds rules e) c.args.task.0 moved own (λ x. refl) (λ x. refl) (λ x frame there. there) in
    record {
      core =
          core_changes rules e c.args.self.now _ i.waiting i.waiting event i.unchanged c.touch.new.self c.self.view_is c.self.invariant.core taken c.requires.accepted
          c.touch.ensures.kind opens (λ on. blamed_out rules lawful (record (with_table c.set_mode.new.self e) { last_scan = told_scan c.touch.new.self }) on taken.kept.sound left.blamed) c.args.task.0 moved plain (notes_before opens i.tasks c.set_mode.new.self c.args.task.0 moved i.unchanged c.touch.new.self c.self.invariant.engine.wide h c.set_mode.ensures (λ x. refl) (c.touch.ensures.changed, c.touch.ensures.may_refuse)) is.touches own (λ x. refl);
      groups = c.self.invariant.groups;
      blamed = left.blamed;
    }

pub returns-clause-state : goal.returns-clause-state
returns-clause-state g c =
    let h : c.args.task.0 < 65536 = omega arith in
    let i = c.self.inside in
    let rules = g.M.Consistency.rules in
    let lawful = g.met.M.Consistency.lawful in
    let e : Engine = record { number = i.events; from = i.from.0; target = i.target.0; patches = i.patches; table = i.tasks; blames = i.blames; last_scan = told_scan i.unchanged } in
    let event = c.args.event in
    let is = a-move event (c.args.task, c.args.mode) c.requires.moves in
    let moved = put_in c.args.mode in
    let own : own_effect rules.child_group (suc e.number) event (leg_tasks e.table) ≡ change c.args.task.0 moved (leg_tasks e.table) = is.effect rules.child_group (suc e.number) (leg_tasks e.table) in
    let quiet = is.quiet in
    let taken = takes_change rules lawful e c.args.self.now c.set_mode.new.self i.waiting event c.args.task.0 moved c.self.view_is c.set_mode.ensures c.self.invariant.engine h c.requires.room quiet c.requires.accepted own (λ x. refl) (λ x. refl) in
    taken.state

pub returns-clause-blames : goal.returns-clause-blames
returns-clause-blames g c =
    let h : c.args.task.0 < 65536 = omega arith in
    let i = c.self.inside in
    let rules = g.M.Consistency.rules in
    let lawful = g.met.M.Consistency.lawful in
    let e : Engine = record { number = i.events; from = i.from.0; target = i.target.0; patches = i.patches; table = i.tasks; blames = i.blames; last_scan = told_scan i.unchanged } in
    let event = c.args.event in
    let is = a-move event (c.args.task, c.args.mode) c.requires.moves in
    let moved = put_in c.args.mode in
    let own : own_effect rules.child_group (suc e.number) event (leg_tasks e.table) ≡ change c.args.task.0 moved (leg_tasks e.table) = is.effect rules.child_group (suc e.number) (leg_tasks e.table) in
    let quiet = is.quiet in
    let taken = takes_change rules lawful e c.args.self.now c.set_mode.new.self i.waiting event c.args.task.0 moved c.self.view_is c.set_mode.ensures c.self.invariant.engine h c.requires.room quiet c.requires.accepted own (λ x. refl) (λ x. refl) in
    let plain = unchecked-control rules event quiet in
    let left = leaves_changed rules lawful e c.args.self.now _ i.waiting i.waiting event c.self.view_is c.self.invariant.engine c.self.invariant.blamed taken c.requires.accepted plain refl (is.finds rules e) c.args.task.0 moved own (λ x. refl) (λ x. refl) (λ x frame there. there) in
    left.after

pub returns-clause-last_scan : goal.returns-clause-last_scan
returns-clause-last_scan g c =
    let h : c.args.task.0 < 65536 = omega arith in
    let i = c.self.inside in
    let opens = λ (group : ℕ). is_none (blame_at i.blames group) in
    let rules = g.M.Consistency.rules in
    let lawful = g.met.M.Consistency.lawful in
    let e : Engine = record { number = i.events; from = i.from.0; target = i.target.0; patches = i.patches; table = i.tasks; blames = i.blames; last_scan = told_scan i.unchanged } in
    let event = c.args.event in
    let is = a-move event (c.args.task, c.args.mode) c.requires.moves in
    let moved = put_in c.args.mode in
    let own : own_effect rules.child_group (suc e.number) event (leg_tasks e.table) ≡ change c.args.task.0 moved (leg_tasks e.table) = is.effect rules.child_group (suc e.number) (leg_tasks e.table) in
    let quiet = is.quiet in
    let taken = with_scan rules c.args.self.now _ event i.waiting (told_scan c.touch.new.self) (takes_change rules lawful e c.args.self.now c.set_mode.new.self i.waiting event c.args.task.0 moved c.self.view_is c.set_mode.ensures c.self.invariant.engine h c.requires.room quiet c.requires.accepted own (λ x. refl) (λ x. refl)) in
    last_changes rules e c.args.self.now _ i.waiting event i.unchanged c.touch.new.self c.self.view_is refl refl taken c.args.task.0 moved c.requires.accepted (unchecked-control rules event quiet) (quiet_unused rules event quiet) c.touch.ensures.kind (notes_before opens i.tasks c.set_mode.new.self c.args.task.0 moved i.unchanged c.touch.new.self c.self.invariant.engine.wide h c.set_mode.ensures (λ x. refl) (c.touch.ensures.changed, c.touch.ensures.may_refuse)) is.touches own (λ x. refl)
