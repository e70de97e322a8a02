use Rattle.std.proofs.Common.{refl, ◌<◌, is_some, ap, arith, ℕ, is_none}
use Rattle.lp_definitions.specs.declared.event.Event.TheVariants.{Die}
use Rattle.lp_machine.proofs.Accept.{die-live}
use Rattle.lp_transition.proofs.Births.{takes_death}
use Rattle.lp_machine.specs.Table.{Engine}
use Rattle.lp_transition.proofs.Unchanged.{core_rests, core_takes, dies_in}
use Rattle.lp_transition.proofs.Blames.{leaves_apart, death_apart, blamed_out}
use Rattle.lp_transition.proofs.Effects.{with_scan, with_table}
use Rattle.lp_transition.proofs.LastScans.{last_rests, last_takes}
use Rattle.lp_transition.specs.inside.Blames.{blame_at}
use Rattle.lp_transition.specs.inside.Invariant.{told_scan}
use Rattle.lp_transition.proofs.engine.Core.take_die.Goals as goal

pub invariant_of-self : goal.invariant_of-self
invariant_of-self g c =
    let i = c.self.inside in
    let opens = λ (group : ℕ). is_none (blame_at i.blames group) in
    let live = die-live g.M.Consistency.rules (record { number = i.events; from = i.from.0; target = i.target.0; patches = i.patches; table = i.tasks; blames = i.blames; last_scan = told_scan i.unchanged }) c.args.task (rw (← c.self.view_is) at c.requires.accepted) in
    let h : c.args.task.0 < 65536 = omega arith in
    let e : Engine = record { number = i.events; from = i.from.0; target = i.target.0; patches = i.patches; table = i.tasks; blames = i.blames; last_scan = told_scan i.unchanged } in
    let accepted = rw (← c.self.view_is) at c.requires.accepted in
    let taken = with_scan g.M.Consistency.rules c.args.self.now _ (Die c.args.task) c.remove.new.self (told_scan c.reset_if_done.new.self) (takes_death g.M.Consistency.rules g.met.M.Consistency.lawful (record { number = i.events; from = i.from.0; target = i.target.0; patches = i.patches; table = i.tasks; blames = i.blames; last_scan = told_scan i.unchanged }) c.args.self.now c.remove-2.new.self i.waiting c.remove.new.self c.args.task c.self.view_is c.remove-2.ensures.removed c.self.invariant.engine c.remove.ensures.numbers c.remove.ensures.after h c.requires.room c.requires.accepted (c.remove-2.ensures.known (ap is_some live.there))) in
    let left = leaves_apart g.M.Consistency.rules g.met.M.Consistency.lawful e c.args.self.now _ i.waiting c.remove.new.self (Die c.args.task) c.self.view_is c.self.invariant.engine c.self.invariant.blamed taken c.requires.accepted refl refl (λ group. refl) (death_apart g.M.Consistency.rules e c.args.task accepted) in
    record {
      core =
          core_rests g.M.Consistency.rules _ c.remove.new.self c.touch.new.self c.reset_if_done.new.self
          (core_takes g.M.Consistency.rules e c.args.self.now _ i.waiting c.remove.new.self (Die c.args.task) i.unchanged c.touch.new.self c.self.view_is c.self.invariant.core
          taken
          c.requires.accepted refl opens (λ on. blamed_out g.M.Consistency.rules g.met.M.Consistency.lawful (record (with_table c.remove-2.new.self e) { last_scan = told_scan c.reset_if_done.new.self }) on taken.kept.sound left.blamed) c.touch.ensures.kind (dies_in g.M.Consistency.rules e c.args.task opens i.unchanged c.touch.new.self (c.touch.ensures.changed, c.touch.ensures.may_refuse)))
          c.reset_if_done.ensures;
      groups = c.self.invariant.groups;
      blamed = left.blamed;
    }

pub returns-clause-state : goal.returns-clause-state
returns-clause-state g c =
    let i = c.self.inside in
    let live = die-live g.M.Consistency.rules (record { number = i.events; from = i.from.0; target = i.target.0; patches = i.patches; table = i.tasks; blames = i.blames; last_scan = told_scan i.unchanged }) c.args.task (rw (← c.self.view_is) at c.requires.accepted) in
    let h : c.args.task.0 < 65536 = omega arith in
    (takes_death g.M.Consistency.rules g.met.M.Consistency.lawful (record { number = i.events; from = i.from.0; target = i.target.0; patches = i.patches; table = i.tasks; blames = i.blames; last_scan = told_scan i.unchanged }) c.args.self.now c.remove-2.new.self i.waiting c.remove.new.self c.args.task c.self.view_is c.remove-2.ensures.removed c.self.invariant.engine c.remove.ensures.numbers c.remove.ensures.after h c.requires.room c.requires.accepted (c.remove-2.ensures.known (ap is_some live.there))).state

pub returns-clause-blames : goal.returns-clause-blames
returns-clause-blames g c =
    let i = c.self.inside in
    let e : Engine = record { number = i.events; from = i.from.0; target = i.target.0; patches = i.patches; table = i.tasks; blames = i.blames; last_scan = told_scan i.unchanged } in
    let live = die-live g.M.Consistency.rules (record { number = i.events; from = i.from.0; target = i.target.0; patches = i.patches; table = i.tasks; blames = i.blames; last_scan = told_scan i.unchanged }) c.args.task (rw (← c.self.view_is) at c.requires.accepted) in
    let h : c.args.task.0 < 65536 = omega arith in
    let accepted = rw (← c.self.view_is) at c.requires.accepted in
    let taken = takes_death g.M.Consistency.rules g.met.M.Consistency.lawful (record { number = i.events; from = i.from.0; target = i.target.0; patches = i.patches; table = i.tasks; blames = i.blames; last_scan = told_scan i.unchanged }) c.args.self.now c.remove-2.new.self i.waiting c.remove.new.self c.args.task c.self.view_is c.remove-2.ensures.removed c.self.invariant.engine c.remove.ensures.numbers c.remove.ensures.after h c.requires.room c.requires.accepted (c.remove-2.ensures.known (ap is_some live.there)) in
    (leaves_apart g.M.Consistency.rules g.met.M.Consistency.lawful e c.args.self.now _ i.waiting c.remove.new.self (Die c.args.task) c.self.view_is c.self.invariant.engine c.self.invariant.blamed taken c.requires.accepted refl refl (λ group. refl) (death_apart g.M.Consistency.rules e c.args.task accepted)).after

pub returns-clause-last_scan : goal.returns-clause-last_scan
returns-clause-last_scan g c =
    let i = c.self.inside in
    let opens = λ (group : ℕ). is_none (blame_at i.blames group) in
    let live = die-live g.M.Consistency.rules (record { number = i.events; from = i.from.0; target = i.target.0; patches = i.patches; table = i.tasks; blames = i.blames; last_scan = told_scan i.unchanged }) c.args.task (rw (← c.self.view_is) at c.requires.accepted) in
    let h : c.args.task.0 < 65536 = omega arith in
    let e : Engine = record { number = i.events; from = i.from.0; target = i.target.0; patches = i.patches; table = i.tasks; blames = i.blames; last_scan = told_scan i.unchanged } in
    let accepted = rw (← c.self.view_is) at c.requires.accepted in
    let taken = with_scan g.M.Consistency.rules c.args.self.now _ (Die c.args.task) c.remove.new.self (told_scan c.touch.new.self) (takes_death g.M.Consistency.rules g.met.M.Consistency.lawful (record { number = i.events; from = i.from.0; target = i.target.0; patches = i.patches; table = i.tasks; blames = i.blames; last_scan = told_scan i.unchanged }) c.args.self.now c.remove-2.new.self i.waiting c.remove.new.self c.args.task c.self.view_is c.remove-2.ensures.removed c.self.invariant.engine c.remove.ensures.numbers c.remove.ensures.after h c.requires.room c.requires.accepted (c.remove-2.ensures.known (ap is_some live.there))) in
    last_rests g.M.Consistency.rules c.args.self.now (Die c.args.task) (with_table c.remove-2.new.self e) c.touch.new.self c.reset_if_done.new.self
    (last_takes g.M.Consistency.rules e c.args.self.now _ c.remove.new.self (Die c.args.task) i.unchanged c.touch.new.self c.self.view_is refl refl taken c.requires.accepted refl refl c.touch.ensures.kind
    (dies_in g.M.Consistency.rules e c.args.task opens i.unchanged c.touch.new.self (c.touch.ensures.changed, c.touch.ensures.may_refuse)))
    c.reset_if_done.ensures
