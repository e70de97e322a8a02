use Rattle.std.proofs.Common.{◌<◌, refl, arith}
use Rattle.lp_machine.specs.Table.{Engine}
use Rattle.lp_transition.proofs.Effects.{with_table}
use Rattle.lp_transition.proofs.LastScans.{last_rests}
use Rattle.lp_transition.proofs.OwnTakes.{own_stays, own_goes, own_leaves, own_core, own_last}
use Rattle.lp_transition.proofs.Unchanged.{core_rests}
use Rattle.lp_tasks.specs.inside.OwnChecks.{own_check_event}
use Rattle.lp_transition.specs.inside.Invariant.{told_scan}
use Rattle.lp_transition.proofs.engine.Core.take_own_check.Goals as goal

pub invariant_of-self : goal.invariant_of-self
invariant_of-self g c =
    let i = c.self.inside in
    let h : c.args.task.0 < 65536 = omega arith in
    let rules = g.M.Consistency.rules in
    let lawful = g.met.M.Consistency.lawful in
    let e : Engine = record { number = i.events; from = i.from.0; target = i.target.0; patches = i.patches; table = i.tasks; blames = i.blames; last_scan = told_scan i.unchanged } in
    let taken = own_stays rules lawful e c.args.self.now i.waiting i.unchanged c.args.kind c.args.task c.self.view_is c.self.invariant h c.requires.own_check c.requires.room c.requires.accepted c.args.switching c.requires.switching c.if-not-switching.true c.reach_own_check.new.self c.reach_own_check.ensures in
    record {
      core = own_core rules lawful e c.args.self.now i.waiting i.unchanged c.args.kind c.args.task c.self.view_is c.self.invariant h c.requires.own_check c.requires.room c.requires.accepted c.args.switching c.requires.switching c.reach_own_check.new.self i.waiting taken c.note_own.new.self c.own_blame-found.result c.note_own.ensures.groups c.own_blame-found.ensures c.note_own.ensures.blames (told_scan c.touch.new.self) c.touch.new.self c.touch.ensures.kind (c.touch.ensures.changed, c.touch.ensures.may_refuse);
      groups = c.note_own.ensures.groups;
      blamed = (own_leaves rules lawful e c.args.self.now i.waiting i.unchanged c.args.kind c.args.task c.self.view_is c.self.invariant h c.requires.own_check c.requires.room c.requires.accepted c.args.switching c.requires.switching c.reach_own_check.new.self i.waiting taken c.note_own.new.self c.own_blame-found.result c.note_own.ensures.groups c.own_blame-found.ensures c.note_own.ensures.blames (told_scan c.touch.new.self)).blamed;
    }

pub returns-then-not-switching-clause-state : goal.returns-then-not-switching-clause-state
returns-then-not-switching-clause-state g c =
    let i = c.self.inside in
    let h : c.args.task.0 < 65536 = omega arith in
    let e : Engine = record { number = i.events; from = i.from.0; target = i.target.0; patches = i.patches; table = i.tasks; blames = i.blames; last_scan = told_scan i.unchanged } in
    (own_stays g.M.Consistency.rules g.met.M.Consistency.lawful e c.args.self.now i.waiting i.unchanged c.args.kind c.args.task c.self.view_is c.self.invariant h c.requires.own_check c.requires.room c.requires.accepted c.args.switching c.requires.switching c.if-not-switching.true c.reach_own_check.new.self c.reach_own_check.ensures).state

pub returns-then-not-switching-clause-blames : goal.returns-then-not-switching-clause-blames
returns-then-not-switching-clause-blames g c =
    let i = c.self.inside in
    let h : c.args.task.0 < 65536 = omega arith in
    let rules = g.M.Consistency.rules in
    let lawful = g.met.M.Consistency.lawful in
    let e : Engine = record { number = i.events; from = i.from.0; target = i.target.0; patches = i.patches; table = i.tasks; blames = i.blames; last_scan = told_scan i.unchanged } in
    let taken = own_stays rules lawful e c.args.self.now i.waiting i.unchanged c.args.kind c.args.task c.self.view_is c.self.invariant h c.requires.own_check c.requires.room c.requires.accepted c.args.switching c.requires.switching c.if-not-switching.true c.reach_own_check.new.self c.reach_own_check.ensures in
    (own_leaves rules lawful e c.args.self.now i.waiting i.unchanged c.args.kind c.args.task c.self.view_is c.self.invariant h c.requires.own_check c.requires.room c.requires.accepted c.args.switching c.requires.switching c.reach_own_check.new.self i.waiting taken c.note_own.new.self c.own_blame-found.result c.note_own.ensures.groups c.own_blame-found.ensures c.note_own.ensures.blames (told_scan c.touch.new.self)).after

pub returns-then-not-switching-clause-last_scan : goal.returns-then-not-switching-clause-last_scan
returns-then-not-switching-clause-last_scan g c =
    let i = c.self.inside in
    let h : c.args.task.0 < 65536 = omega arith in
    let rules = g.M.Consistency.rules in
    let lawful = g.met.M.Consistency.lawful in
    let e : Engine = record { number = i.events; from = i.from.0; target = i.target.0; patches = i.patches; table = i.tasks; blames = i.blames; last_scan = told_scan i.unchanged } in
    let taken = own_stays rules lawful e c.args.self.now i.waiting i.unchanged c.args.kind c.args.task c.self.view_is c.self.invariant h c.requires.own_check c.requires.room c.requires.accepted c.args.switching c.requires.switching c.if-not-switching.true c.reach_own_check.new.self c.reach_own_check.ensures in
    own_last rules lawful e c.args.self.now i.waiting i.unchanged c.args.kind c.args.task c.self.view_is c.self.invariant h c.requires.own_check c.requires.room c.requires.accepted c.args.switching c.requires.switching c.reach_own_check.new.self i.waiting taken c.note_own.new.self c.own_blame-found.result c.note_own.ensures.groups c.own_blame-found.ensures c.note_own.ensures.blames (told_scan c.touch.new.self) c.touch.new.self c.touch.ensures.kind (c.touch.ensures.changed, c.touch.ensures.may_refuse) refl refl

pub invariant_of-self-2 : goal.invariant_of-self-2
invariant_of-self-2 g c =
    let i = c.self.inside in
    let h : c.args.task.0 < 65536 = omega arith in
    let rules = g.M.Consistency.rules in
    let lawful = g.met.M.Consistency.lawful in
    let e : Engine = record { number = i.events; from = i.from.0; target = i.target.0; patches = i.patches; table = i.tasks; blames = i.blames; last_scan = told_scan i.unchanged } in
    let taken = own_goes rules lawful e c.args.self.now i.waiting i.unchanged c.args.kind c.args.task c.self.view_is c.self.invariant h c.requires.own_check c.requires.room c.requires.accepted c.args.switching c.requires.switching c.if-not-switching.false c.set_level.new.self c.reach_own_check.new.self c.remove.new.self c.set_level.ensures c.reach_own_check.ensures c.remove.ensures.after c.remove.ensures.numbers in
    record {
      core =
          core_rests rules _ c.remove.new.self c.touch.new.self c.reset_if_done.new.self
          (own_core rules lawful e c.args.self.now i.waiting i.unchanged c.args.kind c.args.task c.self.view_is c.self.invariant h c.requires.own_check c.requires.room c.requires.accepted c.args.switching c.requires.switching c.set_level.new.self c.remove.new.self taken c.note_own.new.self c.own_blame-found.result c.note_own.ensures.groups c.own_blame-found.ensures c.note_own.ensures.blames (told_scan c.reset_if_done.new.self) c.touch.new.self c.touch.ensures.kind (c.touch.ensures.changed, c.touch.ensures.may_refuse))
          c.reset_if_done.ensures;
      groups = c.note_own.ensures.groups;
      blamed = (own_leaves rules lawful e c.args.self.now i.waiting i.unchanged c.args.kind c.args.task c.self.view_is c.self.invariant h c.requires.own_check c.requires.room c.requires.accepted c.args.switching c.requires.switching c.set_level.new.self c.remove.new.self taken c.note_own.new.self c.own_blame-found.result c.note_own.ensures.groups c.own_blame-found.ensures c.note_own.ensures.blames (told_scan c.reset_if_done.new.self)).blamed;
    }

pub returns-clause-state : goal.returns-clause-state
returns-clause-state g c =
    let i = c.self.inside in
    let h : c.args.task.0 < 65536 = omega arith in
    let e : Engine = record { number = i.events; from = i.from.0; target = i.target.0; patches = i.patches; table = i.tasks; blames = i.blames; last_scan = told_scan i.unchanged } in
    (own_goes g.M.Consistency.rules g.met.M.Consistency.lawful e c.args.self.now i.waiting i.unchanged c.args.kind c.args.task c.self.view_is c.self.invariant h c.requires.own_check c.requires.room c.requires.accepted c.args.switching c.requires.switching c.if-not-switching.false c.set_level.new.self c.reach_own_check.new.self c.remove.new.self c.set_level.ensures c.reach_own_check.ensures c.remove.ensures.after c.remove.ensures.numbers).state

pub returns-clause-blames : goal.returns-clause-blames
returns-clause-blames g c =
    let i = c.self.inside in
    let h : c.args.task.0 < 65536 = omega arith in
    let rules = g.M.Consistency.rules in
    let lawful = g.met.M.Consistency.lawful in
    let e : Engine = record { number = i.events; from = i.from.0; target = i.target.0; patches = i.patches; table = i.tasks; blames = i.blames; last_scan = told_scan i.unchanged } in
    let taken = own_goes rules lawful e c.args.self.now i.waiting i.unchanged c.args.kind c.args.task c.self.view_is c.self.invariant h c.requires.own_check c.requires.room c.requires.accepted c.args.switching c.requires.switching c.if-not-switching.false c.set_level.new.self c.reach_own_check.new.self c.remove.new.self c.set_level.ensures c.reach_own_check.ensures c.remove.ensures.after c.remove.ensures.numbers in
    (own_leaves rules lawful e c.args.self.now i.waiting i.unchanged c.args.kind c.args.task c.self.view_is c.self.invariant h c.requires.own_check c.requires.room c.requires.accepted c.args.switching c.requires.switching c.set_level.new.self c.remove.new.self taken c.note_own.new.self c.own_blame-found.result c.note_own.ensures.groups c.own_blame-found.ensures c.note_own.ensures.blames (told_scan c.reset_if_done.new.self)).after

pub returns-clause-last_scan : goal.returns-clause-last_scan
returns-clause-last_scan g c =
    let i = c.self.inside in
    let h : c.args.task.0 < 65536 = omega arith in
    let rules = g.M.Consistency.rules in
    let lawful = g.met.M.Consistency.lawful in
    let e : Engine = record { number = i.events; from = i.from.0; target = i.target.0; patches = i.patches; table = i.tasks; blames = i.blames; last_scan = told_scan i.unchanged } in
    let taken = own_goes rules lawful e c.args.self.now i.waiting i.unchanged c.args.kind c.args.task c.self.view_is c.self.invariant h c.requires.own_check c.requires.room c.requires.accepted c.args.switching c.requires.switching c.if-not-switching.false c.set_level.new.self c.reach_own_check.new.self c.remove.new.self c.set_level.ensures c.reach_own_check.ensures c.remove.ensures.after c.remove.ensures.numbers in
    last_rests rules c.args.self.now (own_check_event c.args.kind c.args.task) (record (with_table c.set_level.new.self e) { blames = c.note_own.new.self }) c.touch.new.self c.reset_if_done.new.self
    (own_last rules lawful e c.args.self.now i.waiting i.unchanged c.args.kind c.args.task c.self.view_is c.self.invariant h c.requires.own_check c.requires.room c.requires.accepted c.args.switching c.requires.switching c.set_level.new.self c.remove.new.self taken c.note_own.new.self c.own_blame-found.result c.note_own.ensures.groups c.own_blame-found.ensures c.note_own.ensures.blames (told_scan c.touch.new.self) c.touch.new.self c.touch.ensures.kind (c.touch.ensures.changed, c.touch.ensures.may_refuse) refl refl)
    c.reset_if_done.ensures
