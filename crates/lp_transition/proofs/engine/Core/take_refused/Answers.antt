use Rattle.std.proofs.Common.{refl}
use Rattle.lp_transition.proofs.Effects.{takes_refused}
use Rattle.lp_machine.specs.Table.{Engine}
use Rattle.lp_transition.proofs.Unchanged.{core_counts}
use Rattle.lp_transition.proofs.Blames.{leaves_refused}
use Rattle.lp_transition.proofs.LastScans.{last_counts}
use Rattle.lp_transition.specs.inside.Invariant.{told_scan}
use Rattle.lp_transition.proofs.engine.Core.take_refused.Goals as goal

pub invariant_of-self : goal.invariant_of-self
invariant_of-self g c =
    let i = c.self.inside in
    let e : Engine = record { number = i.events; from = i.from.0; target = i.target.0; patches = i.patches; table = i.tasks; blames = i.blames; last_scan = told_scan i.unchanged } in
    let taken = takes_refused g.M.Consistency.rules g.met.M.Consistency.lawful (record { number = i.events; from = i.from.0; target = i.target.0; patches = i.patches; table = i.tasks; blames = i.blames; last_scan = told_scan i.unchanged }) c.args.self.now i.waiting c.args.event c.args.why c.self.view_is c.self.invariant.engine c.requires.room c.requires.refused in
    let left = leaves_refused g.M.Consistency.rules g.met.M.Consistency.lawful e c.args.self.now _ i.waiting i.waiting c.args.event c.self.view_is c.self.invariant.engine c.self.invariant.blamed taken c.args.why c.requires.refused refl in
    record {
      core =
          core_counts g.M.Consistency.rules e c.args.self.now _ i.waiting i.waiting c.args.event i.unchanged i.unchanged c.self.view_is c.self.invariant.core
          (takes_refused g.M.Consistency.rules g.met.M.Consistency.lawful e c.args.self.now i.waiting c.args.event c.args.why c.self.view_is c.self.invariant.engine c.requires.room c.requires.refused)
          c.args.why c.requires.refused refl;
      groups = c.self.invariant.groups;
      blamed = left.blamed;
    }

pub returns-clause-state : goal.returns-clause-state
returns-clause-state g c =
    let i = c.self.inside in
    (takes_refused g.M.Consistency.rules g.met.M.Consistency.lawful (record { number = i.events; from = i.from.0; target = i.target.0; patches = i.patches; table = i.tasks; blames = i.blames; last_scan = told_scan i.unchanged }) c.args.self.now i.waiting c.args.event c.args.why c.self.view_is c.self.invariant.engine c.requires.room c.requires.refused).state

pub returns-clause-blames : goal.returns-clause-blames
returns-clause-blames g c =
    let i = c.self.inside in
    let e : Engine = record { number = i.events; from = i.from.0; target = i.target.0; patches = i.patches; table = i.tasks; blames = i.blames; last_scan = told_scan i.unchanged } in
    let taken = takes_refused g.M.Consistency.rules g.met.M.Consistency.lawful (record { number = i.events; from = i.from.0; target = i.target.0; patches = i.patches; table = i.tasks; blames = i.blames; last_scan = told_scan i.unchanged }) c.args.self.now i.waiting c.args.event c.args.why c.self.view_is c.self.invariant.engine c.requires.room c.requires.refused in
    (leaves_refused g.M.Consistency.rules g.met.M.Consistency.lawful e c.args.self.now _ i.waiting i.waiting c.args.event c.self.view_is c.self.invariant.engine c.self.invariant.blamed taken c.args.why c.requires.refused refl).after

pub returns-clause-last_scan : goal.returns-clause-last_scan
returns-clause-last_scan g c =
    let i = c.self.inside in
    let e : Engine = record { number = i.events; from = i.from.0; target = i.target.0; patches = i.patches; table = i.tasks; blames = i.blames; last_scan = told_scan i.unchanged } in
    let taken = takes_refused g.M.Consistency.rules g.met.M.Consistency.lawful (record { number = i.events; from = i.from.0; target = i.target.0; patches = i.patches; table = i.tasks; blames = i.blames; last_scan = told_scan i.unchanged }) c.args.self.now i.waiting c.args.event c.args.why c.self.view_is c.self.invariant.engine c.requires.room c.requires.refused in
    last_counts g.M.Consistency.rules e c.args.self.now _ i.waiting c.args.event i.unchanged i.unchanged c.self.view_is refl refl taken c.args.why c.requires.refused refl
