use Rattle.std.proofs.Common.{refl}
use Rattle.lp_machine.specs.Table.{Engine}
use Rattle.lp_transition.proofs.QuietScans.{quiet_whole, quiet_steps, quiet_blames, quiet_last}
use Rattle.lp_transition.specs.inside.Invariant.{told_scan}
use Rattle.lp_transition.proofs.engine.Core.step_quiet_scan.Goals as goal

pub invariant_of-self : goal.invariant_of-self
invariant_of-self g c =
    let i = c.self.inside in
    let e : Engine = record { number = i.events; from = i.from.0; target = i.target.0; patches = i.patches; table = i.tasks; blames = i.blames; last_scan = told_scan i.unchanged } in
    quiet_whole g.M.Consistency.rules g.met.M.Consistency.lawful e c.args.self.now i.waiting i.unchanged c.clear_changed.new.self c.args.kind c.self.view_is c.self.invariant c.requires.scan c.requires.room c.requires.quiet refl c.clear_changed.ensures.kind c.clear_changed.ensures.may_refuse c.clear_changed.ensures.changed

pub returns-clause-step : goal.returns-clause-step
returns-clause-step g c =
    let i = c.self.inside in
    let e : Engine = record { number = i.events; from = i.from.0; target = i.target.0; patches = i.patches; table = i.tasks; blames = i.blames; last_scan = told_scan i.unchanged } in
    let steps = quiet_steps g.M.Consistency.rules g.met.M.Consistency.lawful e c.args.self.now i.waiting i.unchanged c.clear_changed.new.self c.args.kind c.self.view_is c.self.invariant c.requires.scan c.requires.room c.requires.quiet in
    rw c.done.ensures steps

pub returns-clause-blames : goal.returns-clause-blames
returns-clause-blames g c =
    let i = c.self.inside in
    let e : Engine = record { number = i.events; from = i.from.0; target = i.target.0; patches = i.patches; table = i.tasks; blames = i.blames; last_scan = told_scan i.unchanged } in
    quiet_blames g.M.Consistency.rules g.met.M.Consistency.lawful e c.args.self.now i.waiting i.unchanged c.clear_changed.new.self c.args.kind c.self.view_is c.self.invariant c.requires.scan c.requires.room c.requires.quiet

pub returns-clause-last_scan : goal.returns-clause-last_scan
returns-clause-last_scan g c =
    let i = c.self.inside in
    let e : Engine = record { number = i.events; from = i.from.0; target = i.target.0; patches = i.patches; table = i.tasks; blames = i.blames; last_scan = told_scan i.unchanged } in
    quiet_last g.M.Consistency.rules g.met.M.Consistency.lawful e c.args.self.now i.waiting i.unchanged c.clear_changed.new.self c.args.kind c.self.view_is c.self.invariant c.requires.scan c.requires.room c.requires.quiet refl c.clear_changed.ensures.kind c.clear_changed.ensures.may_refuse c.clear_changed.ensures.changed
