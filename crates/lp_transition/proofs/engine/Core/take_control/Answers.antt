use Rattle.std.proofs.Common.{◌≤◌, length, sym, subst}
use Rattle.lp_machine.specs.Table.{Engine}
use Rattle.lp_transition.proofs.Turned.{takes_turned}
use Rattle.lp_transition.proofs.Unchanged.{core_forgets}
use Rattle.lp_transition.proofs.Blames.{with_blames, leaves_clear}
use Rattle.lp_transition.proofs.Effects.{with_scan}
use Rattle.lp_transition.proofs.LastScans.{last_forgotten}
use Rattle.lp_transition.specs.inside.Invariant.{told_scan}
use Rattle.lp_transition.proofs.engine.Core.take_control.Goals as goal

pub invariant_of-self : goal.invariant_of-self
invariant_of-self g c =
    let i = c.self.inside in
    let e : Engine = record { number = i.events; from = i.from.0; target = i.target.0; patches = i.patches; table = i.tasks; blames = i.blames; last_scan = told_scan i.unchanged } in
    let taken = with_scan g.M.Consistency.rules c.args.self.now _ c.args.event c.turn.new.waiting (told_scan c.reset.new.self) (with_blames g.M.Consistency.rules c.args.self.now _ c.args.event c.turn.new.waiting c.clear.new.self (takes_turned g.M.Consistency.rules g.met.M.Consistency.lawful (record { number = i.events; from = i.from.0; target = i.target.0; patches = i.patches; table = i.tasks; blames = i.blames; last_scan = told_scan i.unchanged }) c.args.self.now i.waiting c.turn.new.waiting c.live_set.result.now c.args.event c.new_level-level.result.0 c.self.view_is c.self.invariant.engine c.live_set.ensures c.turn.ensures.numbers c.turn.ensures.members c.requires.room c.requires.accepted c.requires.control c.new_level-level.ensures.value (subst (λ (o : Engine). c.new_level-level.result.0 ≤ length o.patches) (sym c.self.view_is) c.new_level-level.ensures.fits))) in
    let left = leaves_clear g.M.Consistency.rules g.met.M.Consistency.lawful e c.args.self.now _ i.waiting c.turn.new.waiting c.args.event c.self.view_is c.self.invariant.engine c.self.invariant.blamed taken c.requires.accepted c.requires.control c.clear.ensures.none in
    record {
      core =
          core_forgets g.M.Consistency.rules e c.args.self.now _ i.waiting c.turn.new.waiting c.args.event i.unchanged c.reset.new.self c.self.view_is c.self.invariant.core
          taken
          c.reset.ensures;
      groups = c.clear.ensures.groups;
      blamed = left.blamed;
    }

pub returns-clause-state : goal.returns-clause-state
returns-clause-state g c =
    let i = c.self.inside in
    (takes_turned g.M.Consistency.rules g.met.M.Consistency.lawful (record { number = i.events; from = i.from.0; target = i.target.0; patches = i.patches; table = i.tasks; blames = i.blames; last_scan = told_scan i.unchanged }) c.args.self.now i.waiting c.turn.new.waiting c.live_set.result.now c.args.event c.new_level-level.result.0 c.self.view_is c.self.invariant.engine c.live_set.ensures c.turn.ensures.numbers c.turn.ensures.members c.requires.room c.requires.accepted c.requires.control c.new_level-level.ensures.value (subst (λ (o : Engine). c.new_level-level.result.0 ≤ length o.patches) (sym c.self.view_is) c.new_level-level.ensures.fits)).state

pub returns-clause-blames : goal.returns-clause-blames
returns-clause-blames g c =
    let i = c.self.inside in
    let e : Engine = record { number = i.events; from = i.from.0; target = i.target.0; patches = i.patches; table = i.tasks; blames = i.blames; last_scan = told_scan i.unchanged } in
    let taken = with_blames g.M.Consistency.rules c.args.self.now _ c.args.event c.turn.new.waiting c.clear.new.self (takes_turned g.M.Consistency.rules g.met.M.Consistency.lawful (record { number = i.events; from = i.from.0; target = i.target.0; patches = i.patches; table = i.tasks; blames = i.blames; last_scan = told_scan i.unchanged }) c.args.self.now i.waiting c.turn.new.waiting c.live_set.result.now c.args.event c.new_level-level.result.0 c.self.view_is c.self.invariant.engine c.live_set.ensures c.turn.ensures.numbers c.turn.ensures.members c.requires.room c.requires.accepted c.requires.control c.new_level-level.ensures.value (subst (λ (o : Engine). c.new_level-level.result.0 ≤ length o.patches) (sym c.self.view_is) c.new_level-level.ensures.fits)) in
    (leaves_clear g.M.Consistency.rules g.met.M.Consistency.lawful e c.args.self.now _ i.waiting c.turn.new.waiting c.args.event c.self.view_is c.self.invariant.engine c.self.invariant.blamed taken c.requires.accepted c.requires.control c.clear.ensures.none).after

pub returns-clause-last_scan : goal.returns-clause-last_scan
returns-clause-last_scan g c = last_forgotten g.M.Consistency.rules c.args.self.now c.args.event _ c.reset.ensures
