use Rattle.std.proofs.Common.{refl, ◌∙◌}
use Rattle.lp_transition.proofs.ScanTakes.{still-scan, takes_scan}
use Rattle.lp_machine.specs.Table.{Engine}
use Rattle.lp_transition.proofs.Unchanged.{core_scanned, core_starts}
use Rattle.lp_transition.proofs.BlamedScans.{leaves_scanned, blame_within}
use Rattle.lp_transition.proofs.Blames.{with_blames}
use Rattle.lp_transition.proofs.Effects.{with_scan}
use Rattle.lp_transition.proofs.LastScans.{last_forgotten, last_scanned, noted_or}
use Rattle.lp_transition.specs.inside.Invariant.{told_scan}
use Rattle.lp_transition.proofs.engine.Core.take_scan.Goals as goal

pub switch_scanned-requires : goal.switch_scanned-requires
switch_scanned-requires g c =
    let i = c.self.inside in
    let e : Engine = record { number = i.events; from = i.from.0; target = i.target.0; patches = i.patches; table = i.tasks; blames = i.blames; last_scan = told_scan i.unchanged } in
    still-scan g.M.Consistency.rules g.met.M.Consistency.lawful e c.args.self.now i.waiting c.args.step.now c.scan_kind-kind.result c.self.view_is c.self.invariant.engine c.requires.weighed c.scan_kind-kind.ensures.scan (c.scan_kind-kind.ensures.event ∙ c.event.ensures) c.note.new.refused (rw c.verdicts.ensures at c.note.ensures.refused)

pub invariant_of-self : goal.invariant_of-self
invariant_of-self g c =
    let i = c.self.inside in
    let e : Engine = record { number = i.events; from = i.from.0; target = i.target.0; patches = i.patches; table = i.tasks; blames = i.blames; last_scan = told_scan i.unchanged } in
    let noted = rw c.verdicts.ensures at c.note.ensures.blames in
    let taken = with_scan g.M.Consistency.rules c.args.self.now _ c.args.step.now.event c.switch_scanned.new.waiting (told_scan c.reset.new.self) (with_blames g.M.Consistency.rules c.args.self.now _ c.args.step.now.event c.switch_scanned.new.waiting c.note.new.self (takes_scan g.M.Consistency.rules g.met.M.Consistency.lawful (record { number = i.events; from = i.from.0; target = i.target.0; patches = i.patches; table = i.tasks; blames = i.blames; last_scan = told_scan i.unchanged }) c.args.self.now i.waiting c.args.step.now c.scan_kind-kind.result c.self.view_is c.self.invariant.engine c.requires.weighed c.scan_kind-kind.ensures.scan (c.scan_kind-kind.ensures.event ∙ c.event.ensures) c.note.new.refused (rw c.verdicts.ensures at c.note.ensures.refused) c.switch_scanned.new.tasks c.switch_scanned.new.waiting c.switch_scanned.ensures)) in
    let left = leaves_scanned g.M.Consistency.rules g.met.M.Consistency.lawful e c.args.self.now _ i.waiting c.switch_scanned.new.waiting c.args.step.now c.self.view_is c.self.invariant.engine c.self.invariant.blamed taken c.requires.weighed c.requires.scan noted (λ group b there. blame_within c.note.new.self group b c.note.ensures.groups there) in
    record {
      core = core_starts g.M.Consistency.rules _ c.switch_scanned.new.waiting c.reset.new.self taken.kept c.reset.ensures;
      groups = c.note.ensures.groups;
      blamed = left.blamed;
    }

pub invariant_of-self-2 : goal.invariant_of-self-2
invariant_of-self-2 g c =
    let i = c.self.inside in
    let e : Engine = record { number = i.events; from = i.from.0; target = i.target.0; patches = i.patches; table = i.tasks; blames = i.blames; last_scan = told_scan i.unchanged } in
    let noted = rw c.verdicts.ensures at c.note.ensures.blames in
    let taken = with_scan g.M.Consistency.rules c.args.self.now _ c.args.step.now.event c.switch_scanned.new.waiting (told_scan c.scanned.new.self) (with_blames g.M.Consistency.rules c.args.self.now _ c.args.step.now.event c.switch_scanned.new.waiting c.note.new.self (takes_scan g.M.Consistency.rules g.met.M.Consistency.lawful (record { number = i.events; from = i.from.0; target = i.target.0; patches = i.patches; table = i.tasks; blames = i.blames; last_scan = told_scan i.unchanged }) c.args.self.now i.waiting c.args.step.now c.scan_kind-kind.result c.self.view_is c.self.invariant.engine c.requires.weighed c.scan_kind-kind.ensures.scan (c.scan_kind-kind.ensures.event ∙ c.event.ensures) c.note.new.refused (rw c.verdicts.ensures at c.note.ensures.refused) c.switch_scanned.new.tasks c.switch_scanned.new.waiting c.switch_scanned.ensures)) in
    let left = leaves_scanned g.M.Consistency.rules g.met.M.Consistency.lawful e c.args.self.now _ i.waiting c.switch_scanned.new.waiting c.args.step.now c.self.view_is c.self.invariant.engine c.self.invariant.blamed taken c.requires.weighed c.requires.scan noted (λ group b there. blame_within c.note.new.self group b c.note.ensures.groups there) in
    let noted_scan = noted_or c.uses-is_used.result (rw c.verdicts-2.ensures at c.scanned.ensures.used) c.scanned.ensures.unused in
    record {
      core =
          core_scanned g.M.Consistency.rules g.met.M.Consistency.lawful e c.args.self.now _ i.waiting c.switch_scanned.new.waiting c.args.step.now.event i.unchanged c.scanned.new.self c.self.view_is c.self.invariant.core
          taken
          c.scan_kind-kind.result c.scan_kind-kind.ensures.scan (c.scan_kind-kind.ensures.event ∙ c.event.ensures) c.args.step.now.verdicts c.requires.weighed.verdicts noted_scan;
      groups = c.note.ensures.groups;
      blamed = left.blamed;
    }

pub returns-then-is_empty-clause-state : goal.returns-then-is_empty-clause-state
returns-then-is_empty-clause-state g c =
    let i = c.self.inside in
    (takes_scan g.M.Consistency.rules g.met.M.Consistency.lawful (record { number = i.events; from = i.from.0; target = i.target.0; patches = i.patches; table = i.tasks; blames = i.blames; last_scan = told_scan i.unchanged }) c.args.self.now i.waiting c.args.step.now c.scan_kind-kind.result c.self.view_is c.self.invariant.engine c.requires.weighed c.scan_kind-kind.ensures.scan (c.scan_kind-kind.ensures.event ∙ c.event.ensures) c.note.new.refused (rw c.verdicts.ensures at c.note.ensures.refused) c.switch_scanned.new.tasks c.switch_scanned.new.waiting c.switch_scanned.ensures).state

pub returns-clause-state : goal.returns-clause-state
returns-clause-state g c =
    let i = c.self.inside in
    (takes_scan g.M.Consistency.rules g.met.M.Consistency.lawful (record { number = i.events; from = i.from.0; target = i.target.0; patches = i.patches; table = i.tasks; blames = i.blames; last_scan = told_scan i.unchanged }) c.args.self.now i.waiting c.args.step.now c.scan_kind-kind.result c.self.view_is c.self.invariant.engine c.requires.weighed c.scan_kind-kind.ensures.scan (c.scan_kind-kind.ensures.event ∙ c.event.ensures) c.note.new.refused (rw c.verdicts.ensures at c.note.ensures.refused) c.switch_scanned.new.tasks c.switch_scanned.new.waiting c.switch_scanned.ensures).state

pub returns-then-is_empty-clause-blames : goal.returns-then-is_empty-clause-blames
returns-then-is_empty-clause-blames g c =
    let i = c.self.inside in
    let e : Engine = record { number = i.events; from = i.from.0; target = i.target.0; patches = i.patches; table = i.tasks; blames = i.blames; last_scan = told_scan i.unchanged } in
    let noted = rw c.verdicts.ensures at c.note.ensures.blames in
    let taken = with_blames g.M.Consistency.rules c.args.self.now _ c.args.step.now.event c.switch_scanned.new.waiting c.note.new.self (takes_scan g.M.Consistency.rules g.met.M.Consistency.lawful (record { number = i.events; from = i.from.0; target = i.target.0; patches = i.patches; table = i.tasks; blames = i.blames; last_scan = told_scan i.unchanged }) c.args.self.now i.waiting c.args.step.now c.scan_kind-kind.result c.self.view_is c.self.invariant.engine c.requires.weighed c.scan_kind-kind.ensures.scan (c.scan_kind-kind.ensures.event ∙ c.event.ensures) c.note.new.refused (rw c.verdicts.ensures at c.note.ensures.refused) c.switch_scanned.new.tasks c.switch_scanned.new.waiting c.switch_scanned.ensures) in
    (leaves_scanned g.M.Consistency.rules g.met.M.Consistency.lawful e c.args.self.now _ i.waiting c.switch_scanned.new.waiting c.args.step.now c.self.view_is c.self.invariant.engine c.self.invariant.blamed taken c.requires.weighed c.requires.scan noted (λ group b there. blame_within c.note.new.self group b c.note.ensures.groups there)).after

pub returns-clause-blames : goal.returns-clause-blames
returns-clause-blames g c =
    let i = c.self.inside in
    let e : Engine = record { number = i.events; from = i.from.0; target = i.target.0; patches = i.patches; table = i.tasks; blames = i.blames; last_scan = told_scan i.unchanged } in
    let noted = rw c.verdicts.ensures at c.note.ensures.blames in
    let taken = with_blames g.M.Consistency.rules c.args.self.now _ c.args.step.now.event c.switch_scanned.new.waiting c.note.new.self (takes_scan g.M.Consistency.rules g.met.M.Consistency.lawful (record { number = i.events; from = i.from.0; target = i.target.0; patches = i.patches; table = i.tasks; blames = i.blames; last_scan = told_scan i.unchanged }) c.args.self.now i.waiting c.args.step.now c.scan_kind-kind.result c.self.view_is c.self.invariant.engine c.requires.weighed c.scan_kind-kind.ensures.scan (c.scan_kind-kind.ensures.event ∙ c.event.ensures) c.note.new.refused (rw c.verdicts.ensures at c.note.ensures.refused) c.switch_scanned.new.tasks c.switch_scanned.new.waiting c.switch_scanned.ensures) in
    (leaves_scanned g.M.Consistency.rules g.met.M.Consistency.lawful e c.args.self.now _ i.waiting c.switch_scanned.new.waiting c.args.step.now c.self.view_is c.self.invariant.engine c.self.invariant.blamed taken c.requires.weighed c.requires.scan noted (λ group b there. blame_within c.note.new.self group b c.note.ensures.groups there)).after

pub returns-then-is_empty-clause-last_scan : goal.returns-then-is_empty-clause-last_scan
returns-then-is_empty-clause-last_scan g c = last_forgotten g.M.Consistency.rules c.args.self.now c.args.step.now.event _ c.reset.ensures

pub returns-clause-last_scan : goal.returns-clause-last_scan
returns-clause-last_scan g c =
    let i = c.self.inside in
    let e : Engine = record { number = i.events; from = i.from.0; target = i.target.0; patches = i.patches; table = i.tasks; blames = i.blames; last_scan = told_scan i.unchanged } in
    let taken = with_scan g.M.Consistency.rules c.args.self.now _ c.args.step.now.event c.switch_scanned.new.waiting (told_scan c.scanned.new.self) (with_blames g.M.Consistency.rules c.args.self.now _ c.args.step.now.event c.switch_scanned.new.waiting c.note.new.self (takes_scan g.M.Consistency.rules g.met.M.Consistency.lawful (record { number = i.events; from = i.from.0; target = i.target.0; patches = i.patches; table = i.tasks; blames = i.blames; last_scan = told_scan i.unchanged }) c.args.self.now i.waiting c.args.step.now c.scan_kind-kind.result c.self.view_is c.self.invariant.engine c.requires.weighed c.scan_kind-kind.ensures.scan (c.scan_kind-kind.ensures.event ∙ c.event.ensures) c.note.new.refused (rw c.verdicts.ensures at c.note.ensures.refused) c.switch_scanned.new.tasks c.switch_scanned.new.waiting c.switch_scanned.ensures)) in
    last_scanned g.M.Consistency.rules e c.args.self.now _ c.switch_scanned.new.waiting c.args.step.now.event i.unchanged c.scanned.new.self c.self.view_is refl refl taken c.scan_kind-kind.result c.uses-is_used.result c.scan_kind-kind.ensures.scan (c.scan_kind-kind.ensures.event ∙ c.event.ensures) c.uses-is_used.ensures (λ used. ((c.scanned.ensures.used used).noted, (c.scanned.ensures.used used).fresh)) c.scanned.ensures.unused
