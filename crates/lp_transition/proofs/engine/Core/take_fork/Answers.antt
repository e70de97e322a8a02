use Rattle.std.proofs.Common.{refl, ◌≡◌, ◌<◌, if◌then◌else◌, nat_eq, not, ap, ◌∙◌, arith, ℕ, is_none}
use Rattle.lp_numbers.specs.Numbers.{has}
use Rattle.lp_definitions.specs.declared.event.Event.TheVariants.{Fork}
use Rattle.lp_machine.proofs.Accept.{fork-new, fork-positive}
use Rattle.lp_transition.proofs.Births.{takes_birth}
use Rattle.lp_machine.specs.Table.{Engine}
use Rattle.lp_transition.proofs.Unchanged.{core_takes, bears_in}
use Rattle.lp_transition.proofs.Blames.{leaves_apart, birth_apart, blamed_out}
use Rattle.lp_transition.proofs.Effects.{with_scan, with_table}
use Rattle.lp_transition.proofs.LastScans.{last_takes}
use Rattle.lp_transition.specs.inside.Blames.{blame_at}
use Rattle.lp_transition.specs.inside.Invariant.{told_scan}
use Rattle.lp_transition.proofs.engine.Core.take_fork.Goals as goal

pub invariant_of-self : goal.invariant_of-self
invariant_of-self g c =
    let i = c.self.inside in
    let opens = λ (group : ℕ). is_none (blame_at i.blames group) in
    let h : c.args.child.0 < 65536 = omega arith in
    let off : c.ne-waits.result ≡ not (nat_eq c.child-live.result.level i.target.0) = c.ne-waits.ensures ∙ ap (λ l. not (nat_eq l i.target.0)) c.level.ensures in
    let e : Engine = record { number = i.events; from = i.from.0; target = i.target.0; patches = i.patches; table = i.tasks; blames = i.blames; last_scan = told_scan i.unchanged } in
    let accepted = rw (← c.self.view_is) at c.requires.accepted in
    let born = rw (← c.self.view_is) at c.child-live.ensures in
    let noted = rw c.put.ensures at c.touch.ensures.changed in
    let taken = with_scan g.M.Consistency.rules c.args.self.now _ (Fork c.args.parent c.args.child c.args.how) c.put_number.new.set (told_scan c.touch.new.self) (takes_birth g.M.Consistency.rules g.met.M.Consistency.lawful (record { number = i.events; from = i.from.0; target = i.target.0; patches = i.patches; table = i.tasks; blames = i.blames; last_scan = told_scan i.unchanged }) c.args.self.now c.put.new.self i.waiting c.put_number.new.set c.args.parent c.args.child c.args.how c.child-live.result c.self.view_is c.put.ensures c.self.invariant.engine c.put_number.ensures.numbers h c.requires.room c.requires.accepted c.child-live.ensures (λ n. c.put_number.ensures.after n ∙ ap (λ b. if nat_eq n c.args.child.0 then b else has i.waiting n) off)) in
    let left = leaves_apart g.M.Consistency.rules g.met.M.Consistency.lawful e c.args.self.now _ i.waiting c.put_number.new.set (Fork c.args.parent c.args.child c.args.how) c.self.view_is c.self.invariant.engine c.self.invariant.blamed taken c.requires.accepted refl refl (λ group. refl) (birth_apart g.M.Consistency.rules e c.args.parent c.args.child c.args.how accepted) in
    record {
      core =
          core_takes g.M.Consistency.rules e c.args.self.now _ i.waiting c.put_number.new.set (Fork c.args.parent c.args.child c.args.how) i.unchanged c.touch.new.self c.self.view_is c.self.invariant.core
          taken
          c.requires.accepted refl opens (λ on. blamed_out g.M.Consistency.rules g.met.M.Consistency.lawful (record (with_table c.put.new.self e) { last_scan = told_scan c.touch.new.self }) on taken.kept.sound left.blamed) c.touch.ensures.kind (bears_in g.M.Consistency.rules e c.args.parent c.args.child c.args.how c.child-live.result opens i.unchanged c.touch.new.self c.self.invariant.engine.wide h accepted born (noted, c.touch.ensures.may_refuse));
      groups = c.self.invariant.groups;
      blamed = left.blamed;
    }

pub returns-clause-state : goal.returns-clause-state
returns-clause-state g c =
    let i = c.self.inside in
    let h : c.args.child.0 < 65536 = omega arith in
    let off : c.ne-waits.result ≡ not (nat_eq c.child-live.result.level i.target.0) = c.ne-waits.ensures ∙ ap (λ l. not (nat_eq l i.target.0)) c.level.ensures in
    (takes_birth g.M.Consistency.rules g.met.M.Consistency.lawful (record { number = i.events; from = i.from.0; target = i.target.0; patches = i.patches; table = i.tasks; blames = i.blames; last_scan = told_scan i.unchanged }) c.args.self.now c.put.new.self i.waiting c.put_number.new.set c.args.parent c.args.child c.args.how c.child-live.result c.self.view_is c.put.ensures c.self.invariant.engine c.put_number.ensures.numbers h c.requires.room c.requires.accepted c.child-live.ensures (λ n. c.put_number.ensures.after n ∙ ap (λ b. if nat_eq n c.args.child.0 then b else has i.waiting n) off)).state

pub returns-clause-blames : goal.returns-clause-blames
returns-clause-blames g c =
    let i = c.self.inside in
    let e : Engine = record { number = i.events; from = i.from.0; target = i.target.0; patches = i.patches; table = i.tasks; blames = i.blames; last_scan = told_scan i.unchanged } in
    let h : c.args.child.0 < 65536 = omega arith in
    let off : c.ne-waits.result ≡ not (nat_eq c.child-live.result.level i.target.0) = c.ne-waits.ensures ∙ ap (λ l. not (nat_eq l i.target.0)) c.level.ensures in
    let accepted = rw (← c.self.view_is) at c.requires.accepted in
    let taken = takes_birth g.M.Consistency.rules g.met.M.Consistency.lawful (record { number = i.events; from = i.from.0; target = i.target.0; patches = i.patches; table = i.tasks; blames = i.blames; last_scan = told_scan i.unchanged }) c.args.self.now c.put.new.self i.waiting c.put_number.new.set c.args.parent c.args.child c.args.how c.child-live.result c.self.view_is c.put.ensures c.self.invariant.engine c.put_number.ensures.numbers h c.requires.room c.requires.accepted c.child-live.ensures (λ n. c.put_number.ensures.after n ∙ ap (λ b. if nat_eq n c.args.child.0 then b else has i.waiting n) off) in
    (leaves_apart g.M.Consistency.rules g.met.M.Consistency.lawful e c.args.self.now _ i.waiting c.put_number.new.set (Fork c.args.parent c.args.child c.args.how) c.self.view_is c.self.invariant.engine c.self.invariant.blamed taken c.requires.accepted refl refl (λ group. refl) (birth_apart g.M.Consistency.rules e c.args.parent c.args.child c.args.how accepted)).after

pub returns-clause-last_scan : goal.returns-clause-last_scan
returns-clause-last_scan g c =
    let i = c.self.inside in
    let opens = λ (group : ℕ). is_none (blame_at i.blames group) in
    let h : c.args.child.0 < 65536 = omega arith in
    let off : c.ne-waits.result ≡ not (nat_eq c.child-live.result.level i.target.0) = c.ne-waits.ensures ∙ ap (λ l. not (nat_eq l i.target.0)) c.level.ensures in
    let e : Engine = record { number = i.events; from = i.from.0; target = i.target.0; patches = i.patches; table = i.tasks; blames = i.blames; last_scan = told_scan i.unchanged } in
    let accepted = rw (← c.self.view_is) at c.requires.accepted in
    let born = rw (← c.self.view_is) at c.child-live.ensures in
    let noted = rw c.put.ensures at c.touch.ensures.changed in
    let taken = with_scan g.M.Consistency.rules c.args.self.now _ (Fork c.args.parent c.args.child c.args.how) c.put_number.new.set (told_scan c.touch.new.self) (takes_birth g.M.Consistency.rules g.met.M.Consistency.lawful (record { number = i.events; from = i.from.0; target = i.target.0; patches = i.patches; table = i.tasks; blames = i.blames; last_scan = told_scan i.unchanged }) c.args.self.now c.put.new.self i.waiting c.put_number.new.set c.args.parent c.args.child c.args.how c.child-live.result c.self.view_is c.put.ensures c.self.invariant.engine c.put_number.ensures.numbers h c.requires.room c.requires.accepted c.child-live.ensures (λ n. c.put_number.ensures.after n ∙ ap (λ b. if nat_eq n c.args.child.0 then b else has i.waiting n) off)) in
    last_takes g.M.Consistency.rules e c.args.self.now _ c.put_number.new.set (Fork c.args.parent c.args.child c.args.how) i.unchanged c.touch.new.self c.self.view_is refl refl taken c.requires.accepted refl refl c.touch.ensures.kind
    (bears_in g.M.Consistency.rules e c.args.parent c.args.child c.args.how c.child-live.result opens i.unchanged c.touch.new.self c.self.invariant.engine.wide h accepted born (noted, c.touch.ensures.may_refuse))

pub put-requires : goal.put-requires
put-requires g c =
    let i = c.self.inside in
    let e : Engine = record { number = i.events; from = i.from.0; target = i.target.0; patches = i.patches; table = i.tasks; blames = i.blames; last_scan = told_scan i.unchanged } in
    let accepted = rw (← c.self.view_is) at c.requires.accepted in
    record {
      positive = fork-positive g.M.Consistency.rules e c.args.parent c.args.child c.args.how accepted;
      free = (fork-new g.M.Consistency.rules e c.args.parent c.args.child c.args.how accepted).0;
    }
