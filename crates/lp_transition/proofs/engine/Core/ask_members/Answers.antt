use Rattle.std.proofs.Common.{Result, Ok, Err, IfOk, ◌≡◌, ℕ, true, subst}
use Rattle.lp_numbers.specs.Numbers.{has}
use Rattle.lp_definitions.specs.Tasks.{Live}
use Rattle.lp_definitions.specs.Leg.{LegTask}
use Rattle.lp_machine.specs.Table.{Engine, leg_tasks}
use Rattle.lp_transition.proofs.FirstRefusals.{pass-covers}
use Rattle.lp_transition.proofs.WholeGroups.{members-cover}
use Rattle.lp_transition.specs.inside.Invariant.{told_scan}
use Rattle.lp_transition.proofs.engine.Core.ask_members.Goals as goal

ok_map : {A E : Type 0} {P Q : A → Type 0} (r : Result A E) → IfOk r P → ((a : A) → P a → Q a) → IfOk r Q
ok_map (Ok a) told more = more a told
ok_map (Err e) told more = tt

pub returns-then-not-are_small : goal.returns-then-not-are_small
returns-then-not-are_small g c =
    ok_map c.ask_in_turn.result c.ask_in_turn.ensures
    (λ found h. pass-covers c.args.self.now g.M.Consistency.rules c.args.kind (has c.args.may_refuse.now) (has c.args.may_refuse.now) (has c.args.unrefused.now) 65536 found.items (has c.ask_in_turn.new.unrefused) (λ t x live may mine. may) h)

pub returns : goal.returns
returns g c =
    let i = c.self.inside in
    let e : Engine = record { number = i.events; from = i.from.0; target = i.target.0; patches = i.patches; table = i.tasks; blames = i.blames; last_scan = told_scan i.unchanged } in
    let covers =
    subst (λ (o : Engine). (t : ℕ) (x : LegTask) → leg_tasks o.table t ≡ Live x → has c.args.unrefused.now x.group ≡ true → has c.in_ok-members.members t ≡ true) c.self.view_is
    (members-cover e i.waiting c.self.invariant.engine g.M.Consistency.rules c.args.kind c.args.unrefused.now c.in_ok-members.members c.in_ok-members.ensures) in
    ok_map c.ask_in_turn-2.result c.ask_in_turn-2.ensures
    (λ found h. pass-covers c.args.self.now g.M.Consistency.rules c.args.kind (has c.in_ok-members.members) (has c.args.may_refuse.now) (has c.args.unrefused.now) 65536 found.items (has c.ask_in_turn-2.new.unrefused) (λ t x live may mine. covers t x live mine) h)
