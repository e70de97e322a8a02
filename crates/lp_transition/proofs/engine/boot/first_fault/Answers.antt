use Rattle.std.proofs.Common.{◌≡◌, true, false, nat_eq, get_or, refl, sym, ap, ◌∙◌, length-set, arith}
use Rattle.std.proofs.lemmas.List.{length-replicate}
use Rattle.std.proofs.lemmas.Bool.Decides.{nat_tests}
use Rattle.lp_stack.specs.declared.view.Class.TheVariants.{Normal}
use Rattle.lp_numbers.specs.Numbers.{has}
use Rattle.lp_transition.proofs.BootLemmas.{boot_fault_at, marked-more, none_marked}
use Rattle.lp_transition.proofs.engine.boot.first_fault.Goals as goal

pub loop-task-init : goal.loop-task-init
loop-task-init c = record { count = length-replicate 65536 false; free = refl; marked = λ q h. none_marked 65536 q }

pub returns-then-number-eq0 : goal.returns-then-number-eq0
returns-then-number-eq0 c =
    let boots = c.args.tasks.now in
    let i = c.loop-task.task-index in
    let here = boot_fault_at boots i (record { 0 = 0 }, Normal) (omega arith) in
    let none : nat_eq (get_or boots i (record { 0 = 0 }, Normal)).0.0 0 ≡ true = grind (arith, nat_tests) in
    sym (sym c.loop-task.invariant.free ∙ here ∙ rw none refl)

pub returns-then-seen-number : goal.returns-then-seen-number
returns-then-seen-number c =
    let boots = c.args.tasks.now in
    let i = c.loop-task.task-index in
    let number = (get_or boots i (record { 0 = 0 }, Normal)).0.0 in
    let here = boot_fault_at boots i (record { 0 = 0 }, Normal) (omega arith) in
    let some : nat_eq number 0 ≡ false = grind (arith, nat_tests) in
    let there = sym (c.loop-task.invariant.marked number (omega arith)) ∙ ap (has c.loop-task.seen) (sym c.from-number.ensures) ∙ c.if-seen-number.true in
    sym (sym c.loop-task.invariant.free ∙ here ∙ rw (some, there) refl)

pub loop-task-preserved : goal.loop-task-preserved
loop-task-preserved c =
    let boots = c.args.tasks.now in
    let i = c.loop-task.task-index in
    let number = (get_or boots i (record { 0 = 0 }, Normal)).0.0 in
    let here = boot_fault_at boots i (record { 0 = 0 }, Normal) (omega arith) in
    let some : nat_eq number 0 ≡ false = grind (arith, nat_tests) in
    let there = sym (c.loop-task.invariant.marked number (omega arith)) ∙ ap (has c.loop-task.seen) (sym c.from-number.ensures) ∙ c.if-seen-number.false in
    record {
      count = length-set _ _ _ ∙ c.loop-task.invariant.count;
      free = sym (rw (some, there) at here) ∙ c.loop-task.invariant.free;
      marked = λ q h. rw c.from-number.ensures (marked-more c.loop-task.seen boots i (record { 0 = 0 }, Normal) q (omega arith) (omega (arith, c.loop-task.invariant.count)) (c.loop-task.invariant.marked q h));
    }
