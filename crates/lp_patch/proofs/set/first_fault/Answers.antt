use Rattle.std.proofs.Common.{◌≡◌, false, nat_le, get_or, refl, sym, ◌∙◌, arith}
use Rattle.std.proofs.lemmas.Bool.Decides.{nat_tests}
use Rattle.lp_symbols.specs.declared.sym_id.SymId.{SymId}
use Rattle.lp_patch.proofs.SetLemmas.{first_fault_at}
use Rattle.lp_patch.proofs.set.first_fault.Goals as goal

pub returns-then-contains : goal.returns-then-contains
returns-then-contains c =
    let d : SymId = record { 0 = 0 } in
    let here = first_fault_at c.args.symbols c.args.ids.now c.loop-i.i d (omega arith) in
    let known : nat_le c.args.symbols (get_or c.args.ids.now c.loop-i.i d).0 ≡ false = grind (arith, nat_tests, c.index.ensures.value) in
    let there = sym c.contains.ensures.value ∙ c.if-contains.true in
    sym (sym c.loop-i.invariant ∙ here ∙ rw (known, there) refl)

pub loop-i-preserved : goal.loop-i-preserved
loop-i-preserved c =
    let d : SymId = record { 0 = 0 } in
    let here = first_fault_at c.args.symbols c.args.ids.now c.loop-i.i d (omega arith) in
    let known : nat_le c.args.symbols (get_or c.args.ids.now c.loop-i.i d).0 ≡ false = grind (arith, nat_tests, c.index.ensures.value) in
    let new = sym c.contains.ensures.value ∙ c.if-contains.false in
    sym (rw (known, new) at here) ∙ c.loop-i.invariant
