use Rattle.std.proofs.Common.{◌∙◌, ℕ, ap, arith, sym}
use Rattle.std.proofs.lemmas.List.{take_all}
use Rattle.lp_symbols.specs.declared.sym_id.SymId.{SymId}
use Rattle.lp_c.specs.Arrays.{symbols_of}
use Rattle.lp_c.proofs.Listed.{map_more}
use Rattle.lp_c.proofs.patches.ids_of.Goals as goal

pub loop-function-preserved : goal.loop-function-preserved
loop-function-preserved c =
    rw (c.in_ok-push.ensures.items, c.loop-function.invariant) (sym (map_more (λ (n : ℕ). (let symbol : SymId = record { 0 = n } in symbol)) c.args.functions.now c.loop-function.function-index _ (omega arith)))

pub returns : goal.returns
returns c = c.loop-function.invariant ∙ ap symbols_of (take_all c.loop-function.function-index c.args.functions.now (omega arith))
