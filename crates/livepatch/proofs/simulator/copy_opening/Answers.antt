use Rattle.std.proofs.Common.{◌≡◌, ◌∙◌, [], ap, is_some, false, sym}
use Rattle.lp_machine.specs.Table.{Engine, no_scan}
use Rattle.livepatch.proofs.Keeping.{kept_where_none}
use Rattle.livepatch.proofs.simulator.copy_opening.Goals as goal

pub returns-clause-kept : goal.returns-clause-kept
returns-clause-kept g c = λ run known same is.
    let none : is_some c.args.opening.now ≡ false = ap is_some c.requires.none in
    kept_where_none g.M.Consistency.rules run known c.args.opening.now c.in_ok-standing.field-0 none (c.in_ok-standing.ensures.same ∙ ap (λ (e : Engine). record e { blames = []; last_scan = no_scan }) (sym same)) is
