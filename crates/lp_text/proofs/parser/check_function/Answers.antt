use Rattle.lp_text.proofs.Parsers.{begun_ok, grown_ok}
use Rattle.lp_text.specs.Traces.{functions}
use Rattle.std.proofs.Common.{arith, sym, ◌∙◌}
use Rattle.std.proofs.lemmas.List.{length-map}
use Rattle.lp_text.proofs.parser.check_function.Goals as goal

pub returns-clause-grown : goal.returns-clause-grown
returns-clause-grown c =
    grown_ok (functions c.args.patches.now) c.args.number c.in_ok-had.had.now c.args.func c.in_ok-had.ensures (sym c.contains.ensures.value ∙ c.if-contains.false) c.if-had-eq-MOST_FUNCTIONS.false

pub returns-clause-place : goal.returns-clause-place
returns-clause-place c =
    let place = begun_ok (functions c.args.patches.now) c.args.number c.in_ok-had.had.now c.in_ok-had.ensures in
    let long = length-map c.args.patches.now (λ patch. patch.items) in
    (place.some, omega (arith, place.more, long), omega (arith, place.last, long))
