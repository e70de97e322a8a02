use Rattle.std.proofs.Common.{◌≡◌, Some, List, ℕ, ap, sym, ◌∙◌}
use Rattle.std.specs.Prelude.{slice_get}
use Rattle.lp_text.specs.Reading.{◌>>=◌, symbol_of}
use Rattle.lp_text.proofs.LastWords.{name_alone}
use Rattle.lp_text.proofs.Symbols.{name_at, symbol_at}
use Rattle.lp_text.proofs.symbol_cache.is_name_of.Goals as goal

pub returns-in-Some : goal.returns-in-Some
returns-in-Some c = λ same.
    let symbols = c.args.symbols.now in
    let name = c.args.name.now in
    let text : c.as_bytes.result.now ≡ name = c.is_same.ensures same in
    let place : slice_get symbols c.args.id.0 ≡ Some name = sym c.in-Some.ensures.value ∙ ap (λ (t : List ℕ). Some t) (sym c.as_bytes.ensures.value ∙ text) in
    ap (λ x. x >>= symbol_of symbols) (name_alone name (name_at symbols name c.args.id.0 c.requires.names place))
    ∙ symbol_at symbols name c.args.id.0 c.len.ensures.distinct place
