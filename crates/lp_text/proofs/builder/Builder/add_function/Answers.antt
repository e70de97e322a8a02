use Rattle.std.proofs.Common.{◌≡◌, ◌∙◌, ◌<◌, ◌≤◌, ◌-◌, ◌++◌, ◌∷◌, [], take, Ok, refl, ap, sym, arith, ℕ, List, length}
use Rattle.std.specs.Prelude.{IsErr, slice_index_or}
use Rattle.lp_text.specs.Words.{line_of}
use Rattle.lp_text.specs.Traces.{TraceValue, patch_words, name}
use Rattle.lp_text.specs.Reading.{add_function, with_line}
use Rattle.lp_text.proofs.Again.{name_at_some}
use Rattle.lp_text.proofs.Steps.{SoFar}
use Rattle.lp_text.proofs.Builders.{fault_of_line, ended_gives, ended_built, place_few, on_ok, built_limits, line_refused}
use Rattle.lp_text.proofs.Parts.{before_boots, function_line, no_function_line, function_added}
use Rattle.lp_text.proofs.builder.Builder.add_function.Goals as goal

pub returns-then-index-len-clause-gives : goal.returns-then-index-len-clause-gives
returns-then-index-len-clause-gives c =
    let t : TraceValue = c.args.self.now.parser in
    let unknown : length t.symbols ≤ c.args.func.0 = omega (arith, ap length c.requires.symbols) in
    let line : List (List ℕ) = patch_words t.form c.args.number (name t.symbols c.args.func) in
    let refused : IsErr (with_line t line) = rw (no_function_line t c.args.number (before_boots t c.requires.early.0 c.requires.early.1) (omega arith) c.args.func unknown) refl in
    rw c.requires.symbols (line_refused t c.args.self.now.place c.args.self.now.size c.requires.built line refused)

pub returns-in-Err-clause-gives : goal.returns-in-Err-clause-gives
returns-in-Err-clause-gives c =
    let t : TraceValue = c.args.self.now.parser in
    let limits = built_limits t c.args.self.now.place c.args.self.now.size c.requires.built in
    let known : c.args.func.0 < length t.symbols = omega (arith, ap length c.requires.symbols) in
    let func : List ℕ = name t.symbols c.args.func in
    let is : c.name_of-name.result.now ≡ func = c.name_of-name.ensures ∙ ap (λ s. name s c.args.func) c.requires.symbols in
    let says : with_line t (patch_words t.form c.args.number func) ≡ add_function t (c.from.result, c.name_of-name.result.now) =
    function_line t c.args.number (before_boots t c.requires.early.0 c.requires.early.1) (omega arith) func c.requires.single (name_at_some t.symbols c.args.func limits.names known) ∙ ap (λ n. add_function t (n, func)) (sym c.from.ensures) ∙ ap (λ f. add_function t (c.from.result, f)) (sym is)
    in
    rw (c.at_place.ensures, c.requires.symbols) (fault_of_line t c.args.self.now.place c.args.self.now.size c.requires.built (patch_words t.form c.args.number func) c.in-Err.fault _ says c.in-Err.ensures)

pub end_line-requires-clause-place : goal.end_line-requires-clause-place
end_line-requires-clause-place c = place_few c.args.self.now.parser c.args.self.now.place c.args.self.now.size c.requires.built

-- what the line of the function gives
module _ (c : goal.After-end_line) where
  abbrev func : List ℕ
  func = name c.args.self.now.parser.symbols c.args.func

  known : c.args.func.0 < length c.args.self.now.parser.symbols
  known = omega (arith, ap length c.requires.symbols)

  is : c.name_of-name.result.now ≡ func
  is = c.name_of-name.ensures ∙ ap (λ s. name s c.args.func) c.requires.symbols

  read : add_function c.args.self.now.parser (c.args.number, func) ≡ Ok c.add_function.new.self
  read = ap (λ n. add_function c.args.self.now.parser (n, func)) (sym c.from.ensures) ∙ ap (λ f. add_function c.args.self.now.parser (c.from.result, f)) (sym is) ∙ c.in_default.ensures

  limits : SoFar c.args.self.now.parser
  limits = built_limits c.args.self.now.parser c.args.self.now.place c.args.self.now.size c.requires.built

  took : with_line c.args.self.now.parser (patch_words c.args.self.now.parser.form c.args.number func) ≡ Ok c.add_function.new.self
  took = function_line c.args.self.now.parser c.args.number (before_boots c.args.self.now.parser c.requires.early.0 c.requires.early.1) (omega arith) func c.requires.single (name_at_some c.args.self.now.parser.symbols c.args.func limits.names known) ∙ read

  added : c.add_function.new.self ≡ record c.args.self.now.parser { patches = take (c.args.number - 1) c.args.self.now.parser.patches ++ (slice_index_or c.args.self.now.parser.patches (c.args.number - 1) [] ++ c.args.func ∷ []) ∷ [] }
  added = function_added c.args.self.now.parser c.add_function.new.self c.args.number c.args.func limits known read

  bytes : c.function_bytes.result ≡ length (line_of (patch_words c.args.self.now.parser.form c.args.number func))
  bytes = c.function_bytes.ensures ∙ ap (λ f. length (line_of (patch_words f c.args.number c.name_of-name.result.now))) (c.form.ensures ∙ ap (λ v. v.form) added) ∙ ap (λ w. length (line_of (patch_words c.args.self.now.parser.form c.args.number w))) is

pub returns-clause-gives : goal.returns-clause-gives
returns-clause-gives c =
    rw c.requires.symbols (ended_gives c.args.self.now.parser c.args.self.now.place c.args.self.now.size c.requires.built c.add_function.new.self (patch_words c.args.self.now.parser.form c.args.number (func c)) (took c) c.end_line.result c.function_bytes.result c.end_line.new.self.place c.end_line.new.self.size c.end_line.new.self.parser c.end_line.ensures.ended (bytes c) c.end_line.ensures.same)

pub returns-clause-built : goal.returns-clause-built
returns-clause-built c =
    ended_built c.args.self.now.parser c.args.self.now.place c.args.self.now.size c.requires.built c.add_function.new.self (patch_words c.args.self.now.parser.form c.args.number (func c)) (took c) c.end_line.result c.function_bytes.result c.end_line.new.self.place c.end_line.new.self.size c.end_line.new.self.parser c.end_line.ensures.ended (bytes c) c.end_line.ensures.same

pub returns-clause-added : goal.returns-clause-added
returns-clause-added c = on_ok _ c.end_line.result (c.end_line.ensures.same ∙ added c)
