use Rattle.std.proofs.Common.{◌<◌, ℕ, List, [], ◌∷◌, ◌++◌, length, map, IsTrue, sym, arith, length-append}
use Rattle.std.proofs.lemmas.Grind.{common_steps}
use Rattle.std.specs.String.{string_bytes}
use Rattle.std.proofs.lemmas.List.{length-map}
use Rattle.std.proofs.lemmas.List.Elements.{All-push}
use Rattle.lp_symbols.specs.Names.{is_name, AreNames}
use Rattle.lp_symbols.proofs.Maps.{bytes-insert_key, maps}
use Rattle.lp_symbols.proofs.symbols.Symbols.add.Goals as goal

AreNames-push : (names : List (List ℕ)) (name : List ℕ) → AreNames names → length names < 4096 → IsTrue (is_name name) → AreNames (names ++ name ∷ [])
AreNames-push names name each room proper = record {
  few = omega (arith, length-append names (name ∷ []));
  proper = All-push (λ it. IsTrue (is_name it)) names name each.proper proper;
}

pub invariant_of-self-2 : goal.invariant_of-self-2
invariant_of-self-2 c =
    let keys = c.self.inside.names.keys in
    let room : length (map string_bytes keys) < 4096 = omega (arith, length-map keys string_bytes) in
    let proper : IsTrue (is_name c.args.name.now) = cc in
    rw (c.in_ok-insert.ensures.keys, bytes-insert_key keys c.in_ok-owned.owned c.args.name.now (cc c.in_ok-owned.ensures.ok) (sym c.if-contains.ensures))
    (AreNames-push _ _ c.self.invariant room proper)

pub returns-clause-added : goal.returns-clause-added
returns-clause-added c =
    rw (c.in_ok-insert.ensures.keys, ← c.self.view_is)
    (bytes-insert_key c.self.inside.names.keys c.in_ok-owned.owned c.args.name.now (cc c.in_ok-owned.ensures.ok) (sym c.if-contains.ensures))

pub returns-then-contains-clause-refused : goal.returns-then-contains-clause-refused
returns-then-contains-clause-refused c = grind (arith, maps)

pub returns-then-contains-clause-number : goal.returns-then-contains-clause-number
returns-then-contains-clause-number c = tt

pub returns-then-contains-clause-added : goal.returns-then-contains-clause-added
returns-then-contains-clause-added c = tt

pub overflow_cast-result : goal.overflow_cast-result
overflow_cast-result c = grind (arith, common_steps)

pub returns-clause-number : goal.returns-clause-number
returns-clause-number c = grind (arith, common_steps)

pub returns-then-number-eq-MOST_SYMBOLS-clause-only_memory : goal.returns-then-number-eq-MOST_SYMBOLS-clause-only_memory
returns-then-number-eq-MOST_SYMBOLS-clause-only_memory c = grind (arith, common_steps)
