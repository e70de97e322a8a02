use Rattle.std.proofs.Common.{◌≡◌, ℕ, List, Some, map, refl, subst, IsTrue}
use Rattle.std.specs.List.{All, slice_get}
use Rattle.std.specs.String.{string_bytes}
use Rattle.std.proofs.lemmas.Option.{slice_get-map, slice_get_within, get_or_from_slice_get}
use Rattle.lp_symbols.specs.Names.{is_name}
use Rattle.lp_symbols.proofs.symbols.Symbols.name.Goals as goal

All-found : {X : Type 0} (P : X → Type 0) (xs : List X) (i : ℕ) (x : X) → All P xs → slice_get xs i ≡ Some x → P x
All-found P xs i x each found = subst P (get_or_from_slice_get xs i x x found) (each i x (slice_get_within xs i x found))

pub returns-clause-proper : goal.returns-clause-proper
returns-clause-proper c =
    let keys = c.self.inside.names.keys in
    let found : slice_get (map string_bytes keys) c.index.result ≡ Some c.as_str.result.now =
    rw (slice_get-map string_bytes keys c.index.result, ← c.in_ok-get_index.ensures.key, c.as_str.ensures.value) refl in
    All-found (λ name. IsTrue (is_name name)) _ _ _ c.self.invariant.proper found
