-- What a parser keeps while it reads, and the symbol that it finds.
use Rattle.std.specs.Prelude.{◌≡◌, ℕ, ◌<◌, List, length, Bool, false, ◌==◌, slice_index_or, Result}
use Rattle.std.specs.List.{list_any}
use Rattle.lp_symbols.specs.declared.sym_id.SymId.{SymId}
use Rattle.lp_stack.specs.declared.number.TaskId.{TaskId}
use Rattle.lp_stack.specs.declared.view.Class.{Class}
use Rattle.lp_text.specs.declared.fault.Cause.{Cause}
use Rattle.lp_text.specs.Reading.{◌>>=◌, last_word, symbol_of}

-- a table that says of each task number whether a boot line has it
abbrev pub IsTable : List (TaskId × Class) → List Bool → Type 0
IsTable boots table = (length table ≡ 65536) × ((task : ℕ) → task < 65536 → slice_index_or table task false ≡ list_any (λ boot. boot.0.0 == task) boots)

-- the symbol that the last word names
abbrev pub last_symbol : List (List ℕ) → List (List ℕ) → Result SymId Cause
last_symbol symbols given = do
  name ← last_word given
  symbol_of symbols name
