-- What a reader keeps, in the words of the definitions.
use Rattle.std.proofs.Common.{◌≡◌, ◌<◌, ◌≤◌, ◌+◌, ◌-◌, ℕ, zero, suc, Bool, true, false, List, [], ◌∷◌, ◌++◌, length, take, get_or, Ok, Err, refl, sym, ap, ◌∙◌, arith, inl, inr}
use Rattle.std.proofs.lemmas.List.{get_or_past, length-map, take_all, map-append}
use Rattle.std.specs.Prelude.{Vec, slice_index_or, slice_set, nat_le, nat_lt, ◌==◌, ◌&&◌}
use Rattle.std.specs.List.{list_any}
use Rattle.std.proofs.lemmas.Bool.{and_parts, leb-true}
use Rattle.std.proofs.lemmas.Bool.Decides.{Decides-ltb, Decides-eqb}
use Rattle.lp_symbols.specs.declared.sym_id.SymId.{SymId}
use Rattle.lp_stack.specs.declared.number.TaskId.{TaskId}
use Rattle.lp_stack.specs.declared.view.Class.{Class}
use Rattle.lp_text.specs.declared.fault.Cause.TheVariants as cause
use Rattle.lp_text.specs.Traces.{TraceValue, functions}
use Rattle.lp_text.specs.Reading.{add_boot, begun, grown, task_of}
use Rattle.lp_text.proofs.Choices.{chosen, guard_ok, pass_ok, ok_is}
use Rattle.lp_text.specs.inside.Parsers.{IsTable}

unlike : (m n : ℕ) (b : Bool) → (m == n) ≡ b → ¬ (m ≡ n) → b ≡ false
unlike m n true e h = absurd (h ((Decides-eqb m n).0 e))
unlike m n false e h = refl

-- what a patch has so far
pub record Place (patches : List (List SymId)) (number : ℕ) (had : List SymId) : Type 0 where
  pub had_is : had ≡ slice_index_or patches (number - 1) []
  pub some : 1 ≤ number
  pub last : length patches ≤ number
  pub more : number ≤ length patches + 1
  pub few : length patches ≤ 16 → number ≤ 16

positive : (n : ℕ) (b : Bool) → (n == 0) ≡ b → b ≡ false → 1 ≤ n
positive zero true e h = absurd (cc h)
positive zero false e h = absurd (cc e)
positive (suc n) b e h = omega arith

pub begun_ok : (patches : List (List SymId)) (number : ℕ) (had : List SymId) → begun patches number ≡ Ok had → Place patches number had
unfolding begun
begun_ok patches number had h =
    let first = guard_ok (number == 0) cause.Patch _ had h in
    let some : 1 ≤ number = positive number (number == 0) refl first.0 in
    elim (chosen (number == length patches) _ _ _ first.1) as (λ _. Place patches number had) [
      | inl last ↦ let at : number ≡ length patches = (Decides-eqb number (length patches)).0 last.0 in record { had_is = cc last.1; some = some; last = omega arith; more = omega arith; few = λ short. omega arith }
      | inr other ↦
          let next = pass_ok ((number == length patches + 1) && nat_le number 16) cause.Patch _ had other.1 in
          let parts = and_parts (number == length patches + 1) (nat_le number 16) next.0 in
          let at : number ≡ length patches + 1 = (Decides-eqb number (length patches + 1)).0 parts.0 in
          let sixteen : number ≤ 16 = leb-true number 16 parts.1 in
          record { had_is = sym (ok_is next.1) ∙ sym (get_or_past patches (number - 1) [] (omega arith)); some = some; last = omega arith; more = omega arith; few = λ short. omega arith }
    ]

any_default : {X : Type 0} (xs : List X) (i : ℕ) (d e : X) → i < length xs → get_or xs i d ≡ get_or xs i e
any_default [] i d e h = absurd (omega arith)
any_default (x ∷ xs) zero d e h = refl
any_default (x ∷ xs) (suc i) d e h = any_default xs i d e (omega arith)

pub task_small : (number : ℕ) (task : TaskId) → task_of number ≡ Ok task → task.0 < 65536
unfolding task_of
task_small number task h =
    let fits = pass_ok (nat_le 1 number && nat_lt number 65536) cause.Task _ task h in
    let below : number < 65536 = (Decides-ltb number 65536).0 (and_parts (nat_le 1 number) (nat_lt number 65536) fits.0).1 in
    let same : number ≡ task.0 = ap (λ t. t.0) (ok_is fits.1) in
    omega arith

-- what the table says of a task
table_says : (boots : List (TaskId × Class)) (table : List Bool) (place : ℕ) (b : Bool) → IsTable boots table → place < 65536 → b ≡ slice_index_or table place b → list_any (λ boot. boot.0.0 == place) boots ≡ b
table_says boots table place b h below e =
    let long : place < length table = omega (arith, h.0) in
    sym (h.1 place below) ∙ any_default table place false b long ∙ sym e

module _ (so_far : TraceValue) (table : List Bool) (number : ℕ) (class : Class) (task : TaskId) (place : ℕ) (b : Bool) (h : IsTable so_far.boots table) (is : task_of number ≡ Ok task) (at : place ≡ task.0) (e : b ≡ slice_index_or table place b) where
  said : list_any (λ boot. boot.0.0 == task.0) so_far.boots ≡ b
  said =
      let small : task.0 < 65536 = task_small number task is in
      rw (← at) (table_says so_far.boots table place b h (omega arith) e)

  pub boot_taken : b ≡ true → add_boot so_far (number, class) ≡ Err cause.Task
  unfolding add_boot
  boot_taken set_there = rw (is, said, set_there) refl

  pub boot_free : b ≡ false → add_boot so_far (number, class) ≡ Ok (record so_far { boots = so_far.boots ++ (task, class) ∷ [] })
  unfolding add_boot
  boot_free unset = rw (is, said, unset) refl

module _ {A : Type 0} where
  -- the last patch with a function more
  pub put_last : (patches : List (Vec SymId A)) (at : ℕ) (was patch : Vec SymId A) (func : SymId) → at < length patches → length patches ≤ at + 1 → was ≡ slice_index_or patches at was → patch.items ≡ was.items ++ func ∷ [] → functions (slice_set patches at patch) ≡ take at (functions patches) ++ (slice_index_or (functions patches) at [] ++ func ∷ []) ∷ []
  put_last [] at was patch func below last h e = absurd (omega arith)
  put_last (p ∷ []) zero was patch func below last h e = ap (λ items. items ∷ []) (e ∙ ap (λ v. v.items ++ func ∷ []) h)
  put_last (p ∷ q ∷ ps) zero was patch func below last h e = absurd (omega arith)
  put_last (p ∷ ps) (suc at) was patch func below last h e = ap (λ rest. p.items ∷ rest) (put_last ps at was patch func (omega arith) (omega arith) h e)

  -- one patch more
  pub put_new : (patches : List (Vec SymId A)) (at : ℕ) (patch : Vec SymId A) (func : SymId) → at ≡ length patches → patch.items ≡ func ∷ [] → functions (patches ++ patch ∷ []) ≡ take at (functions patches) ++ (slice_index_or (functions patches) at [] ++ func ∷ []) ∷ []
  put_new patches at patch func last e =
      let long : length (functions patches) ≡ at = length-map patches (λ p. p.items) ∙ sym last in
      rw (get_or_past (functions patches) at [] (omega arith), take_all at (functions patches) (omega arith), map-append, e) refl

pub grown_ok : (patches : List (List SymId)) (number : ℕ) (had : List SymId) (func : SymId) → begun patches number ≡ Ok had → list_any (λ id. id.0 == func.0) had ≡ false → ¬ (length had ≡ 256) → grown patches number func ≡ Ok (slice_index_or patches (number - 1) [] ++ func ∷ [])
unfolding grown
grown_ok patches number had func h fresh few = rw (h, fresh, unlike (length had) 256 (length had == 256) refl few, ← (begun_ok patches number had h).had_is) refl
